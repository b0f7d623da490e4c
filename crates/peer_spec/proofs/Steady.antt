-- Rule 6 runs at the end of each step, so no leader is still to end its epoch there, nor before the
-- next step.
use Rattle.std.proofs.Common.{◌≡◌, ◌-◌, ◌^◌, ℕ, zero, suc, Bool, true, false, not, ◌||◌, ◌==◌, if◌then◌else◌, List, [], ◌∷◌, ◌++◌, Option, Some, None, refl, sym, subst}
use Rattle.leader.specs.CallTable.{has_calls}
use Rattle.ens_base.specs.View.{IsPeer}
use Rattle.peer_state.specs.PhaseRules.{prepares, next_ballot, Election, Preparing, Starting, may_end, Finishing}
use Rattle.quorums.specs.Quorums.{is_member}
use Rattle.stored_formats.specs.Facts.{views_after}
use Rattle.stored_formats.specs.declared.fact.Fact.{Fact}
use Rattle.phase_rows.specs.Rows.{silent}
use Rattle.phase_rows.specs.Peers.{joined}
use Rattle.step_plans.specs.Calls.{ScanTree}
use Rattle.peer_state.specs.TreeSync.{row_start, row_resume, Running, needs_build, outcome_of, Outcome, Pending, Trusted}
use Rattle.step_plans.specs.Plans.{Done, Out, nothing, Rest, Part, Follows, asked}
use Rattle.step_plans.specs.Sends.{posted_to}
use Rattle.step_plans.specs.Tasks.{named}
use Rattle.step_plans.specs.declared.tasks.Task.{Task}
use Rattle.step_plans.specs.declared.tasks.Task.TheVariants as tasks
use Rattle.phase_rows.specs.declared.phase.PhaseOut.{PhaseOut}
use Rattle.phase_rows.specs.declared.phase.Then.{Then}
use Rattle.phase_rows.specs.declared.phase.Then.TheVariants as thens
use Rattle.phase_rows.specs.declared.rules.PhaseRule.TheVariants as phase_rules
use Rattle.phase_rows.specs.declared.rules.PhaseRule.{PhaseRule}
use Rattle.peer_state.specs.Ages.{IsYoung}
use Rattle.peer_spec.specs.Drives.{row_done, driven, concluded, most_turns, step_of, MayCome}
use Rattle.peer_spec.specs.Syncs.{saved, sealed_if, and_sends, with_sync, accepted, accepted_own, accepted_in, by_outcome, go_on, resume_sync, followed_on}
use Rattle.peer_spec.specs.Kept.{IsStepCall}
use Rattle.peer_state.specs.Moves.{keeps_seal, stopped_leading, without_candidacy, left, left_answers, turned, turned_answers, electing, without_sync}
use Rattle.peer_state.specs.NoAllocation.{is_over, is_over_in, IsSteady}
use Rattle.peer_state.specs.Rows.{while_10, while_13, while_14, ended, while_26}
use Rattle.peer_state.specs.declared.event.Event.{Event}
use Rattle.peer_state.specs.declared.state.ChangeState.{ChangeState}
use Rattle.peer_state.specs.declared.state.ChangeState.TheVariants.{Settled, Wanted, Finishing as Finishes}
use Rattle.peer_state.specs.declared.state.Leadership.{Leadership}
use Rattle.peer_state.specs.declared.state.Phase.{Phase}
use Rattle.peer_state.specs.declared.state.Phase.TheVariants as phases
use Rattle.peer_state.specs.declared.state.State.{State}
use Rattle.peer_spec.proofs.Aging.{asked_asks, sealed_asks, installed_asks, responded_passes, most_is_some}
use Rattle.peer_state.proofs.Names.{NamesOnly, NamesNone, then_13, then_14}
use Rattle.peer_state.proofs.Phases.{by_electing}

-- no change has begun
abbrev pub IsSettled : ChangeState → Type 0
IsSettled Settled = Unit {0}
IsSettled other = ⊥

-- the peer leads no epoch in which a change has begun
abbrev pub HasBegunNone : Phase → Type 0
HasBegunNone (phases.Leading l) = IsSettled l.change
HasBegunNone (phases.Following f) = Unit {0}
HasBegunNone (phases.Probing p) = Unit {0}
HasBegunNone (phases.Electing e) = Unit {0}

settled_steady : (change : ChangeState) (fact : Fact) (unanswered : Bool) → IsSettled change → is_over change fact unanswered ≡ false
settled_steady Settled fact unanswered none = refl
settled_steady (Wanted change) fact unanswered none = absurd none
settled_steady (Finishes f) fact unanswered none = absurd none

none_steady : (phase : Phase) (fact : Fact) → HasBegunNone phase → is_over_in phase fact ≡ false
none_steady (phases.Leading l) fact none = settled_steady l.change fact (has_calls l.leader.table.calls) none
none_steady (phases.Following f) fact none = refl
none_steady (phases.Probing p) fact none = refl
none_steady (phases.Electing e) fact none = refl

stopped_none : (phase : Phase) → HasBegunNone phase → HasBegunNone (stopped_leading phase)
stopped_none (phases.Leading l) none = tt
stopped_none (phases.Following f) none = tt
stopped_none (phases.Probing p) none = tt
stopped_none (phases.Electing e) none = tt

left_none : (leave : Bool) (x : State) → HasBegunNone x.phase → HasBegunNone (left leave x).phase
left_none true x none = stopped_none x.phase none
left_none false x none = none

given_up_none : (e : Election) → HasBegunNone (without_candidacy (phases.Electing e))
given_up_none (Starting new accepts age) = tt
given_up_none (Preparing base promises asked age) = tt

untrusted_none : (phase : Phase) → HasBegunNone (without_candidacy (stopped_leading phase))
untrusted_none (phases.Leading l) = tt
untrusted_none (phases.Following f) = tt
untrusted_none (phases.Probing p) = tt
untrusted_none (phases.Electing e) = given_up_none e

turned_none : (me : ℕ) (t : Then) (x : State) → HasBegunNone x.phase → HasBegunNone (turned me t x).phase
turned_none me thens.Stay x none = none
turned_none me thens.Follow x none = tt
turned_none me (thens.Lead fact) x none = tt
turned_none me thens.Untrust x none = untrusted_none x.phase
turned_none me thens.Put x none = none
turned_none me thens.Resume x none = none
turned_none me (thens.SyncOn fact) x none = none
turned_none me (thens.Rule n) x none = none
turned_none me (thens.OnKeys n) x none = none

module _ (me : ℕ) (P : State → Out → Type 0) where
  -- from each state in which no change has begun, the end is reached
  abbrev Goes : {A : Type 0} → Rest State A → Type 0
  Goes {A} next = (v : A) (y : State) (o : Out) → HasBegunNone y.phase → Follows IsStepCall P (next v y o)

  -- from such a state, the part reaches such states
  abbrev Settles : {A : Type 0} → Part State A → Type 0
  Settles {A} part = (x : State) (out : Out) (next : Rest State A) → HasBegunNone x.phase → Goes next → Follows IsStepCall P (part x out next)

  saved_settles : (save : Option Fact) → Settles (saved save)
  unfolding asked
  saved_settles None x out next none go = go tt x out none
  saved_settles (Some fact) x out next none go = (tt, λ u. go tt (record x { fact = fact }) out none)

  sealed_if_settles : (seals : Bool) (fact : Fact) → Settles (sealed_if seals fact)
  sealed_if_settles true fact x out next none go = sealed_asks P fact x out next (λ seal. go tt (record x { fact = fact; seal = seal }) out none)
  sealed_if_settles false fact x out next none go = saved_settles (Some fact) x out next none go

  -- what follows goes on with these tasks
  abbrev GoesWith : List Task → Rest State (List Task) → Type 0
  GoesWith ts next = (y : State) (o : Out) → HasBegunNone y.phase → Follows IsStepCall P (next ts y o)

  -- after a sync, no task follows, or rule 14 does
  accepted_own_settles : (e : Election) (x : State) (out : Out) (next : Rest State (List Task)) → HasBegunNone x.phase → GoesWith [] next → GoesWith (tasks.Phase phase_rules.EnoughAccepted ∷ []) next → Follows IsStepCall P (accepted_own me e x out next)
  accepted_own_settles (Starting new accepts age) x out next none go own = own (electing (Starting new (joined me accepts) age) x) out tt
  accepted_own_settles (Preparing base promises asked age) x out next none go own = go x out none

  accepted_in_settles : (fact : Fact) (phase : Phase) (x : State) (out : Out) (next : Rest State (List Task)) → HasBegunNone x.phase → GoesWith [] next → GoesWith (tasks.Phase phase_rules.EnoughAccepted ∷ []) next → Follows IsStepCall P (accepted_in me fact phase x out next)
  accepted_in_settles fact (phases.Electing e) x out next none go own = accepted_own_settles e x out next none go own
  accepted_in_settles fact (phases.Following f) x out next none go own = go x (and_sends out (accepted me fact)) none
  accepted_in_settles fact (phases.Probing p) x out next none go own = go x out none
  accepted_in_settles fact (phases.Leading l) x out next none go own = go x out none

  by_outcome_settles : (r : Running) (outcome : Outcome) (x : State) (out : Out) (next : Rest State (List Task)) → HasBegunNone x.phase → GoesWith [] next → GoesWith (tasks.Phase phase_rules.EnoughAccepted ∷ []) next → Follows IsStepCall P (by_outcome me r outcome x out next)
  by_outcome_settles r Pending x out next none go own = go (with_sync r x) out none
  by_outcome_settles r (Trusted entries) x out next none go own =
      installed_asks P (needs_build r.sync.scan entries) entries (without_sync x) out
      (λ u y o. sealed_if (keeps_seal y) r.fact y o (λ v z p. accepted_in me r.fact z.phase (record z { trusted = true }) p next))
      (λ u. sealed_if_settles (keeps_seal (without_sync x)) r.fact (without_sync x) out (λ v z p. accepted_in me r.fact z.phase (record z { trusted = true }) p next) none
      (λ v z p still. accepted_in_settles r.fact z.phase (record z { trusted = true }) p next still go own))

  resumed_settles : (running : Option Running) (x : State) (out : Out) (next : Rest State (List Task)) → HasBegunNone x.phase → GoesWith [] next → Follows IsStepCall P (resume_sync running x out next)
  resumed_settles None x out next none go = go x out none
  resumed_settles (Some r) x out next none go = go (with_sync (row_resume r).0 x) (and_sends out (row_resume r).1) none

  followed_on_settles : (t : Then) (x : State) (out : Out) (next : Rest State (List Task)) → HasBegunNone x.phase → GoesWith [] next → GoesWith (tasks.Phase phase_rules.EnoughAccepted ∷ []) next → GoesWith (named t) next
      → Follows IsStepCall P (followed_on me t x out next)
  followed_on_settles (thens.SyncOn fact) x out next none go own goes =
      asked_asks P ScanTree tt x out (λ scan y o. go_on me (row_start fact me y.trusted scan) y o next)
      (λ scan. let r = row_start fact me x.trusted scan in by_outcome_settles r.0 (outcome_of r.0.sync) x (and_sends out r.1) next none go own)
  followed_on_settles thens.Resume x out next none go own goes = resumed_settles x.sync x out next none go
  followed_on_settles (thens.Rule n) x out next none go own goes = goes x out none
  followed_on_settles (thens.OnKeys n) x out next none go own goes = go x out none
  followed_on_settles thens.Stay x out next none go own goes = go x out none
  followed_on_settles thens.Follow x out next none go own goes = go x out none
  followed_on_settles (thens.Lead fact) x out next none go own goes = go x out none
  followed_on_settles thens.Untrust x out next none go own goes = go x out none
  followed_on_settles thens.Put x out next none go own goes = go x out none

  -- after a row, no task follows, or rule 14 does, or the rule that it names
  row_done_settles : (row : PhaseOut) (x : State) (out : Out) (next : Rest State (List Task)) → HasBegunNone x.phase → GoesWith [] next → GoesWith (tasks.Phase phase_rules.EnoughAccepted ∷ []) next → GoesWith (named row.then) next
      → Follows IsStepCall P (row_done me row x out next)
  row_done_settles row x out next none go own goes =
      saved_settles row.save (left row.leave x) (left_answers row.leave x out)
      (λ u y o. followed_on me row.then (turned me row.then y) (turned_answers row.then y (and_sends o (posted_to row.to row.message))) next) (left_none row.leave x none)
      (λ u y o still. followed_on_settles row.then (turned me row.then y) (turned_answers row.then y (and_sends o (posted_to row.to row.message))) next (turned_none me row.then y still) go own goes)

  nothing_settles : (n : ℕ) → Settles (driven me n [])
  unfolding driven
  nothing_settles zero x out next none go = go [] x out none
  nothing_settles (suc n) x out next none go = go [] x out none

  only_settles : (n : ℕ) (k : PhaseRule) (t : Then) → NamesOnly k t → Settles (driven me n (tasks.Phase k ∷ [])) → Settles (driven me n (named t ++ []))
  only_settles n k (thens.Rule r) is settles = rw is settles
  only_settles n k (thens.OnKeys r) is settles = nothing_settles n
  only_settles n k thens.Stay is settles = nothing_settles n
  only_settles n k thens.Follow is settles = nothing_settles n
  only_settles n k (thens.Lead fact) is settles = nothing_settles n
  only_settles n k thens.Untrust is settles = nothing_settles n
  only_settles n k thens.Put is settles = nothing_settles n
  only_settles n k thens.Resume is settles = nothing_settles n
  only_settles n k (thens.SyncOn fact) is settles = nothing_settles n

  none_settles : (n : ℕ) (t : Then) → NamesNone t → Settles (driven me n (named t ++ []))
  none_settles n (thens.Rule r) is = absurd is
  none_settles n (thens.OnKeys r) is = nothing_settles n
  none_settles n thens.Stay is = nothing_settles n
  none_settles n thens.Follow is = nothing_settles n
  none_settles n (thens.Lead fact) is = nothing_settles n
  none_settles n thens.Untrust is = nothing_settles n
  none_settles n thens.Put is = nothing_settles n
  none_settles n thens.Resume is = nothing_settles n
  none_settles n (thens.SyncOn fact) is = absurd is

  accepted_settles : (n : ℕ) → Settles (driven me n (tasks.Phase phase_rules.EnoughAccepted ∷ []))
  unfolding driven
  accepted_settles zero x out next none go = go _ x out none
  accepted_settles (suc n) x out next none go =
      row_done_settles (while_14 x.phase me x).1 (while_14 x.phase me x).0 out (λ ts y o. driven me n (ts ++ []) y o next) (by_electing (λ r. HasBegunNone r.0.phase) x.phase (λ e is. tt) none)
      (λ y o still. nothing_settles n y o next still go) (λ y o still. accepted_settles n y o next still go)
      (λ y o still. none_settles n (while_14 x.phase me x).1.then (by_electing (λ r. NamesNone r.1.then) x.phase (λ e is. then_14 e me) tt) y o next still go)

  promised_settles : (n : ℕ) → Settles (driven me n (tasks.Phase phase_rules.EnoughPromised ∷ []))
  unfolding driven
  promised_settles zero x out next none go = go _ x out none
  promised_settles (suc n) x out next none go =
      row_done_settles (while_13 x.phase me x).1 (while_13 x.phase me x).0 out (λ ts y o. driven me n (ts ++ []) y o next) (by_electing (λ r. HasBegunNone r.0.phase) x.phase (λ e is. tt) none)
      (λ y o still. nothing_settles n y o next still go) (λ y o still. accepted_settles n y o next still go)
      (λ y o still. only_settles n phase_rules.EnoughAccepted (while_13 x.phase me x).1.then (by_electing (λ r. NamesOnly phase_rules.EnoughAccepted r.1.then) x.phase (λ e is. then_13 e x.fact me x.trusted) tt) (accepted_settles n) y o next still go)

  -- what comes next reaches the end from each steady state
  abbrev GoesOn : Rest State (Unit {0}) → Type 0
  GoesOn next = (y : State) (o : Out) → IsSteady y → Follows IsStepCall P (next tt y o)

  -- what follows a row, until no task is left
  abbrev onward : Rest State (Unit {0}) → Rest State (List Task)
  onward next ts y o = driven me most_turns ts y o (λ rest z q. next tt z q)

  pub no_task : (n : ℕ) (x : State) (out : Out) (next : Rest State (List Task)) → Follows IsStepCall P (next [] x out) → Follows IsStepCall P (driven me n [] x out next)
  unfolding driven
  no_task zero x out next end = end
  no_task (suc n) x out next end = end

  -- rule 10 at the end of an epoch: the peer prepares a ballot or follows, and leads no more
  prepares_or_follows : (n : ℕ) (l : Leadership) (x : State) (out : Out) (next : Rest State (Unit {0})) → GoesOn next
      → Follows IsStepCall P (row_done me (while_10 (phases.Leading l) me x).1 (while_10 (phases.Leading l) me x).0 out (λ ts y o. driven me n (ts ++ []) y o (λ rest z q. next tt z q)))
  prepares_or_follows n l x out next go = by_test (not (is_member (views_after x.fact) me) || x.fact.ballot.count == 2 ^ 64 - 1) refl
    where
      by_test : (t : Bool) → (not (is_member (views_after x.fact) me) || x.fact.ballot.count == 2 ^ 64 - 1) ≡ t
          → Follows IsStepCall P (row_done me (while_10 (phases.Leading l) me x).1 (while_10 (phases.Leading l) me x).0 out (λ ts y o. driven me n (ts ++ []) y o (λ rest z q. next tt z q)))
      by_test true e = rw e (no_task n _ _ (λ rest z q. next tt z q) (go _ _ refl))
      by_test false e = rw e (
          row_done_settles (prepares x.fact me x.fact (next_ballot x.fact.ballot.count me)).0 _ out (λ ts y o. driven me n (ts ++ []) y o (λ rest z q. next tt z q)) tt
          (λ y o still. nothing_settles n y o (λ rest z q. next tt z q) still (λ rest z q none. go z q (none_steady z.phase z.fact none)))
          (λ y o still. accepted_settles n y o (λ rest z q. next tt z q) still (λ rest z q none. go z q (none_steady z.phase z.fact none)))
          (λ y o still. promised_settles n y o (λ rest z q. next tt z q) still (λ rest z q none. go z q (none_steady z.phase z.fact none)))
          )

  prepare_driven : (n : ℕ) (l : Leadership) (x : State) (out : Out) (next : Rest State (Unit {0})) → x.phase ≡ phases.Leading l → GoesOn next
      → Follows IsStepCall P (driven me (suc n) (tasks.Phase phase_rules.Prepare ∷ []) x out (λ rest z q. next tt z q))
  unfolding driven
  prepare_driven n l x out next is go =
      subst (λ k. Follows IsStepCall P (row_done me (while_10 k me x).1 (while_10 k me x).0 out (λ ts y o. driven me n (ts ++ []) y o (λ rest z q. next tt z q)))) (sym is)
      (prepares_or_follows n l x out next go)

  ended_settles : (l : Leadership) (change : ChangeState) (x : State) (out : Out) (next : Rest State (Unit {0})) → x.phase ≡ phases.Leading l → l.change ≡ change → GoesOn next
      → Follows IsStepCall P (row_done me (ended change x.fact me (has_calls l.leader.table.calls)) x out (onward next))
  ended_settles l change x out next is begun go = by_change change begun
    where
      steady : (k : ChangeState) → l.change ≡ k → is_over k x.fact (has_calls l.leader.table.calls) ≡ false → IsSteady x
      steady k e over =
          let Q : Phase → Type 0 = λ phase. is_over_in phase x.fact ≡ false in let R : ChangeState → Type 0 = λ c. is_over c x.fact (has_calls l.leader.table.calls) ≡ false in subst Q (sym is) (subst R (sym e) over)

      by_end : (f : Finishing) → l.change ≡ Finishes f → (t : Bool) → may_end f x.fact (has_calls l.leader.table.calls) ≡ t → (m : Bool)
          → Follows IsStepCall P (row_done me (silent (if t then (if m then thens.Rule phase_rules.Prepare else thens.Follow) else thens.Stay)) x out (onward next))
      by_end f e true may true = rw most_is_some (prepare_driven (2 ^ 64 - 2) l x _ next is go)
      by_end f e true may false = no_task most_turns _ _ (λ rest z q. next tt z q) (go _ _ refl)
      by_end f e false may m = no_task most_turns _ _ (λ rest z q. next tt z q) (go x _ (steady (Finishes f) e may))

      by_change : (k : ChangeState) → l.change ≡ k → Follows IsStepCall P (row_done me (ended k x.fact me (has_calls l.leader.table.calls)) x out (onward next))
      by_change Settled e = no_task most_turns _ _ (λ rest z q. next tt z q) (go x _ (steady Settled e refl))
      by_change (Wanted c) e = no_task most_turns _ _ (λ rest z q. next tt z q) (go x _ (steady (Wanted c) e refl))
      by_change (Finishes f) e = by_end f e (may_end f x.fact (has_calls l.leader.table.calls)) refl (is_member (views_after x.fact) me)

  while_26_settles : (phase : Phase) (x : State) (out : Out) (next : Rest State (Unit {0})) → x.phase ≡ phase → GoesOn next
      → Follows IsStepCall P (row_done me (while_26 phase me x).1 (while_26 phase me x).0 out (onward next))
  while_26_settles (phases.Leading l) x out next is go = ended_settles l l.change x out next is refl go
  while_26_settles other x out next is go = no_task most_turns _ _ (λ rest z q. next tt z q) (go x _ (let Q : Phase → Type 0 = λ phase. is_over_in phase x.fact ≡ false in subst Q (sym is) refl))

  -- the end of a step reaches a steady state
  pub concluded_settles : (x : State) (out : Out) (next : Rest State (Unit {0})) → GoesOn next → Follows IsStepCall P (concluded me x out next)
  concluded_settles x out next go = while_26_settles x.phase x out next refl go

-- a step reaches a steady state
pub steps_steady : (me : ℕ) (event : Event) (x : State) → IsPeer me → MayCome me event → IsYoung x.phase → Follows IsStepCall (λ y o. IsSteady y) (step_of me event x)
steps_steady me event x peer come young =
    let P : State → Out → Type 0 = λ y o. IsSteady y in
    responded_passes me P event x nothing (λ u y o. concluded me y o (λ v z q. Done z q)) young
    (λ u y o good. concluded_settles me P y o (λ v z q. Done z q) (λ z q steady. steady))
