-- Whatever the stores answer, a step makes only the calls of a step, and leaves ages below their
-- limits.
use Rattle.std.specs.Option.{is_some}
use Rattle.std.proofs.Common.{◌≡◌, ◌<◌, ◌+◌, ◌-◌, ◌^◌, ◌∙◌, ◌||◌, nat_le, lit<, sym, ℕ, zero, suc, Bool, true, false, ◌==◌, if◌then◌else◌, List, [], ◌∷◌, ◌++◌, Option, Some, None, refl, arith}
use Rattle.std.proofs.lemmas.Bool.{true≢false}
use Rattle.std.proofs.lemmas.Bool.Decides.{nat_tests}
use Rattle.leader.specs.CallTable.{late_put}
use Rattle.ens_base.specs.View.{IsPeer}
use Rattle.ens_base.specs.declared.entry.Entry.{Entry}
use Rattle.ens_base.specs.declared.epoch.Epoch.{Epoch}
use Rattle.stored_formats.specs.Objects.{object_spelling}
use Rattle.stored_formats.specs.declared.object.Object.{Object}
use Rattle.peer_state.specs.PhaseRules.{row_4, Election, Preparing, Starting, is_served, row_21, row_22, row_23, Follower}
use Rattle.quorums.specs.Quorums.{is_member}
use Rattle.object_commands.specs.Kept.{entry_of, matching, object_in}
use Rattle.leader_output.specs.Outs.{asked_by}
use Rattle.leader_output.specs.declared.out.LeadOut.{LeadOut}
use Rattle.leader_output.specs.declared.out.Outgoing.{Outgoing}
use Rattle.leader_output.specs.declared.out.Own.{Own}
use Rattle.leader_output.specs.declared.out.Own.TheVariants as owns
use Rattle.leader.specs.Puts.{row_35_reply}
use Rattle.leader.specs.Rounds.{row_29_reply, row_33_reply}
use Rattle.leader.specs.Rules.{lead_row}
use Rattle.leader.specs.Starts.{row_27}
use Rattle.leader.specs.Ticks.{aged, is_late}
use Rattle.leader.specs.declared.leader.Leader.{Leader}
use Rattle.leader_laws.proofs.TimeOuts.{row_5_ticks}
use Rattle.stored_formats.specs.declared.fact.Fact.{Fact}
use Rattle.phase_rows.specs.Orders.{is_joint, is_same}
use Rattle.phase_rows.specs.Peers.{joined}
use Rattle.phase_rows.specs.Rows.{silent}
use Rattle.peer_state.specs.TreeSync.{row_start, row_resume, row_take, Running, Give, needs_build, outcome_of, Outcome, Pending, Trusted}
use Rattle.peer_state.specs.TreeExchange.{Question}
use Rattle.tree_node.specs.declared.position.Position.{Position}
use Rattle.tree_node.specs.declared.version.TreeVersion.{TreeVersion}
use Rattle.register_model.specs.declared.note.Note.{Note}
use Rattle.step_plans.specs.Calls.{Call, Save, Root, Find, Enter, ScanTree, ReadNode, Install, Fetch, Put, Hash}
use Rattle.step_plans.specs.Plans.{Plan, Done, Out, nothing, Rest, Part, Follows, asked, noted}
use Rattle.step_plans.specs.Saved.{with_seal}
use Rattle.step_plans.specs.Sends.{posted_to}
use Rattle.step_plans.specs.Tasks.{named, keyed}
use Rattle.step_plans.specs.declared.tasks.Task.{Task}
use Rattle.step_plans.specs.declared.tasks.Task.TheVariants as tasks
use Rattle.step_plans.specs.declared.walked.Walked.{Walked}
use Rattle.step_plans.specs.declared.walked.Walked.TheVariants.{Reached, Broken}
use Rattle.wire_frames.specs.declared.message.Message.{Message}
use Rattle.wire_frames.specs.declared.message.Message.TheVariants as messages
use Rattle.phase_rows.specs.declared.phase.PhaseOut.{PhaseOut}
use Rattle.phase_rows.specs.declared.phase.Seen.{Seen}
use Rattle.phase_rows.specs.declared.phase.Seen.TheVariants as seens
use Rattle.phase_rows.specs.declared.phase.Then.{Then}
use Rattle.phase_rows.specs.declared.phase.Then.TheVariants as thens
use Rattle.phase_rows.specs.declared.rules.PhaseRule.TheVariants as phase_rules
use Rattle.peer_state.specs.Ages.{IsYoung, IsYoungChange, IsYoungElection}
use Rattle.peer_spec.specs.Drives.{row_done, owned, own_key, followed_up, and_row, lead_done, lead, reminded, task_done, driven, ticked, shown, got_ask, after_put, put_done, in_tree, delivered, first, most_turns, responded, concluded, step_of, MayCome}
use Rattle.peer_spec.specs.Syncs.{saved, sealed, sealed_if, and_sends, with_sync, installed, accepted, accepted_own, accepted_in, end_sync, by_outcome, go_on, resume_sync, followed_on, reached, own_node, body_of, shown_node, needs_node, take_give, tree_give}
use Rattle.peer_spec.specs.TreeCalls.{has_position}
use Rattle.peer_spec.specs.Kept.{IsStepCall}
use Rattle.peer_state.specs.Leading.{older, end_of, row_5_calls, wished}
use Rattle.peer_state.specs.Moves.{keeps_seal, left, left_answers, turned, turned_answers, leading, with_leader, electing, following, probing, without_sync}
use Rattle.peer_spec.specs.Owns.{digested, read, kept, fetched, held, looked_at, looked, found_at, found, stored, resealed, entered, written, confirmed}
use Rattle.peer_state.specs.Rows.{runs_sync, begun, phase_row, received, asked_change, leads, changes}
use Rattle.peer_state.specs.declared.event.Event.{Event}
use Rattle.peer_state.specs.declared.event.Event.TheVariants as events
use Rattle.peer_state.specs.declared.state.ChangeState.{ChangeState}
use Rattle.peer_state.specs.declared.state.ChangeState.TheVariants.{Settled, Wanted, Finishing as Finishes}
use Rattle.peer_state.specs.declared.state.Leadership.{Leadership}
use Rattle.peer_state.specs.declared.state.Phase.{Phase}
use Rattle.peer_state.specs.declared.state.Phase.TheVariants as phases
use Rattle.peer_state.specs.declared.state.State.{State}
use Rattle.leader.proofs.Cases.{either}
use Rattle.peer_state.proofs.YoungRows.{left_young, turned_young, phase_row_young, received_young, asked_young}

-- the part makes only the calls of a step, and what follows may take any answer; the state is the
-- same at its end
module _ (P : State → Out → Type 0) where
  abbrev Asks : {A : Type 0} → Part State A → Type 0
  Asks {A} part = (x : State) (out : Out) (next : Rest State A) → ((v : A) → Follows IsStepCall P (next v x out)) → Follows IsStepCall P (part x out next)

  pub asked_asks : (call : Call) → IsStepCall call → Asks (asked call)
  unfolding asked
  asked_asks call is x out next go = (is, λ a. go a)

  digested_asks : (object : Option Object) (bytes : List ℕ) → Asks (digested object bytes)
  digested_asks None bytes x out next go = go None
  digested_asks (Some o) bytes x out next go = asked_asks (Hash bytes) tt x out (λ digest y p. next (Some (o, digest)) y p) (λ digest. go (Some (o, digest)))

  read_asks : (bytes : Option (List ℕ)) → Asks (read bytes)
  read_asks None x out next go = go None
  read_asks (Some bytes) x out next go = digested_asks (object_in bytes) bytes x out next go

  pub kept_asks : (key : List ℕ) → Asks (kept key)
  kept_asks key x out next go = asked_asks (Fetch key) tt x out (λ bytes y p. read bytes y p next) (λ bytes. read_asks bytes x out next go)

  pub fetched_asks : (key : List ℕ) → Asks (fetched key)
  fetched_asks key x out next go = kept_asks key x out (λ o y p. next (seens.Kept o) y p) (λ o. go (seens.Kept o))

  held_asks : (key : List ℕ) (entry : Option Entry) → Asks (held key entry)
  held_asks key None x out next go = go (seens.Held None None)
  held_asks key (Some entry) x out next go =
      kept_asks key x out (λ o y p. next (seens.Held (Some entry) (matching entry o)) y p) (λ o. go (seens.Held (Some entry) (matching entry o)))

  looked_at_asks : (key : List ℕ) (end : Walked (Option Entry)) → Asks (looked_at key end)
  looked_at_asks key (Broken at) x out next go = go (seens.Damaged at)
  looked_at_asks key (Reached entry) x out next go = held_asks key entry x out next go

  pub looked_asks : (key : List ℕ) → Asks (looked key)
  looked_asks key x out next go = asked_asks (Find key) tt x out (λ end y p. looked_at key end y p next) (λ end. looked_at_asks key end x out next go)

  pub found_asks : (key : List ℕ) → Asks (found key)
  found_asks key x out next go = asked_asks (Find key) tt x out (λ end y p. next (found_at end) y p) (λ end. go (found_at end))

  -- the same of a part at whose end the peer may have another seal
  abbrev AsksAnew : {A : Type 0} → Part State A → Type 0
  AsksAnew {A} part = (x : State) (out : Out) (next : Rest State A) → ((v : A) (seal : Option (List ℕ)) → Follows IsStepCall P (next v (record x { seal = seal }) out)) → Follows IsStepCall P (part x out next)

  pub sealed_asks : (fact : Fact) (x : State) (out : Out) (next : Rest State (Unit {0})) → ((seal : Option (List ℕ)) → Follows IsStepCall P (next tt (record x { fact = fact; seal = seal }) out)) → Follows IsStepCall P (sealed fact x out next)
  sealed_asks fact x out next go =
      asked_asks Root tt x out (λ root y o. asked (Save (with_seal root fact)) y o (λ u z q. next tt (record z { fact = fact; seal = root }) q))
      (λ root. asked_asks (Save (with_seal root fact)) tt x out (λ u z q. next tt (record z { fact = fact; seal = root }) q) (λ u. go root))

  pub resealed_asks : (seals : Bool) → AsksAnew (resealed seals)
  resealed_asks true x out next go = sealed_asks x.fact x out next (λ seal. go tt seal)
  resealed_asks false x out next go = go tt x.seal

  entered_asks : (o : Object) (bytes digest : List ℕ) (end : Walked (Unit {0})) → AsksAnew (entered o bytes digest end)
  entered_asks o bytes digest (Broken at) x out next go = go (seens.Damaged at) x.seal
  entered_asks o bytes digest (Reached u) x out next go =
      resealed_asks (is_some x.seal) x out (λ v y p. stored o bytes digest y p next)
      (λ v seal. asked_asks (Put o.key bytes) tt (record x { seal = seal }) out (λ w y p. next (seens.Stored digest) y p) (λ w. go (seens.Stored digest) seal))

  pub written_asks : (o : Object) → AsksAnew (written o)
  written_asks o x out next go =
      let bytes = object_spelling o in
      asked_asks (Hash bytes) tt x out (λ digest y p. asked (Enter (entry_of o digest)) y p (λ end z q. entered o bytes digest end z q next))
      (λ digest. asked_asks (Enter (entry_of o digest)) tt x out (λ end z q. entered o bytes digest end z q next) (λ end. entered_asks o bytes digest end x out next go))

  pub confirmed_asks : (entry : Option Entry) (object : Option Object) → Asks (confirmed entry object)
  confirmed_asks None object x out next go = go None
  confirmed_asks (Some entry) None x out next go = go None
  confirmed_asks (Some entry) (Some o) x out next go =
      asked_asks (Hash (object_spelling o)) tt x out (λ digest y p. next (matching entry (Some (o, digest))) y p) (λ digest. go (matching entry (Some (o, digest))))

  pub if_follows : (test : Bool) (p q : Plan State) → Follows IsStepCall P p → Follows IsStepCall P q → Follows IsStepCall P (if test then p else q)
  if_follows true p q first second = first
  if_follows false p q first second = second

  pub owned_asks : (own : Own) → AsksAnew (owned own)
  owned_asks (owns.Fetch key) x out next go = fetched_asks key x out next (λ seen. go seen x.seal)
  owned_asks (owns.Look key) x out next go = looked_asks key x out next (λ seen. go seen x.seal)
  owned_asks (owns.Put o) x out next go = written_asks o x out next go

  pub noted_follows : (notes : List Note) (p : Plan State) → Follows IsStepCall P p → Follows IsStepCall P (noted notes p)
  noted_follows [] p follows = follows
  noted_follows (n ∷ notes) p follows = noted_follows notes p follows

  pub installed_asks : (needed : Bool) (entries : List Entry) → Asks (installed needed entries)
  installed_asks true entries x out next go = asked_asks (Install entries) tt x out next go
  installed_asks false entries x out next go = go tt

  pub own_node_asks : (needed : Bool) (at : Position) → Asks (own_node needed at)
  own_node_asks true at x out next go = asked_asks (ReadNode at) tt x out (λ walked y o. next (reached walked) y o) (λ walked. go (reached walked))
  own_node_asks false at x out next go = go None

  pub shown_node_asks : (tree : TreeVersion) (answered : Bool) (q : Question) → Asks (shown_node tree answered q)
  shown_node_asks tree true q x out next go = asked_asks (ReadNode q.position) tt x out (λ walked y o. next (Some (body_of tree q walked)) y o) (λ walked. go (Some (body_of tree q walked)))
  shown_node_asks tree false q x out next go = go None

  pub shown_asks : (served : Bool) (part : Part State Seen) → Asks part → Asks (shown served part)
  shown_asks true part asks x out next go = asks x out next go
  shown_asks false part asks x out next go = go seens.Nothing

pub most_is_some : most_turns ≡ suc (2 ^ 64 - 2)
unfolding most_turns
most_is_some = omega arith

older_spent : (n : ℕ) → n < 8 → (n + 1 == 8) ≡ false → n + 1 < 8
older_spent n young e = grind (arith, nat_tests)

younger : (n : ℕ) → n < 6 → (n + 1 == 6) ≡ false → n + 1 < 6
younger n young e = grind (arith, nat_tests)

below_8 : (n : ℕ) → nat_le 8 n ≡ false → n < 8
below_8 n e = grind (arith, nat_tests)

second_false : (a b : Bool) → (a || b) ≡ false → b ≡ false
second_false true b e = absurd (true≢false e)
second_false false b e = e

-- an ending epoch that is not late is below its limit after one more tick
older_young : (change : ChangeState) → is_late (end_of (older change)) ≡ false → IsYoungChange (older change)
older_young Settled e = tt
older_young (Wanted change) e = tt
older_young (Finishes f) e = below_8 (f.age + 1) e

wished_young : (fact : Fact) (change : ChangeState) → IsYoungChange change → IsYoungChange (wished fact change)
wished_young fact Settled young = either IsYoungChange (is_joint fact.views) _ _ tt tt
wished_young fact (Wanted change) young = tt
wished_young fact (Finishes f) young = young

left_tick_young : (leave : Bool) (m : Leadership) (x : State) → (leave ≡ false → IsYoungChange m.change) → IsYoung (left leave (leading m x)).phase
left_tick_young true m x young = lit< tt
left_tick_young false m x young = young refl

-- a leader whose ending epoch is late steps down at a tick
ticked_young : (l : Leadership) (x : State) → IsYoung (left (row_5_calls x.fact l).1.leave (leading (row_5_calls x.fact l).0 x)).phase
ticked_young l x =
    let tick = row_5_ticks (end_of (older l.change)) l.leader in
    left_tick_young (row_5_calls x.fact l).1.leave (row_5_calls x.fact l).0 x
    (λ e. older_young l.change (second_false (late_put (aged l.leader.table)) (is_late (end_of (older l.change))) (sym tick.timely.leave ∙ e)))

module _ (me : ℕ) (P : State → Out → Type 0) where
  abbrev Goes : {A : Type 0} → Rest State A → Type 0
  Goes {A} next = (v : A) (y : State) (o : Out) → IsYoung y.phase → Follows IsStepCall P (next v y o)

  -- from a state with ages below their limits the part makes only the calls of a step, and reaches
  -- such states
  abbrev Passes : {A : Type 0} → Part State A → Type 0
  Passes {A} part = (x : State) (out : Out) (next : Rest State A) → IsYoung x.phase → Goes next → Follows IsStepCall P (part x out next)

  saved_passes : (save : Option Fact) → Passes (saved save)
  saved_passes None x out next young go = go tt x out young
  saved_passes (Some fact) x out next young go =
      asked_asks P (Save (with_seal x.seal fact)) tt x out (λ u y o. next tt (record y { fact = fact }) o) (λ u. go tt (record x { fact = fact }) out young)

  sealed_if_passes : (seals : Bool) (fact : Fact) → Passes (sealed_if seals fact)
  sealed_if_passes true fact x out next young go = sealed_asks P fact x out next (λ seal. go tt (record x { fact = fact; seal = seal }) out young)
  sealed_if_passes false fact x out next young go = saved_passes (Some fact) x out next young go

  accepted_own_passes : (e : Election) → IsYoungElection e → Passes (accepted_own me e)
  accepted_own_passes (Starting new accepts age) is x out next young go = go (tasks.Phase phase_rules.EnoughAccepted ∷ []) (electing (Starting new (joined me accepts) age) x) out is
  accepted_own_passes (Preparing base promises asked age) is x out next young go = go [] x out young

  accepted_in_passes : (fact : Fact) (phase : Phase) → IsYoung phase → Passes (accepted_in me fact phase)
  accepted_in_passes fact (phases.Electing e) is x out next young go = accepted_own_passes e is x out next young go
  accepted_in_passes fact (phases.Following f) is x out next young go = go [] x (and_sends out (accepted me fact)) young
  accepted_in_passes fact (phases.Probing p) is x out next young go = go [] x out young
  accepted_in_passes fact (phases.Leading l) is x out next young go = go [] x out young

  end_sync_passes : (r : Running) (entries : List Entry) → Passes (end_sync me r entries)
  end_sync_passes r entries x out next young go =
      installed_asks P (needs_build r.sync.scan entries) entries (without_sync x) out
      (λ u y o. sealed_if (keeps_seal y) r.fact y o (λ v z p. accepted_in me r.fact z.phase (record z { trusted = true }) p next))
      (λ u. sealed_if_passes (keeps_seal (without_sync x)) r.fact (without_sync x) out (λ v z p. accepted_in me r.fact z.phase (record z { trusted = true }) p next) young
      (λ v z p fine. accepted_in_passes r.fact z.phase fine (record z { trusted = true }) p next fine go))

  by_outcome_passes : (r : Running) (outcome : Outcome) → Passes (by_outcome me r outcome)
  by_outcome_passes r Pending x out next young go = go [] (with_sync r x) out young
  by_outcome_passes r (Trusted entries) x out next young go = end_sync_passes r entries x out next young go

  go_on_passes : (r : Running × List Outgoing) → Passes (go_on me r)
  go_on_passes r x out next young go = by_outcome_passes r.0 (outcome_of r.0.sync) x (and_sends out r.1) next young go

  resumed_passes : (running : Option Running) → Passes (resume_sync running)
  resumed_passes None x out next young go = go [] x out young
  resumed_passes (Some r) x out next young go = go [] (with_sync (row_resume r).0 x) (and_sends out (row_resume r).1) young

  followed_on_passes : (t : Then) → Passes (followed_on me t)
  followed_on_passes (thens.SyncOn fact) x out next young go =
      asked_asks P ScanTree tt x out (λ scan y o. go_on me (row_start fact me y.trusted scan) y o next) (λ scan. go_on_passes (row_start fact me x.trusted scan) x out next young go)
  followed_on_passes thens.Resume x out next young go = resumed_passes x.sync x out next young go
  followed_on_passes (thens.Rule n) x out next young go = go (named (thens.Rule n)) x out young
  followed_on_passes (thens.OnKeys n) x out next young go = go [] x out young
  followed_on_passes thens.Stay x out next young go = go [] x out young
  followed_on_passes thens.Follow x out next young go = go [] x out young
  followed_on_passes (thens.Lead fact) x out next young go = go [] x out young
  followed_on_passes thens.Untrust x out next young go = go [] x out young
  followed_on_passes thens.Put x out next young go = go [] x out young

  take_give_passes : (tree : TreeVersion) (from : ℕ) (give : Give) (own : Option (List ℕ)) (running : Option Running) → Passes (take_give tree me from give own running)
  take_give_passes tree from give own None x out next young go = go [] x out young
  take_give_passes tree from give own (Some r) x out next young go = go_on_passes (row_take tree from give own r) x out next young go

  pub row_done_passes : (row : PhaseOut) → Passes (row_done me row)
  row_done_passes row x out next young go =
      saved_passes row.save (left row.leave x) (left_answers row.leave x out)
      (λ u y o. followed_on me row.then (turned me row.then y) (turned_answers row.then y (and_sends o (posted_to row.to row.message))) next)
      (left_young row.leave x young)
      (λ u y o fine. followed_on_passes row.then (turned me row.then y) (turned_answers row.then y (and_sends o (posted_to row.to row.message))) next (turned_young me row.then y fine) go)

  followed_up_passes : (own : Option Own) (turn : Then) (keys : List (List ℕ)) → Passes (followed_up me own turn keys)
  followed_up_passes None turn keys x out next young go = go (keyed turn keys) (turned me turn x) (turned_answers turn x out) (turned_young me turn x young)
  followed_up_passes (Some own) turn keys x out next young go =
      owned_asks P own x out (λ seen y o. next (tasks.Again (asked_by own) (own_key own) seen ∷ []) y o) (λ seen seal. go (tasks.Again (asked_by own) (own_key own) seen ∷ []) (record x { seal = seal }) out young)

  lead_done_goes : (row : LeadOut) (x : State) (out : Out) (next : Rest State (List Task)) → IsYoung (left row.leave x).phase → Goes next → Follows IsStepCall P (lead_done me row x out next)
  lead_done_goes row x out next young go =
      noted_follows P row.notes (followed_up me row.own row.then row.keys (left row.leave x) (and_row row x out) next)
      (followed_up_passes row.own row.then row.keys (left row.leave x) (and_row row x out) next young go)

  lead_passes : (row : Leader → Leader × LeadOut) (phase : Phase) → IsYoung phase → Passes (lead row me phase)
  lead_passes row (phases.Leading l) is x out next young go =
      let now = leading (with_leader (row l.leader).0 l) x in lead_done_goes (row l.leader).1 now out next (left_young (row l.leader).1.leave now is) go
  lead_passes row (phases.Following f) is x out next young go = go [] x out young
  lead_passes row (phases.Probing p) is x out next young go = go [] x out young
  lead_passes row (phases.Electing e) is x out next young go = go [] x out young

  reminded_passes : (phase : Phase) → IsYoung phase → Passes (reminded phase)
  reminded_passes (phases.Leading l) is x out next young go = go _ _ _ (wished_young l.leader.fact l.change is)
  reminded_passes (phases.Following f) is x out next young go = go [] x out young
  reminded_passes (phases.Probing p) is x out next young go = go [] x out young
  reminded_passes (phases.Electing e) is x out next young go = go [] x out young

  task_done_passes : (t : Task) → Passes (task_done me t)
  task_done_passes (tasks.Phase n) x out next young go = row_done_passes (phase_row n me x).1 (phase_row n me x).0 out next (phase_row_young n me x young) go
  task_done_passes tasks.Remind x out next young go = reminded_passes x.phase young x out next young go
  task_done_passes (tasks.Key n key) x out next young go = lead_passes (lead_row n key seens.Nothing) x.phase young x out next young go
  task_done_passes (tasks.Again n key seen) x out next young go = lead_passes (lead_row n key seen) x.phase young x out next young go

  driven_passes : (n : ℕ) (ts : List Task) → Passes (driven me n ts)
  unfolding driven
  driven_passes zero ts x out next young go = go ts x out young
  driven_passes (suc n) [] x out next young go = go [] x out young
  driven_passes (suc n) (t ∷ ts) x out next young go =
      task_done_passes t x out (λ more y o. driven me n (more ++ ts) y o next) young (λ more y o fine. driven_passes n (more ++ ts) y o next fine go)

  -- if rule 7 runs next, the age before it may be at its limit
  driven_7 : (n : ℕ) (x : State) (out : Out) (next : Rest State (List Task)) → Goes next → Follows IsStepCall P (driven me (suc n) (tasks.Phase phase_rules.BeginProbing ∷ []) x out next)
  unfolding driven
  driven_7 n x out next go =
      row_done_passes (begun me x).1 (begun me x).0 out (λ more y o. driven me n (more ++ []) y o next) (lit< tt)
      (λ more y o fine. driven_passes n (more ++ []) y o next fine go)

  -- what follows a row, until no task is left
  abbrev onward : Rest State (Unit {0}) → Rest State (List Task)
  onward next ts y o = driven me most_turns ts y o (λ rest z q. next tt z q)

  onward_goes : (next : Rest State (Unit {0})) → Goes next → Goes (onward next)
  onward_goes next go ts y o young = driven_passes most_turns ts y o (λ rest z q. next tt z q) young (λ rest z q fine. go tt z q fine)

  -- a tick that runs rule 7, or leaves ages below their limits
  aged_passes : (t : Bool) (y : State) (out : Out) (next : Rest State (Unit {0})) → (t ≡ false → IsYoung y.phase) → Goes next
      → Follows IsStepCall P (row_done me (silent (if t then thens.Rule phase_rules.BeginProbing else thens.Stay)) y out (onward next))
  aged_passes true y out next young go = rw most_is_some (driven_7 (2 ^ 64 - 2) y (and_sends out []) (λ rest z q. next tt z q) (λ rest z q fine. go tt z q fine))
  aged_passes false y out next young go = row_done_passes (silent thens.Stay) y out (onward next) (young refl) (onward_goes next go)

  follower_passes : (f : Follower) → f.quiet < 6 → (x : State) (out : Out) (next : Rest State (Unit {0})) → Goes next → Follows IsStepCall P (ticked me (phases.Following f) x out (onward next))
  follower_passes f young x out next go = by_test (is_member x.fact.views me) refl
    where
      by_test : (t : Bool) → is_member x.fact.views me ≡ t → Follows IsStepCall P (ticked me (phases.Following f) x out (onward next))
      by_test true e = rw e (aged_passes (f.quiet + 1 == 6) (following (record f { quiet = f.quiet + 1 }) x) out next (younger f.quiet young) go)
      by_test false e = rw e (row_done_passes (silent thens.Stay) (following f x) out (onward next) young (onward_goes next go))

  electing_passes : (e : Election) → IsYoungElection e → (x : State) (out : Out) (next : Rest State (Unit {0})) → Goes next → Follows IsStepCall P (ticked me (phases.Electing e) x out (onward next))
  electing_passes (Preparing base promises asked age) young x out next go =
      aged_passes (age + 1 == 6) (electing (Preparing base promises asked (age + 1)) x) out next (λ e. (younger age young.0 e, tt)) go
  electing_passes (Starting new accepts age) young x out next go = by_test (age + 1 == 8) refl
    where
      by_test : (t : Bool) → (age + 1 == 8) ≡ t → Follows IsStepCall P (ticked me (phases.Electing (Starting new accepts age)) x out (onward next))
      by_test true e = rw e (onward_goes next go [] _ _ (lit< tt))
      by_test false e = row_done_passes (row_4 (Starting new accepts age) me (runs_sync x.sync)).1 (electing (row_4 (Starting new accepts age) me (runs_sync x.sync)).0 x) out (onward next)
          (tt, older_spent age young.1 e) (onward_goes next go)

  ticked_passes : (phase : Phase) → IsYoung phase → (x : State) (out : Out) (next : Rest State (Unit {0})) → Goes next → Follows IsStepCall P (ticked me phase x out (onward next))
  ticked_passes (phases.Following f) young x out next go = follower_passes f young x out next go
  ticked_passes (phases.Probing p) young x out next go =
      aged_passes (p.age + 1 == 6) (probing (record p { age = p.age + 1 }) x) out next (younger p.age young) go
  ticked_passes (phases.Electing e) young x out next go = electing_passes e young x out next go
  ticked_passes (phases.Leading l) young x out next go =
      lead_done_goes (row_5_calls x.fact l).1 (leading (row_5_calls x.fact l).0 x) out (λ ts y o. onward next (ts ++ tasks.Remind ∷ []) y o) (ticked_young l x)
      (λ ts y o fine. onward_goes next go (ts ++ tasks.Remind ∷ []) y o fine)

  put_done_passes : (turn : Then) (from : ℕ) (ballot : Epoch) (o : Object) (row : PhaseOut) → Passes (put_done turn me from ballot o row)
  put_done_passes thens.Put from ballot o row x out next young go =
      written_asks P o x out (λ seen y p. row_done me (after_put from ballot row seen) y p next) (λ seen seal. row_done_passes (after_put from ballot row seen) (record x { seal = seal }) out next young go)
  put_done_passes other from ballot o row x out next young go = row_done_passes row x out next young go

  got_ask_passes : (from : ℕ) (ballot : Epoch) (q : Question) → Passes (got_ask me from ballot q)
  got_ask_passes from ballot q x out next young go =
      shown_node_asks P x.mode.tree (is_same ballot x.fact.ballot) q x out (λ body y o. row_done me (row_23 y.fact y.trusted from ballot q.position q.after body) y o next)
      (λ body. row_done_passes (row_23 x.fact x.trusted from ballot q.position q.after body) x out next young go)

  tree_give_passes : (from : ℕ) (give : Give) → Passes (tree_give me from give)
  tree_give_passes from give x out next young go =
      own_node_asks P (needs_node x.mode.tree from give x.sync) give.question.position x out (λ own y o. take_give x.mode.tree me from give own y.sync y o next)
      (λ own. take_give_passes x.mode.tree from give own x.sync x out next young go)

  -- a message about a node that the tree does not have does nothing
  in_tree_passes : (has : Bool) (part : Part State (List Task)) → Passes part → Passes (in_tree has part)
  in_tree_passes true part passes x out next young go = passes x out next young go
  in_tree_passes false part passes x out next young go = go [] x out young

  delivered_passes : (from : ℕ) (message : Message) → Passes (delivered me from message)
  delivered_passes from (messages.Get ballot round key) x out next young go =
      shown_asks P (is_served x.fact x.trusted ballot) (looked key) (looked_asks P key) x out (λ seen y o. row_done me (row_21 y.fact y.trusted from ballot round key seen) y o next)
      (λ seen. row_done_passes (row_21 x.fact x.trusted from ballot round key seen) x out next young go)
  delivered_passes from (messages.Put ballot o) x out next young go =
      shown_asks P (is_served x.fact x.trusted ballot) (found o.key) (found_asks P o.key) x out
      (λ seen y p. put_done (row_22 y.fact y.trusted from ballot o seen).then me from ballot o (row_22 y.fact y.trusted from ballot o seen) y p next)
      (λ seen. put_done_passes (row_22 x.fact x.trusted from ballot o seen).then from ballot o (row_22 x.fact x.trusted from ballot o seen) x out next young go)
  delivered_passes from (messages.GetReply ballot round key entry object) x out next young go =
      if_follows P (leads x.phase) _ _
      (confirmed_asks P entry object x out (λ named y o. lead (row_29_reply from ballot round key entry named) me y.phase y o next)
      (λ named. lead_passes (row_29_reply from ballot round key entry named) x.phase young x out next young go))
      (go [] x out young)
  delivered_passes from (messages.PutReply ballot key version) x out next young go = lead_passes (row_35_reply from ballot key version) x.phase young x out next young go
  delivered_passes from (messages.CheckReply ballot round) x out next young go = lead_passes (row_33_reply from ballot round) x.phase young x out next young go
  delivered_passes from (messages.TreeAsk ballot at after) x out next young go =
      let q : Question = record { position = at; after = after } in
      in_tree_passes (has_position x.mode.tree at) (got_ask me from ballot q) (got_ask_passes from ballot q) x out next young go
  delivered_passes from (messages.TreeGive ballot at after trusted body) x out next young go =
      let give : Give = record { ballot = ballot; question = record { position = at; after = after }; trusted = trusted; body = body } in
      in_tree_passes (has_position x.mode.tree at) (tree_give me from give) (tree_give_passes from give) x out next young go
  delivered_passes from message x out next young go =
      row_done_passes (received me from message x).1 (received me from message x).0 out next (received_young me from message x young) go

  pub responded_passes : (event : Event) → Passes (responded me event)
  responded_passes (events.Deliver from message) x out next young go = delivered_passes from message x out (onward next) young (onward_goes next go)
  responded_passes events.Tick x out next young go = ticked_passes x.phase young x out next go
  responded_passes (events.Call call) x out next young go =
      if_follows P (leads x.phase) _ _
      (lead_passes (row_27 call.from call.id call.key call.command (changes x.phase)) x.phase young x out (onward next) young (onward_goes next go))
      (onward_goes next go [] x _ young)
  responded_passes (events.Change view) x out next young go =
      row_done_passes (asked_change view x).1.0 (asked_change view x).0 _ (onward next) (asked_young view x young) (onward_goes next go)

  concluded_passes : Passes (concluded me)
  concluded_passes x out next young go = task_done_passes (tasks.Phase phase_rules.EndEpoch) x out (onward next) young (onward_goes next go)

-- a step makes only its calls, and leaves ages below their limits
pub steps_young : (me : ℕ) (event : Event) (x : State) → IsPeer me → MayCome me event → IsYoung x.phase → Follows IsStepCall (λ y out. IsYoung y.phase) (step_of me event x)
steps_young me event x peer come young =
    let P : State → Out → Type 0 = λ y out. IsYoung y.phase in
    responded_passes me P event x nothing (λ u y o. concluded me y o (λ v z q. Done z q)) young
    (λ u y o fine. concluded_passes me P y o (λ v z q. Done z q) fine (λ v z q young. young))
