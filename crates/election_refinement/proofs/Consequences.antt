-- What the laws of the abstract protocol mean for a world that refines it.
use Rattle.std.proofs.Common.{◌≡◌, ℕ, suc, ◌<◌, ◌≤◌, ◌⊎◌, inl, inr, Bool, true, ◌||◌, List, [], ◌∷◌, ◌++◌, Some, arith, ap, le_trans, ◌∙◌, sym, subst}
use Rattle.std.specs.Prelude.{nat_le}
use Rattle.std.proofs.lemmas.Bool.Decides.{nat_tests}
use Rattle.std.proofs.lemmas.Option.{same_Some}
use Rattle.protocol_laws.specs.Ledger.{Ledger, Place, IsAtMost, IsFact}
use Rattle.protocol_laws.specs.Numbers.{epoch_number}
use Rattle.protocol_laws.specs.Protocol.{Step, IsRun}
use Rattle.protocol_laws.proofs.Ranks.{epochs_ordered}
use Rattle.protocol_laws.specs.Elections.{IsClosed, may_accept}
use Rattle.protocol_laws.proofs.Epochs.{run_elections, run_lists}
use Rattle.protocol_laws.proofs.Sound.{Sound, run_sound}
use Rattle.quorums.proofs.Majorities.{quorum_less}
use Rattle.quorums.specs.Quorums.{SharesView}
use Rattle.protocol_laws.proofs.Rising.{run_stays}
use Rattle.ens_base.specs.declared.epoch.Epoch.{Epoch}
use Rattle.peer_state.specs.declared.state.Leadership.{Leadership}
use Rattle.peer_state.specs.declared.state.State.{State}
use Rattle.stored_formats.specs.declared.fact.Fact.{Fact}
use Rattle.peer_state.specs.declared.state.Phase.TheVariants as phases
use Rattle.world_spec.specs.Nodes.{Node, Up, Down}
use Rattle.world_spec.specs.Runs.{Run}
use Rattle.world_spec.specs.Held.{HeldStores}
use Rattle.election_refinement.specs.Refinement.{change_at, may_take, IsFactClosed, second_of, IsOrderly, IsKnown, IsSaved, IsLeading, PhaseHolds, NodeHolds}
use Rattle.election_refinement.specs.Worlds.{Refines, ledger_after, IsRefinement, GoesOn, kept_by, HasFact, Leads, BallotsRise, Agree, FactsAgree, EpochsHaveOneLeader, FactsAreComplete, LedEpochsAreKept, ViewsAreShared}

-- the fact that a peer's stores keep is the one that it saved
saved_of : (l : Ledger) (p : ℕ) (node : Node) (f : Fact) → NodeHolds l p node → kept_by node ≡ Some f → IsSaved l p f
saved_of l p (Up x st) f holds kept = let same : x.fact ≡ f = same_Some x.fact f (sym holds.kept ∙ kept) in subst (IsSaved l p) same holds.saved
saved_of l p (Down st) f holds kept = let same : holds.fact ≡ f = same_Some holds.fact f (sym holds.kept ∙ kept) in subst (IsSaved l p) same holds.saved

saved_in : (l : Ledger) (w : Run) → Refines l w → (place : ℕ) (f : Fact) → HasFact w place f → IsSaved l (suc place) f
saved_in l w refines place f has = saved_of l (suc place) has.node f (refines.nodes place has.node has.at) has.kept

-- no ballot decreases along a run
ballots_rise_on : (view : List ℕ) (more steps : List Step) → IsRun view (more ++ steps) → (q : ℕ) → (ledger_after view steps).ballot q ≤ (ledger_after view (more ++ steps)).ballot q
ballots_rise_on view [] steps run q = omega arith
ballots_rise_on view (step ∷ more) steps run q = le_trans (ballots_rise_on view more steps run.0 q) ((run_stays view (more ++ steps) step run).ballot q)

pub rises : (view : List ℕ) (steps : List Step) (w v : Run) → IsRefinement view steps w → GoesOn view steps v → BallotsRise w v
rises view steps w v refinement on place f g has now below = falls (saved_in (ledger_after view steps) w refinement.refines place f has) (saved_in (ledger_after view (on.more ++ steps)) v on.refinement.refines place g now)
  where
    falls : IsSaved (ledger_after view steps) (suc place) f → IsSaved (ledger_after view (on.more ++ steps)) (suc place) g → ⊥
    falls before after =
        let less = (epochs_ordered g.ballot f.ballot after.known.ballot before.known.ballot).0 below in
        let rise = ballots_rise_on view on.more steps on.refinement.run (suc place) in
        let first = before.ballot in
        let last = after.ballot in
        omega (arith, less, rise, first, last)

same_place : (d e s t : ℕ) → d ≡ e → s ≡ t → ◌≡◌ {A = Place} (record { epoch = d; seq = s }) (record { epoch = e; seq = t })
same_place d e s t epochs seqs = ap (λ n. record { epoch = n; seq = s }) epochs ∙ ap (λ n. record { epoch = e; seq = n }) seqs

known_agree : (l : Ledger) (f g : Fact) → IsKnown l f → IsKnown l g → f.epoch ≡ g.epoch → f.seq ≡ g.seq → Agree f g
known_agree l f g a b same number = record {
  leader = a.leader ∙ ap (λ (e : Epoch). e.proposer) same ∙ sym b.leader;
  views = a.views ∙ ap (λ (e : Epoch). l.views (epoch_number e)) same ∙ sym b.views;
  change = a.change ∙ ap (change_at l) (same_place (epoch_number f.epoch) (epoch_number g.epoch) f.seq g.seq (ap epoch_number same) number) ∙ sym b.change;
}

pub agrees : (view : List ℕ) (steps : List Step) (w : Run) → IsRefinement view steps w → FactsAgree w
agrees view steps w refinement p q f g has too same number =
    known_agree (ledger_after view steps) f g (saved_in (ledger_after view steps) w refinement.refines p f has).known (saved_in (ledger_after view steps) w refinement.refines q g too).known same number

-- what a leading peer asserts
leading_of : (l : Ledger) (p : ℕ) (x : State) (st : HeldStores) (a : Leadership) → NodeHolds l p (Up x st) → x.phase ≡ phases.Leading a → IsLeading l p x.fact a
leading_of l p x st a holds leads = subst (PhaseHolds l p x.fact) leads holds.phase

leading_in : (l : Ledger) (w : Run) → Refines l w → (place : ℕ) (a : Leadership) → (leads : Leads w place a) → IsLeading l (suc place) leads.state.fact a
leading_in l w refines place a leads = leading_of l (suc place) leads.state leads.stores a (refines.nodes place (Up leads.state leads.stores) leads.at) leads.leads

-- a peer is the proposer of the epoch that it leads
leader_of : (l : Ledger) (w : Run) → Refines l w → (place : ℕ) (a : Leadership) → Leads w place a → a.leader.fact.epoch.proposer ≡ suc place
leader_of l w refines place a leads = let leading = leading_in l w refines place a leads in ap (λ (e : Epoch). e.proposer) leading.started.at_ballot ∙ leading.started.own

pub one_leads : (view : List ℕ) (steps : List Step) (w : Run) → IsRefinement view steps w → EpochsHaveOneLeader w
one_leads view steps w refinement p q a b leads too same =
    same_place (sym (leader_of (ledger_after view steps) w refinement.refines p a leads) ∙ ap (λ (e : Epoch). e.proposer) same ∙ leader_of (ledger_after view steps) w refinement.refines q b too)
  where
    same_place : suc p ≡ suc q → p ≡ q
    same_place e = omega (arith, e)

-- no quorum can accept the second fact of a closed epoch
second_of_closed : (l : Ledger) → Sound l → (a : ℕ) → IsClosed l a → IsFactClosed l (second_of a)
second_of_closed l sound a closed = quorum_less (may_accept l a) (may_take l (second_of a)) (l.views a) may closed
  where
    may : (q : ℕ) → may_take l (second_of a) q ≡ true → may_accept l a q ≡ true
    may q h = either (l.ballot q) (l.adopted a q) (l.accepted a q) (sound.peers.both q a) h
      where
        either : (x : ℕ) (s t : Bool) → (s ≡ true → t ≡ true) → (nat_le x a || s) ≡ true → (nat_le x a || t) ≡ true
        either x s t both h = grind (arith, nat_tests)

-- an epoch that is based on a fact of the lower epoch or of a later one is based on this fact, or no
-- quorum can accept the fact any more
module _ (l : Ledger) (sound : Sound l) (orderly : IsOrderly l) (d : ℕ) (elected : l.elected d ≡ true) (later : 0 < d) where
  second_complete : (a : ℕ) → IsAtMost (record { epoch = a; seq = 1 }) (l.base d) ⊎ IsClosed l a → IsAtMost (second_of a) (l.base d) ⊎ IsFactClosed l (second_of a)
  second_complete a (inl (inl below)) = inl (inl below)
  second_complete a (inl (inr same)) = subst (λ (b : ℕ). IsAtMost (second_of b) (l.base d) ⊎ IsFactClosed l (second_of b)) (sym same.0) (orderly.left d elected later)
  second_complete a (inr closed) = inr (second_of_closed l sound a closed)

  fact_complete : (a s : ℕ) → 0 < a → IsFact l (record { epoch = a; seq = s }) → IsAtMost (record { epoch = a; seq = 1 }) (l.base d) ⊎ IsClosed l a → IsAtMost (record { epoch = a; seq = s }) (l.base d) ⊎ IsFactClosed l (record { epoch = a; seq = s })
  fact_complete a s above (inl opening) law = absurd (none a opening.0 above)
    where
      none : (a : ℕ) → a ≡ 0 → 0 < a → ⊥
      none a zero above = omega (arith, zero, above)
  fact_complete a s above (inr (inl first)) law = subst (λ (n : ℕ). IsAtMost (record { epoch = a; seq = n }) (l.base d) ⊎ IsFactClosed l (record { epoch = a; seq = n })) (sym first.1) law
  fact_complete a s above (inr (inr second)) law = subst (λ (n : ℕ). IsAtMost (record { epoch = a; seq = n }) (l.base d) ⊎ IsFactClosed l (record { epoch = a; seq = n })) (sym second.1) (second_complete a law)

pub complete : (view : List ℕ) (steps : List Step) (w : Run) → IsRefinement view steps w → FactsAreComplete (ledger_after view steps) w
complete view steps w refinement p q f g has too later below =
    let l = ledger_after view steps in
    let known = (saved_in l w refinement.refines q g too).known in
    let elected = (saved_in l w refinement.refines p f has).known.elected in
    fact_complete l (run_sound view steps refinement.run) refinement.refines.orderly (epoch_number f.epoch) elected (le_trans later (omega (arith, below))) (epoch_number g.epoch) g.seq later known.is_fact
    ((run_elections view steps refinement.run).completeness (epoch_number f.epoch) (epoch_number g.epoch) elected known.elected later below)

pub led_kept : (view : List ℕ) (steps : List Step) (w : Run) → IsRefinement view steps w → LedEpochsAreKept (ledger_after view steps) w
led_kept view steps w refinement p q a f leads has below =
    let leading = leading_in (ledger_after view steps) w refinement.refines p a leads in
    (run_elections view steps refinement.run).kept (epoch_number f.epoch) (epoch_number a.leader.fact.epoch) (saved_in (ledger_after view steps) w refinement.refines q f has).known.elected leading.started.first.known.elected below leading.established

pub shared : (view : List ℕ) (steps : List Step) (w : Run) → IsRefinement view steps w → ViewsAreShared (ledger_after view steps) w
shared view steps w refinement p f has later =
    let l = ledger_after view steps in
    let known = (saved_in l w refinement.refines p f has).known in
    let list = run_lists view steps refinement.run (epoch_number f.epoch) later known.elected in
    record { from = list.from; is_last = list.is_last; shares = subst (λ (views : List (List ℕ)). SharesView views (l.views list.from)) (sym known.views) list.shares }
