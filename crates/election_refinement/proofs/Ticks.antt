-- Rules 2 to 5: a tick.
use Rattle.std.specs.Prelude.{All}
use Rattle.std.proofs.Common.{◌≡◌, ℕ, zero, suc, ◌≤◌, ◌+◌, Bool, ◌==◌, if◌then◌else◌, [], ◌∷◌, Option, arith}
use Rattle.std.proofs.lemmas.List.Elements.{All-nil, All-cons, All-append}
use Rattle.quorums.specs.Quorums.{is_member}
use Rattle.protocol_laws.specs.Ledger.{Ledger}
use Rattle.phase_rules.specs.declared.election.Election.TheVariants.{Preparing, Starting}
use Rattle.ens_base.specs.PeerSet.{holds}
use Rattle.phase_rules.specs.declared.follower.Follower.{Follower}
use Rattle.leader_output.specs.Sends.{is_other}
use Rattle.leader_output.specs.declared.out.Outgoing.{Outgoing}
use Rattle.leader.specs.Ticks.{finishing_message, tick_message, ticks_up_to}
use Rattle.peer_state.specs.Moves.{electing, following}
use Rattle.peer_state.specs.Leading.{end_of}
use Rattle.peer_state.specs.Rows.{aged, runs_sync}
use Rattle.peer_state.specs.declared.state.ChangeState.{ChangeState}
use Rattle.peer_state.specs.declared.state.ChangeState.TheVariants.{Settled, Wanted, Finishing as Finishes}
use Rattle.peer_state.specs.declared.state.Leadership.{Leadership}
use Rattle.peer_state.specs.declared.state.Phase.{Phase}
use Rattle.peer_state.specs.declared.state.Phase.TheVariants as phases
use Rattle.peer_state.specs.declared.state.State.{State}
use Rattle.stored_formats.specs.declared.fact.Fact.{Fact}
use Rattle.phase_rows.specs.Peers.{others_outside}
use Rattle.phase_rows.specs.Rows.{silent, sends}
use Rattle.wire_frames.specs.declared.message.Message.TheVariants as messages
use Rattle.phase_rows.specs.declared.phase.PhaseOut.{PhaseOut}
use Rattle.phase_rows.specs.declared.phase.Then.{Then}
use Rattle.phase_rows.specs.declared.phase.Then.TheVariants as thens
use Rattle.phase_rows.specs.declared.rules.PhaseRule.TheVariants as phase_rules
use Rattle.election_refinement.proofs.Reaching.{Course}
use Rattle.election_refinement.proofs.Rows.{Fits, Goes, unmoved, enters, quiet, follows, rests_in, names}
use Rattle.election_refinement.proofs.Tests.{by_test}
use Rattle.election_refinement.specs.Refinement.{IsSecond, ChangeHolds, IsLeading, PhaseHolds, may_wait, SyncHolds, MessageHolds, SendHolds}

-- a leader tells a peer that accepted the epoch of the second fact, or that it is alive
told_after : (l : Ledger) (p : ℕ) (fact : Fact) (y : Leadership) → IsLeading l p fact y → (fact.seq ≡ 2 → IsSecond l fact) → (change : ChangeState) → ChangeHolds l fact change → (q : ℕ) → MessageHolds l p (finishing_message (end_of change) fact y.leader q)
told_after l p fact y leading second Settled old q = record { elected = leading.started.first.known.elected; established = leading.established }
told_after l p fact y leading second (Wanted change) old q = record { elected = leading.started.first.known.elected; established = leading.established }
told_after l p fact y leading second (Finishes f) old q =
    by_test (MessageHolds l p) (holds f.accepts2 q) _ _
    (λ has. record { elected = leading.started.first.known.elected; established = leading.established })
    (λ lacks. second old.seq)

-- what a leader's message to a peer asserts holds
pub word_holds : (l : Ledger) (p : ℕ) (fact : Fact) (y : Leadership) → IsLeading l p fact y → (fact.seq ≡ 2 → IsSecond l fact) → (q : ℕ) → MessageHolds l p (tick_message (end_of y.change) fact y.leader q)
word_holds l p fact y leading second q =
    by_test (MessageHolds l p) (holds y.leader.accepts q) _ _
    (λ has. told_after l p fact y leading second y.change leading.change q)
    (λ lacks. leading.started.first)

-- what a leader sends at a tick
pub ticks_hold : (l : Ledger) (p : ℕ) (fact : Fact) (y : Leadership) → IsLeading l p fact y → (fact.seq ≡ 2 → IsSecond l fact) → (n : ℕ) → n ≤ 31 → All (SendHolds l p) (ticks_up_to (end_of y.change) fact y.leader n)
unfolding ticks_up_to
ticks_hold l p fact y leading second zero within = All-nil (SendHolds l p)
ticks_hold l p fact y leading second (suc n) within =
    All-append (SendHolds l p) (ticks_up_to (end_of y.change) fact y.leader n) (if is_other y.leader.me y.leader.fact.views (n + 1) then sent ∷ [] else []) (ticks_hold l p fact y leading second n (omega arith))
    (by_test (All (SendHolds l p)) (is_other y.leader.me y.leader.fact.views (n + 1)) (sent ∷ []) []
    (λ is. All-cons (SendHolds l p) sent [] ((omega arith, omega arith), word_holds l p fact y leading second (n + 1)) (All-nil (SendHolds l p)))
    (λ not. All-nil (SendHolds l p)))
  where
    sent : Outgoing
    sent = record { to = n + 1; message = tick_message (end_of y.change) fact y.leader (n + 1) }

module _ {c : Course} {l : Ledger} {x : State} {stored : Option Fact} (h : Fits c l x stored) where
  open c use {peer as p}

  -- a tick that changes only the phase, and may run rule 7
  anew : (phase : Phase) (test : Bool) → PhaseHolds l p x.fact phase → SyncHolds l p x.fact (may_wait phase) x.sync → Goes c l stored (record x { phase = phase }, silent (if test then thens.Rule phase_rules.BeginProbing else thens.Stay))
  anew phase test holds runs =
      by_test (λ (turn : Then). Goes c l stored (record x { phase = phase }, silent turn)) test _ _
      (λ is. names h phase_rules.BeginProbing phase holds runs)
      (λ not. rests_in h phase holds runs)

  -- rules 2 to 4
  pub aged_goes : (phase : Phase) → PhaseHolds l p x.fact phase → SyncHolds l p x.fact (may_wait phase) x.sync → Goes c l stored (aged phase p x)
  aged_goes (phases.Following f) old runs =
      by_test (λ (r : Follower × PhaseOut). Goes c l stored (following r.0 x, r.1)) (is_member x.fact.views p) _ _
      (λ member. anew (phases.Following (record f { quiet = f.quiet + 1 })) (f.quiet + 1 == 6) tt runs)
      (λ stranger. rests_in h (phases.Following f) tt runs)
  aged_goes (phases.Probing b) old runs =
      anew (phases.Probing (record b { age = b.age + 1 })) (b.age + 1 == 6) (record { best = old.best; newer = old.newer; counts_best = old.counts_best; counts_own = old.counts_own }) runs
  aged_goes (phases.Electing (Preparing base promises asked age)) old runs = anew (phases.Electing (Preparing base promises asked (age + 1))) (age + 1 == 6) old runs
  aged_goes (phases.Electing (Starting new accepts age)) old runs =
      by_test (λ (row : PhaseOut). Goes c l stored (electing (Starting new accepts (age + 1)) x, row)) (age + 1 == 8) _ _
      (λ spent. follows h (phases.Electing (Starting new accepts (age + 1))))
      (λ young. by_test (λ (turn : Then). Goes c l stored (electing (Starting new accepts (age + 1)) x, sends (others_outside p accepts new.views) (messages.NewEpoch new) turn)) (runs_sync x.sync) _ _
      (λ syncs. unmoved (enters h (phases.Electing (Starting new accepts (age + 1))) old runs) old.started.first tt)
      (λ none. unmoved (enters h (phases.Electing (Starting new accepts (age + 1))) old runs) old.started.first tt))
  aged_goes (phases.Leading y) old runs = quiet h
