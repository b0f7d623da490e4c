-- Rules 7, 8 and 9: a peer probes.
use Rattle.std.proofs.Common.{◌≡◌, ℕ, true, Option, arith, le_trans}
use Rattle.quorums.specs.Quorums.{is_quorum}
use Rattle.protocol_laws.specs.Ledger.{Ledger}
use Rattle.ens_base.specs.PeerSet.{holds}
use Rattle.peer_state.specs.Moves.{probing}
use Rattle.peer_state.specs.Rows.{begun, while_8, while_9}
use Rattle.peer_state.specs.declared.state.Phase.{Phase}
use Rattle.peer_state.specs.declared.state.Phase.TheVariants as phases
use Rattle.peer_state.specs.declared.state.State.{State}
use Rattle.stored_formats.specs.declared.fact.Fact.{Fact}
use Rattle.phase_rows.specs.Orders.{is_newer}
use Rattle.phase_rows.specs.Rows.{silent}
use Rattle.phase_rules.specs.Probing.{first_probing, heard_from, bettered}
use Rattle.phase_rules.specs.declared.probing.Probing.{Probing}
use Rattle.phase_rows.specs.declared.phase.PhaseOut.{PhaseOut}
use Rattle.phase_rows.specs.declared.phase.Then.{Then}
use Rattle.phase_rows.specs.declared.rules.PhaseRule.TheVariants as phase_rules
use Rattle.election_refinement.proofs.Numbers.{newer_place, place_same, place_trans}
use Rattle.election_refinement.proofs.Reaching.{Course}
use Rattle.election_refinement.proofs.Rows.{Fits, Goes, unmoved, enters, enters_alone, quiet, rests_in, names}
use Rattle.election_refinement.proofs.Tests.{by_test}
use Rattle.election_refinement.specs.Refinement.{fact_place, IsKnown, IsProbing, PhaseHolds, may_wait, SyncHolds}

-- a peer that begins to probe knows its own fact
pub first_holds : (l : Ledger) (p : ℕ) (fact : Fact) → IsKnown l fact → IsProbing l fact (first_probing fact p)
first_holds l p fact known = record { best = known; newer = place_same (fact_place fact); counts_best = omega arith; counts_own = omega arith }

-- the sender of a reply is heard, and its fact may become the best
bettered_holds : (l : Ledger) (fact reply : Fact) (b : Probing) (from : ℕ) → IsProbing l fact b → IsKnown l reply → is_newer reply b.best ≡ true → IsProbing l fact (bettered (heard_from b from reply) reply)
bettered_holds l fact reply b from old told newer = record {
  best = told;
  newer = place_trans (fact_place fact) (fact_place b.best) (fact_place reply) old.newer (newer_place reply b.best told.epoch old.best.epoch newer);
  counts_best = omega arith;
  counts_own = le_trans old.counts_own (omega arith);
}

heard_holds : (l : Ledger) (fact reply : Fact) (b : Probing) (from : ℕ) → IsProbing l fact b → IsProbing l fact (heard_from b from reply)
heard_holds l fact reply b from old = record {
  best = old.best;
  newer = old.newer;
  counts_best = le_trans old.counts_best (omega arith);
  counts_own = le_trans old.counts_own (omega arith);
}

module _ {c : Course} {l : Ledger} {x : State} {stored : Option Fact} (h : Fits c l x stored) where
  open c use {peer as p}

  -- rule 7
  pub rule_7 : Goes c l stored (begun p x)
  rule_7 = unmoved (enters_alone h (phases.Probing (first_probing x.fact p)) (first_holds l p x.fact h.peer.saved.known)) tt tt

  -- rule 8, on a reply
  pub rule_8 : (phase : Phase) (from : ℕ) (reply : Fact) → PhaseHolds l p x.fact phase → SyncHolds l p x.fact (may_wait phase) x.sync → IsKnown l reply → Goes c l stored (while_8 phase p from reply x)
  rule_8 (phases.Probing b) from reply old runs told =
      by_test (λ (r : Probing × PhaseOut). Goes c l stored (probing r.0 x, r.1)) (is_newer reply b.best) _ _
      (λ newer. unmoved (enters h (phases.Probing (bettered (heard_from b from reply) reply)) (bettered_holds l x.fact reply b from old told newer) runs) tt tt)
      (λ older. names h phase_rules.EnoughHeard (phases.Probing (heard_from b from reply)) (heard_holds l x.fact reply b from old) runs)
  rule_8 other from reply old runs told = quiet h

  -- rule 9
  pub rule_9 : (phase : Phase) → PhaseHolds l p x.fact phase → SyncHolds l p x.fact (may_wait phase) x.sync → Goes c l stored (while_9 phase x)
  rule_9 (phases.Probing b) old runs =
      by_test (λ (turn : Then). Goes c l stored (probing b x, silent turn)) (is_quorum (holds b.heard) b.best.views) _ _
      (λ enough. names h phase_rules.Prepare (phases.Probing b) old runs)
      (λ few. rests_in h (phases.Probing b) old runs)
  rule_9 other old runs = quiet h
