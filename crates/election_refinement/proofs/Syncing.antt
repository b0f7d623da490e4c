-- A sync in a peer: what it sends asserts nothing about elections, and at its end the peer accepts the
-- first fact of the epoch that it promised.
use Rattle.std.specs.Prelude.{All, nat_le}
use Rattle.std.proofs.Common.{◌≡◌, ℕ, ◌≤◌, ◌&&◌, ◌==◌, Bool, true, not, List, [], ◌∷◌, inl, Option, Some, None, arith, refl, ap, ◌∙◌, sym, subst}
use Rattle.std.proofs.lemmas.Bool.{false≢true}
use Rattle.std.proofs.lemmas.Bool.Decides.{nat_tests}
use Rattle.std.proofs.lemmas.List.Elements.{All-nil, All-cons}
use Rattle.protocol_laws.specs.Ledger.{Ledger, Place, join}
use Rattle.protocol_laws.specs.Numbers.{epoch_number}
use Rattle.phase_rules.specs.declared.election.Election.TheVariants.{Preparing, Starting}
use Rattle.ens_base.specs.declared.epoch.Epoch.{Epoch}
use Rattle.leader_output.specs.declared.out.Outgoing.{Outgoing}
use Rattle.peer_spec.specs.Syncs.{accepted}
use Rattle.peer_state.specs.declared.state.Phase.{Phase}
use Rattle.peer_state.specs.declared.state.Phase.TheVariants as phases
use Rattle.peer_state.specs.declared.state.State.{State}
use Rattle.stored_formats.specs.declared.fact.Fact.{Fact}
use Rattle.phase_rows.specs.Peers.{joined}
use Rattle.tree_sync.specs.Running.{Running}
use Rattle.tree_sync.specs.Sends.{MayGo, AsksAt, IsQuestion}
use Rattle.wire_frames.specs.declared.message.Message.{Message}
use Rattle.wire_frames.specs.declared.message.Message.TheVariants as messages
use Rattle.election_refinement.proofs.Keeps.{join_keeps, first_keeps}
use Rattle.election_refinement.proofs.Reaching.{Course}
use Rattle.election_refinement.proofs.Rows.{Fits, trusts}
use Rattle.election_refinement.proofs.Saving.{joined_fits}
use Rattle.election_refinement.proofs.Sets.{joined_then}
use Rattle.election_refinement.proofs.Tests.{by_test}
use Rattle.election_refinement.specs.Refinement.{IsStarting, PhaseHolds, may_wait, MaySync, MessageHolds, SendHolds}

-- ## What is sent

-- the questions of a sync go to peers, and assert nothing
pub questions_hold : (l : Ledger) (p : ℕ) (r : Running) (sends : List Outgoing) → All (MayGo p) sends → All (IsQuestion r) sends → All (SendHolds l p) sends
questions_hold l p r sends go ask = λ n o within. ((go n o within).0, asks _ (ask n o within).1)
  where
    asks : (message : Message) → AsksAt r.fact.epoch message → MessageHolds l p message
    asks (messages.TreeAsk epoch at after) is = tt
    asks other is = absurd is

-- the acceptance of the fact of a sync
pub acceptance_holds : (l : Ledger) (p : ℕ) (fact : Fact) → l.accepted (epoch_number fact.epoch) p ≡ true → All (SendHolds l p) (accepted p fact)
acceptance_holds l p fact has =
    by_test (All (SendHolds l p)) (nat_le 1 fact.leader && nat_le fact.leader 31 && not (fact.leader == p)) (sent ∷ []) []
    (λ is. All-cons (SendHolds l p) sent [] (to_peer fact.leader is, inl (refl, has)) (All-nil (SendHolds l p)))
    (λ not_one. All-nil (SendHolds l p))
  where
    sent : Outgoing
    sent = record { to = fact.leader; message = messages.Accepted fact.epoch 1 }

    to_peer : (n : ℕ) → (nat_le 1 n && nat_le n 31 && not (n == p)) ≡ true → (1 ≤ n) × (n ≤ 31)
    to_peer n is = grind (arith, nat_tests)

-- ## The end of a sync

-- what a phase that may wait for a sync asserts, once the peer accepted the epoch that it promised
pub phase_joins : (l : Ledger) (p : ℕ) (fact new : Fact) (phase : Phase) → l.ballot p ≡ epoch_number new.epoch → MaySync l fact (may_wait phase) new → PhaseHolds l p fact phase
    → PhaseHolds (join l p (epoch_number new.epoch)) p new phase
phase_joins l p fact new (phases.Following f) stands may old = tt
phase_joins l p fact new (phases.Probing b) stands may old = absurd (false≢true may.waits)
phase_joins l p fact new (phases.Electing (Preparing base promises asked age)) stands may old = absurd (false≢true may.waits)
phase_joins l p fact new (phases.Electing (Starting started accepts age)) stands may old =
    let k = join_keeps l p (epoch_number new.epoch) stands in
    let at_ballot : new.ballot ≡ fact.ballot = may.first.own_ballot ∙ may.promised in
    record {
      started = record {
        own = ap (λ (e : Epoch). e.proposer) at_ballot ∙ old.started.own;
        first = first_keeps l (join l p (epoch_number new.epoch)) p k started old.started.first;
        at_ballot = old.started.at_ballot ∙ sym at_ballot;
        accepted = λ q h. k.accepted (epoch_number started.epoch) q (old.started.accepted q h);
      };
      unchanged = old.unchanged;
    }
phase_joins l p fact new (phases.Leading leadership) stands may old = absurd (false≢true may.waits)

module _ {c : Course} {l : Ledger} {x : State} {stored : Option Fact} (h : Fits c l x stored) (new : Fact) (may : MaySync l x.fact (may_wait x.phase) new) where
  open c use {peer as p}

  -- the peer is at the ballot of the epoch
  pub stands_at : l.ballot p ≡ epoch_number new.epoch
  stands_at = h.peer.saved.ballot ∙ ap epoch_number (sym may.promised)

  -- the peer accepts the fact of the sync, where syncs may end, and trusts its tree
  abbrev pub end_sync_fits : c.joins → Fits c (join l p (epoch_number new.epoch)) (record x { fact = new; trusted = true; sync = None }) (Some new)
  end_sync_fits joins = joined_fits (trusts h) joins new may.first stands_at (rw (ap (λ (place : Place). place.epoch) h.peer.saved.place) may.newer) x.phase
      (phase_joins l p x.fact new x.phase stands_at may h.peer.phase)

-- a starting peer counts itself once it accepted its epoch
pub counts_itself : (l : Ledger) (p : ℕ) (fact new : Fact) (accepts : List Bool) → fact.ballot ≡ fact.epoch → l.accepted (epoch_number fact.epoch) p ≡ true → IsStarting l p fact new accepts → IsStarting l p fact new (joined p accepts)
counts_itself l p fact new accepts own_ballot has old = record {
  started = record {
    own = old.started.own;
    first = old.started.first;
    at_ballot = old.started.at_ballot;
    accepted = joined_then (λ q. l.accepted (epoch_number new.epoch) q ≡ true) p accepts (subst (λ (e : Epoch). l.accepted (epoch_number e) p ≡ true) (sym (old.started.at_ballot ∙ own_ballot)) has) old.started.accepted;
  };
  unchanged = old.unchanged;
}
