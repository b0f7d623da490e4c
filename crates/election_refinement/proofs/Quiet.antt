-- Rules that save nothing: they answer a probe or a beat, heed a refusal, or count an acceptance.
use Rattle.std.proofs.Common.{◌≡◌, ℕ, ◌≤◌, Bool, true, false, ◌&&◌, ◌==◌, List, Option, inl, inr, arith, ap, ◌∙◌, sym, subst}
use Rattle.std.proofs.lemmas.Bool.{and_parts}
use Rattle.std.proofs.lemmas.Bool.Decides.{nat_tests}
use Rattle.quorums.proofs.Majorities.{quorum_more}
use Rattle.quorums.specs.Quorums.{is_quorum}
use Rattle.protocol_laws.specs.Ledger.{Ledger, Place, is_established}
use Rattle.protocol_laws.specs.Numbers.{epoch_number}
use Rattle.phase_rules.specs.Ballots.{row_15}
use Rattle.phase_rules.specs.declared.election.Election.{Election}
use Rattle.phase_rules.specs.declared.election.Election.TheVariants.{Preparing, Starting}
use Rattle.ens_base.specs.PeerSet.{holds}
use Rattle.ens_base.specs.declared.epoch.Epoch.{Epoch}
use Rattle.phase_rules.specs.Announcements.{row_19}
use Rattle.leader.specs.Leaders.{new_leader}
use Rattle.leader.specs.declared.leader.Leader.{Leader}
use Rattle.peer_state.specs.Moves.{electing, follower}
use Rattle.peer_state.specs.Rows.{change_heard, leader_heard, while_14, while_15, while_17}
use Rattle.peer_state.specs.declared.state.ChangeState.{ChangeState}
use Rattle.peer_state.specs.declared.state.ChangeState.TheVariants.{Settled, Wanted, Finishing as Finishes}
use Rattle.peer_state.specs.declared.state.Leadership.{Leadership}
use Rattle.peer_state.specs.declared.state.Phase.{Phase}
use Rattle.peer_state.specs.declared.state.Phase.TheVariants as phases
use Rattle.peer_state.specs.declared.state.State.{State}
use Rattle.stored_formats.specs.declared.fact.Fact.{Fact}
use Rattle.phase_rows.specs.Orders.{is_below, is_same}
use Rattle.phase_rows.specs.Peers.{joined}
use Rattle.phase_rows.specs.Rows.{silent, refuses_below}
use Rattle.phase_rules.specs.Probing.{row_8_probe}
use Rattle.phase_rules.specs.declared.finishing.Finishing.{Finishing}
use Rattle.wire_frames.specs.declared.message.NackCause.{NackCause}
use Rattle.wire_frames.specs.declared.message.NackCause.TheVariants as causes
use Rattle.phase_rows.specs.declared.phase.PhaseOut.{PhaseOut}
use Rattle.phase_rows.specs.declared.phase.Then.{Then}
use Rattle.phase_rows.specs.declared.rules.PhaseRule.TheVariants as phase_rules
use Rattle.phase_rows.proofs.Epochs.{same_epochs}
use Rattle.election_refinement.proofs.Reaching.{Course, reaches_safe}
use Rattle.election_refinement.proofs.Rows.{Fits, Goes, unmoved, enters_alone, quiet, follows, rests_in, names}
use Rattle.election_refinement.proofs.Sets.{joined_then}
use Rattle.election_refinement.proofs.Tests.{by_test}
use Rattle.election_refinement.specs.Refinement.{IsStarted, IsStarting, IsFinishing, ChangeHolds, IsLeading, PhaseHolds, may_wait, SyncHolds, IsAcceptance}
use Rattle.protocol_laws.proofs.Ranks.{epoch_same}

-- a peer that started an epoch and accepted it holds no fact of a later one
accepted_own : {c : Course} {l : Ledger} {x : State} {stored : Option Fact} → Fits c l x stored → (new : Fact) (accepts : List Bool) → IsStarted l c.peer x.fact new accepts → holds accepts c.peer ≡ true → x.fact.epoch ≡ new.epoch
accepted_own {c} {l} {x} {stored} h new accepts started among =
    epoch_same x.fact.epoch new.epoch h.peer.saved.known.epoch started.first.known.epoch
    (equal (subst (λ (place : Place). epoch_number new.epoch ≤ place.epoch) h.peer.saved.place ((reaches_safe c l h.reaches).ballots.accepted c.peer (epoch_number new.epoch) (started.accepted c.peer among)))
    h.peer.saved.known.below (ap epoch_number started.at_ballot))
  where
    equal : {a b d : ℕ} → d ≤ a → a ≤ b → d ≡ b → a ≡ d
    equal low high is = omega (arith, low, high, is)

-- a starting peer that a quorum accepted leads
leads : (l : Ledger) (p : ℕ) (fact new : Fact) (accepts : List Bool) → IsStarting l p fact new accepts → is_quorum (holds accepts) new.views ≡ true → fact.epoch ≡ new.epoch
    → IsLeading l p fact (record { leader = new_leader new p accepts; change = Settled })
leads l p fact new accepts starting quorum has = record {
  started = starting.started;
  established = quorum_more (holds accepts) (l.accepted (epoch_number new.epoch)) starting.started.accepted (l.views (epoch_number new.epoch))
      (subst (λ views. is_quorum (holds accepts) views ≡ true) starting.started.first.known.views quorum);
  has = has;
  change = subst (λ (e : Epoch). l.changed (epoch_number e) ≡ false) (sym has) starting.unchanged;
}

-- the sender of an acceptance of the first fact, or of the second, accepted it
first_said : (l : Ledger) (from seq : ℕ) (ballot : Epoch) → IsAcceptance l from ballot seq → (seq == 1) ≡ true → l.accepted (epoch_number ballot) from ≡ true
first_said l from seq ballot (inl first) is = first.1
first_said l from seq ballot (inr second) is = absurd (not_two seq second.0 is)
  where
    not_two : (s : ℕ) → s ≡ 2 → (s == 1) ≡ true → ⊥
    not_two s e h = grind (arith, nat_tests)

second_said : (l : Ledger) (from seq : ℕ) (ballot : Epoch) → IsAcceptance l from ballot seq → (seq == 2) ≡ true → l.adopted (epoch_number ballot) from ≡ true
second_said l from seq ballot (inl first) is = absurd (not_one seq first.0 is)
  where
    not_one : (s : ℕ) → s ≡ 1 → (s == 2) ≡ true → ⊥
    not_one s e h = grind (arith, nat_tests)
second_said l from seq ballot (inr second) is = second.1

-- an acceptance of the first fact is counted
counted : (l : Ledger) (p from seq : ℕ) (ballot : Epoch) (fact new : Fact) (accepts : List Bool) → IsAcceptance l from ballot seq → is_same ballot fact.ballot && seq == 1 ≡ true
    → IsStarted l p fact new accepts → IsStarted l p fact new (joined from accepts)
counted l p from seq ballot fact new accepts told test old = let parts = and_parts (is_same ballot fact.ballot) (seq == 1) test in
    record {
      own = old.own;
      first = old.first;
      at_ballot = old.at_ballot;
      accepted = joined_then (λ q. l.accepted (epoch_number new.epoch) q ≡ true) from accepts
          (subst (λ (e : Epoch). l.accepted (epoch_number e) from ≡ true) (same_epochs ballot fact.ballot parts.0 ∙ sym old.at_ballot) (first_said l from seq ballot told parts.1))
          old.accepted;
    }

-- a leader whose epoch ends counts an acceptance of its second fact
change_counted : (l : Ledger) (from seq : ℕ) (ballot : Epoch) (fact : Fact) (change : ChangeState) → fact.epoch ≡ fact.ballot → IsAcceptance l from ballot seq → ChangeHolds l fact change → ChangeHolds l fact (change_heard change fact from ballot seq)
change_counted l from seq ballot fact Settled own told old = old
change_counted l from seq ballot fact (Wanted change) own told old = old
change_counted l from seq ballot fact (Finishes f) own told old =
    by_test (λ (r : Finishing × PhaseOut). IsFinishing l fact r.0) (is_same ballot fact.ballot && seq == 2) _ _
    (λ test. adds (and_parts (is_same ballot fact.ballot) (seq == 2) test))
    (λ other. old)
  where
    adds : (is_same ballot fact.ballot ≡ true) × ((seq == 2) ≡ true) → IsFinishing l fact (record f { accepts2 = joined from f.accepts2 })
    adds parts = record {
      seq = old.seq;
      adopted = joined_then (λ q. l.adopted (epoch_number fact.epoch) q ≡ true) from f.accepts2
          (subst (λ (e : Epoch). l.adopted (epoch_number e) from ≡ true) (same_epochs ballot fact.ballot parts.0 ∙ sym own) (second_said l from seq ballot told parts.1))
          old.adopted;
    }

-- a leader counts an acceptance
heard : (l : Ledger) (p from seq : ℕ) (ballot : Epoch) (fact : Fact) (leadership : Leadership) → IsAcceptance l from ballot seq → IsLeading l p fact leadership → IsLeading l p fact (leader_heard leadership fact from ballot seq)
heard l p from seq ballot fact leadership told old = record {
  started = by_test (λ (leader : Leader). IsStarted l p fact leader.fact leader.accepts) (is_same ballot fact.ballot && seq == 1) _ _
      (λ own. counted l p from seq ballot fact leadership.leader.fact leadership.leader.accepts told own old.started)
      (λ other. old.started);
  established = by_test (λ (leader : Leader). is_established l (epoch_number leader.fact.epoch) ≡ true) (is_same ballot fact.ballot && seq == 1) _ _ (λ own. old.established) (λ other. old.established);
  has = by_test (λ (leader : Leader). fact.epoch ≡ leader.fact.epoch) (is_same ballot fact.ballot && seq == 1) _ _ (λ own. old.has) (λ other. old.has);
  change = change_counted l from seq ballot fact leadership.change (old.has ∙ old.started.at_ballot) told old.change;
}

module _ {c : Course} {l : Ledger} {x : State} {stored : Option Fact} (h : Fits c l x stored) where
  open c use {peer as p}

  -- rule 8, on a probe
  pub rule_8_probe : (from : ℕ) → Goes c l stored (x, row_8_probe x.fact from)
  rule_8_probe from = unmoved h h.peer.saved.known tt

  -- a refusal
  pub refuses : (from : ℕ) (ballot : Epoch) → Goes c l stored (x, refuses_below from ballot x.fact)
  refuses from ballot = unmoved h tt tt

  -- rule 14
  pub rule_14 : (phase : Phase) → PhaseHolds l p x.fact phase → SyncHolds l p x.fact (may_wait phase) x.sync → Goes c l stored (while_14 phase p x)
  rule_14 (phases.Electing (Starting new accepts age)) old runs =
      by_test (λ (turn : Then). Goes c l stored (electing (Starting new accepts age) x, silent turn)) (holds accepts p && is_quorum (holds accepts) new.views) _ _
      (λ enough. unmoved (enters_alone h (phases.Leading (record { leader = new_leader new p accepts; change = Settled }))
      (starts_to_lead (and_parts (holds accepts p) (is_quorum (holds accepts) new.views) enough))) tt tt)
      (λ few. rests_in h (phases.Electing (Starting new accepts age)) old runs)
    where
      starts_to_lead : (holds accepts p ≡ true) × (is_quorum (holds accepts) new.views ≡ true) → IsLeading l p x.fact (record { leader = new_leader new p accepts; change = Settled })
      starts_to_lead enough = leads l p x.fact new accepts old enough.1 (accepted_own h new accepts old.started enough.0)
  rule_14 (phases.Electing (Preparing base promises asked age)) old runs = rests_in h (phases.Electing (Preparing base promises asked age)) old runs
  rule_14 other old runs = quiet h

  -- rule 15
  heeded : (ballot : Epoch) (cause : NackCause) → Goes c l stored (x, row_15 x.fact ballot cause)
  heeded ballot (causes.Greater other) =
      by_test (λ (row : PhaseOut). Goes c l stored (x, row)) (is_same ballot x.fact.ballot && is_below ballot other) _ _
      (λ own. unmoved (enters_alone h follower tt) tt tt)
      (λ old. quiet h)
  heeded ballot causes.Untrusted = quiet h
  heeded ballot (causes.Damaged position) = quiet h

  pub rule_15 : (phase : Phase) (ballot : Epoch) (cause : NackCause) → Goes c l stored (while_15 phase ballot cause x)
  rule_15 (phases.Electing e) ballot cause = heeded ballot cause
  rule_15 (phases.Leading y) ballot cause = heeded ballot cause
  rule_15 other ballot cause = quiet h

  -- rule 17
  pub rule_17 : (phase : Phase) (from : ℕ) (ballot : Epoch) (seq : ℕ) → PhaseHolds l p x.fact phase → SyncHolds l p x.fact (may_wait phase) x.sync → IsAcceptance l from ballot seq → Goes c l stored (while_17 phase from ballot seq x)
  rule_17 (phases.Electing (Starting new accepts age)) from ballot seq old runs told =
      by_test (λ (r : Election × PhaseOut). Goes c l stored (electing r.0 x, r.1)) (is_same ballot x.fact.ballot && seq == 1) _ _
      (λ own. names h phase_rules.EnoughAccepted (phases.Electing (Starting new (joined from accepts) age)) (record { started = counted l p from seq ballot x.fact new accepts told own old.started; unchanged = old.unchanged }) runs)
      (λ other. rests_in h (phases.Electing (Starting new accepts age)) old runs)
  rule_17 (phases.Electing (Preparing base promises asked age)) from ballot seq old runs told = rests_in h (phases.Electing (Preparing base promises asked age)) old runs
  rule_17 (phases.Leading y) from ballot seq old runs told = rests_in h (phases.Leading (leader_heard y x.fact from ballot seq)) (heard l p from seq ballot x.fact y told old) runs
  rule_17 other from ballot seq old runs told = quiet h

  -- rule 19
  pub rule_19 : (from : ℕ) (ballot : Epoch) → Goes c l stored (x, row_19 x.fact x.trusted from ballot)
  rule_19 from ballot =
      by_test (λ (row : PhaseOut). Goes c l stored (x, row)) (is_below ballot x.fact.ballot) _ _
      (λ below. refuses from ballot)
      (λ above. by_test (λ (turn : Then). Goes c l stored (x, silent turn)) (is_same x.fact.epoch ballot && x.trusted) _ _
      (λ accepted. follows h x.phase)
      (λ other. quiet h))
