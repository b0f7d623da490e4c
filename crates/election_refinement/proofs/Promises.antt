-- Rules 10 and 11: a ballot is prepared or promised.
use Rattle.std.proofs.Common.{◌≡◌, ℕ, ◌<◌, ◌≤◌, ◌-◌, ◌^◌, Bool, true, false, not, ◌||◌, ◌==◌, Option, arith, refl, le_trans, sym, subst}
use Rattle.quorums.specs.Quorums.{is_member}
use Rattle.protocol_laws.specs.Ledger.{Ledger, raise}
use Rattle.protocol_laws.specs.Numbers.{epoch_number, IsEpoch}
use Rattle.phase_rules.specs.Ballots.{row_11, promises_to}
use Rattle.phase_rules.specs.Preparing.{next_ballot, prepares}
use Rattle.phase_rules.specs.declared.election.Election.{Election}
use Rattle.phase_rules.specs.declared.election.Election.TheVariants.{Preparing}
use Rattle.ens_base.specs.declared.epoch.Epoch.{Epoch}
use Rattle.peer_state.specs.Moves.{follower, stood}
use Rattle.peer_state.specs.Rows.{prepared, while_10}
use Rattle.peer_state.specs.declared.state.Phase.{Phase}
use Rattle.peer_state.specs.declared.state.Phase.TheVariants as phases
use Rattle.peer_state.specs.declared.state.State.{State}
use Rattle.stored_formats.specs.Facts.{views_after}
use Rattle.stored_formats.specs.declared.fact.Fact.{Fact}
use Rattle.phase_rows.specs.Orders.{is_below, is_same}
use Rattle.phase_rows.specs.Peers.{alone, members}
use Rattle.phase_rows.specs.Rows.{at_ballot}
use Rattle.phase_rules.specs.Probing.{first_probing}
use Rattle.phase_rules.specs.declared.probing.Probing.{Probing}
use Rattle.protocol_laws.proofs.Maps.{put_here}
use Rattle.phase_rows.specs.declared.phase.PhaseOut.{PhaseOut}
use Rattle.election_refinement.proofs.Keeps.{known_keeps, raise_keeps}
use Rattle.election_refinement.specs.Keeps.{Keeps}
use Rattle.election_refinement.proofs.Numbers.{proposer_of-number, below_number, count_number, place_same}
use Rattle.election_refinement.proofs.Probes.{first_holds}
use Rattle.election_refinement.proofs.Quiet.{refuses}
use Rattle.election_refinement.proofs.Reaching.{Course}
use Rattle.election_refinement.proofs.Rows.{Fits, Goes, quiet, follows}
use Rattle.election_refinement.proofs.Saving.{may_raise, raised_fits, own_promise}
use Rattle.election_refinement.proofs.Sets.{alone_then}
use Rattle.election_refinement.proofs.Tests.{by_test}
use Rattle.election_refinement.specs.Refinement.{fact_place, HasPromised, IsProbing, IsPreparing, PhaseHolds, IsPrepare}

module _ {c : Course} {l : Ledger} {x : State} {stored : Option Fact} (h : Fits c l x stored) where
  open c use {peer as p}

  -- rule 11, for a ballot above the peer's
  promises : (from : ℕ) (ballot : Epoch) → IsEpoch ballot → epoch_number x.fact.ballot < epoch_number ballot → Goes c l stored (x, promises_to from (at_ballot x.fact ballot))
  promises from ballot epoch above =
      let fits = raised_fits h ballot epoch (omega (arith, above)) follower tt in
      record {
        ledger = raise l p (epoch_number ballot);
        keeps = raise_keeps l p (epoch_number ballot) (may_raise h (epoch_number ballot) (omega (arith, above)));
        fits = fits;
        says = record {
          known = fits.peer.saved.known;
          at_ballot = refl;
          lower = le_trans (omega (arith, h.peer.saved.known.below)) above;
          promised = own_promise h (epoch_number ballot) (fact_place x.fact) (place_same (fact_place x.fact));
        };
        syncs = tt;
      }

  pub rule_11 : (from : ℕ) (ballot : Epoch) → IsEpoch ballot → Goes c l stored (x, row_11 x.fact from ballot)
  rule_11 from ballot epoch =
      by_test (λ (row : PhaseOut). Goes c l stored (x, row)) (is_below x.fact.ballot ballot) _ _
      (λ below. promises from ballot epoch (below_number x.fact.ballot ballot h.peer.saved.known.ballot epoch below))
      (λ not_below. by_test (λ (row : PhaseOut). Goes c l stored (x, row)) (is_same ballot x.fact.ballot) _ _
      (λ same. quiet h)
      (λ other. refuses h from ballot))

  -- rule 10, with the best fact and the count of a probing peer
  module _ (b : Probing) (old : IsProbing l x.fact b) where
    abbrev ballot : Epoch
    ballot = next_ballot b.count p

    abbrev raised : Ledger
    raised = raise l p (epoch_number ballot)

    ballot_ok : IsEpoch ballot
    ballot_ok = omega (arith, c.is_peer.1)

    above_own : epoch_number x.fact.ballot < epoch_number ballot
    above_own = count_number x.fact.ballot ballot h.peer.saved.known.ballot (omega (arith, old.counts_own))

    above_best : epoch_number b.best.epoch < epoch_number ballot
    above_best = le_trans (omega (arith, old.best.below)) (count_number b.best.ballot ballot old.best.ballot (omega (arith, old.counts_best)))

    -- the ballot is not elected yet, since the proposer of an elected epoch is at its ballot or
    -- above
    fresh : (t : Bool) → l.elected (epoch_number ballot) ≡ t → l.elected (epoch_number ballot) ≡ false
    fresh false e = e
    fresh true e =
        let stands : epoch_number ballot ≤ l.ballot p = subst (λ q. epoch_number ballot ≤ l.ballot q) (proposer_of-number ballot ballot_ok) (h.reaches.orderly.reached (epoch_number ballot) e) in
        let own = h.peer.saved.ballot in
        absurd (omega (arith, stands, own, above_own))

    keeps : Keeps l raised p
    keeps = raise_keeps l p (epoch_number ballot) (may_raise h (epoch_number ballot) (omega (arith, above_own)))

    preparing : IsPreparing raised p (at_ballot x.fact ballot) b.best (alone p)
    preparing = record {
      own = refl;
      fresh = fresh (l.elected (epoch_number ballot)) refl;
      known = known_keeps l raised p keeps b.best old.best;
      above = above_best;
      promised = alone_then (λ q. HasPromised raised q (epoch_number ballot) (fact_place b.best)) p (own_promise h (epoch_number ballot) (fact_place b.best) old.newer);
    }

    asks : IsPrepare raised p ballot
    asks = record { epoch = ballot_ok; own = refl; stands = subst (λ n. epoch_number ballot ≤ n) (sym (put_here l.ballot p (epoch_number ballot))) (omega arith) }

    prepares_goes : Goes c l stored (stood (prepares x.fact p b.best ballot).1 x, (prepares x.fact p b.best ballot).0)
    prepares_goes = record {
      ledger = raised;
      keeps = keeps;
      fits = raised_fits h ballot ballot_ok (omega (arith, above_own)) (phases.Electing (Preparing b.best (alone p) (members b.best.views) 0)) preparing;
      says = asks;
      syncs = tt;
    }

    prepared_goes : Goes c l stored (prepared p b.best b.count x)
    prepared_goes =
        by_test (λ (r : PhaseOut × Option Election). Goes c l stored (stood r.1 x, r.0)) (not (is_member (views_after b.best) p) || b.count == 2 ^ 64 - 1) _ _
        (λ stranger. follows h x.phase)
        (λ member. prepares_goes)

  pub rule_10 : (phase : Phase) → PhaseHolds l p x.fact phase → Goes c l stored (while_10 phase p x)
  rule_10 (phases.Probing b) old = prepared_goes b old
  rule_10 (phases.Leading y) old = prepared_goes (first_probing x.fact p) (first_holds l p x.fact h.peer.saved.known)
  rule_10 other old = quiet h
