-- The state of a peer after it saved a fact: at a greater ballot, or as the first fact of an epoch
-- that it accepts.
use Rattle.std.proofs.Common.{◌≡◌, ℕ, ◌<◌, ◌≤◌, true, Option, Some, None, arith, refl, ap, le_trans, ◌∙◌, sym, subst}
use Rattle.protocol_laws.specs.Ledger.{Ledger, Place, IsAtMost, IsNew, raise, accept, join}
use Rattle.protocol_laws.specs.Numbers.{epoch_number, IsEpoch}
use Rattle.ens_base.specs.declared.epoch.Epoch.{Epoch}
use Rattle.peer_state.specs.declared.state.Phase.{Phase}
use Rattle.peer_state.specs.declared.state.State.{State}
use Rattle.stored_formats.specs.declared.fact.Fact.{Fact}
use Rattle.phase_rows.specs.Rows.{at_ballot}
use Rattle.tree_sync.specs.Running.{Running}
use Rattle.protocol_laws.proofs.Maps.{put_here}
use Rattle.election_refinement.proofs.Keeps.{accept_keeps, join_keeps, first_keeps}
use Rattle.election_refinement.specs.Keeps.{Keeps}
use Rattle.election_refinement.proofs.Numbers.{place_epoch, place_trans}
use Rattle.election_refinement.proofs.Reaching.{Course, Reaches, reaches_safe, raise_reaches, accept_reaches, join_reaches}
use Rattle.election_refinement.proofs.Rows.{Fits}
use Rattle.election_refinement.specs.Refinement.{fact_place, second_of, IsKnown, IsFirst, HasPromised, IsSaved, PhaseHolds, may_wait, SyncHolds}

-- ## A greater ballot

pub raised_known : (l : Ledger) (p : ℕ) (fact : Fact) (ballot : Epoch) → IsKnown l fact → IsEpoch ballot → epoch_number fact.ballot ≤ epoch_number ballot → IsKnown (raise l p (epoch_number ballot)) (at_ballot fact ballot)
raised_known l p fact ballot old epoch above = record {
  ballot = epoch;
  epoch = old.epoch;
  below = le_trans old.below above;
  elected = old.elected;
  is_fact = old.is_fact;
  leader = old.leader;
  views = old.views;
  change = old.change;
}

pub raised_saved : (l : Ledger) (p : ℕ) (fact : Fact) (ballot : Epoch) → IsSaved l p fact → IsEpoch ballot → epoch_number fact.ballot ≤ epoch_number ballot → IsSaved (raise l p (epoch_number ballot)) p (at_ballot fact ballot)
raised_saved l p fact ballot old epoch above = record { known = raised_known l p fact ballot old.known epoch above; ballot = put_here l.ballot p (epoch_number ballot); place = old.place }

-- ## The first fact of an epoch

-- the place of a fact with this number in its epoch
same_place : (d s t : ℕ) → s ≡ t → ◌≡◌ {A = Place} (record { epoch = d; seq = s }) (record { epoch = d; seq = t })
same_place d s t e = ap (λ n. record { epoch = d; seq = n }) e

-- the first fact of an epoch is saved once the peer accepted the epoch, in either way
pub first_saved : (l m : Ledger) (p : ℕ) (new : Fact) → Keeps l m p → IsFirst l new → m.ballot p ≡ epoch_number new.epoch → m.fact p ≡ record { epoch = epoch_number new.epoch; seq = 1 } → IsSaved m p new
first_saved l m p new keeps is_first stands place = record {
  known = (first_keeps l m p keeps new is_first).known;
  ballot = stands ∙ ap epoch_number (sym is_first.own_ballot);
  place = place ∙ same_place (epoch_number new.epoch) 1 new.seq (sym is_first.seq);
}

module _ {c : Course} {l : Ledger} {x : State} {stored : Option Fact} (h : Fits c l x stored) where
  open c use {peer as p}

  pub may_raise : (d : ℕ) → epoch_number x.fact.ballot ≤ d → l.ballot p ≤ d
  may_raise d above = subst (λ n. n ≤ d) (sym h.peer.saved.ballot) above

  -- the fact is saved at a ballot that is not lower, and no sync runs
  abbrev pub raised_fits : (ballot : Epoch) → IsEpoch ballot → epoch_number x.fact.ballot ≤ epoch_number ballot → (phase : Phase) → PhaseHolds (raise l p (epoch_number ballot)) p (at_ballot x.fact ballot) phase
      → Fits c (raise l p (epoch_number ballot)) (record x { fact = at_ballot x.fact ballot; phase = phase; sync = None }) (Some (at_ballot x.fact ballot))
  raised_fits ballot epoch above phase holds = record {
    reaches = raise_reaches c l h.reaches (epoch_number ballot) (may_raise (epoch_number ballot) above);
    peer = record { saved = raised_saved l p x.fact ballot h.peer.saved epoch above; kept = refl; phase = holds; sync = tt };
  }

  -- the peer accepted the epoch of its fact
  pub own_accepted : l.accepted (epoch_number x.fact.epoch) p ≡ true
  own_accepted = subst (λ (place : Place). l.accepted place.epoch p ≡ true) h.peer.saved.place ((reaches_safe c l h.reaches).ballots.last p)

  -- the peer accepted nothing later than its fact, so it may promise with it
  pub own_promise : (d : ℕ) (f : Place) → IsAtMost (fact_place x.fact) f → HasPromised (raise l p d) p d f
  own_promise d f low = record {
    stands = subst (λ n. d ≤ n) (sym (put_here l.ballot p d)) (omega arith);
    told = λ a accepted below. le_trans ((reaches_safe c l h.reaches).ballots.accepted p a accepted) (place_epoch (l.fact p) f at_most);
    told_second = λ a adopted below. place_trans (second_of a) (l.fact p) f (h.reaches.orderly.adopted p a adopted) at_most;
  }
    where
      at_most : IsAtMost (l.fact p) f
      at_most = subst (λ (place : Place). IsAtMost place f) (sym h.peer.saved.place) low

  -- the first fact of an epoch is accepted and saved, after steps that led to a ledger where the
  -- peer is at the ballot of this epoch
  abbrev pub accepted_fits : (m : Ledger) → Reaches c m → (new : Fact) → IsFirst m new → m.ballot p ≡ epoch_number new.epoch → (m.fact p).epoch < epoch_number new.epoch → ¬ IsNew (m.views (epoch_number new.epoch)) p
      → (phase : Phase) → PhaseHolds (accept m p (epoch_number new.epoch)) p new phase → (sync : Option Running) → SyncHolds (accept m p (epoch_number new.epoch)) p new (may_wait phase) sync
      → Fits c (accept m p (epoch_number new.epoch)) (record x { fact = new; phase = phase; sync = sync }) (Some new)
  accepted_fits m reaches new is_first stands newer old phase holds sync runs = record {
    reaches = accept_reaches c m reaches (epoch_number new.epoch) is_first.known.elected stands newer old;
    peer = record {
      saved = first_saved m (accept m p (epoch_number new.epoch)) p new (accept_keeps m p (epoch_number new.epoch) stands) is_first stands (put_here m.fact p (record { epoch = epoch_number new.epoch; seq = 1 }));
      kept = refl;
      phase = holds;
      sync = runs;
    };
  }

  -- the same by the end of a sync, where syncs may end, after which no sync runs
  abbrev pub joined_fits : c.joins → (new : Fact) → IsFirst l new → l.ballot p ≡ epoch_number new.epoch → (l.fact p).epoch < epoch_number new.epoch
      → (phase : Phase) → PhaseHolds (join l p (epoch_number new.epoch)) p new phase → Fits c (join l p (epoch_number new.epoch)) (record x { fact = new; phase = phase; sync = None }) (Some new)
  joined_fits may new is_first stands newer phase holds = record {
    reaches = join_reaches c l h.reaches may (epoch_number new.epoch) is_first.later is_first.known.elected stands newer;
    peer = record {
      saved = first_saved l (join l p (epoch_number new.epoch)) p new (join_keeps l p (epoch_number new.epoch) stands) is_first stands (put_here l.fact p (record { epoch = epoch_number new.epoch; seq = 1 }));
      kept = refl;
      phase = holds;
      sync = tt;
    };
  }
