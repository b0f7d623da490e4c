-- Rules 12 and 13: promises are counted, and an epoch starts.
use Rattle.std.proofs.Common.{◌≡◌, ℕ, ◌<◌, ◌≤◌, Bool, true, false, ◌==◌, if◌then◌else◌, List, [], ◌∷◌, inl, inr, Option, arith, refl, ap, le_trans, ◌∙◌, sym, subst}
use Rattle.ens_base.proofs.Lists.{tested_in}
use Rattle.ens_base.specs.Lists.{is_in}
use Rattle.std.specs.Prelude.{◌&&◌, not}
use Rattle.std.proofs.lemmas.Bool.{and_parts, false≢true}
use Rattle.std.proofs.lemmas.Bool.Decides.{nat_tests}
use Rattle.quorums.specs.Quorums.{is_quorum, is_member}
use Rattle.protocol_laws.specs.Ledger.{Ledger, Place, Change, Add, Drop, IsAtMost, elect, accept, changed_views as ledger_views, next_views, IsNew, MayElect}
use Rattle.protocol_laws.specs.Numbers.{epoch_number}
use Rattle.phase_rules.specs.Preparing.{promised_by, starts, first_fact}
use Rattle.phase_rules.specs.declared.election.Election.{Election}
use Rattle.phase_rules.specs.declared.election.Election.TheVariants.{Preparing, Starting}
use Rattle.protocol_laws.proofs.Epochs.{not_both}
use Rattle.protocol_laws.specs.Preparing.{proposer_of}
use Rattle.ens_base.specs.PeerSet.{holds}
use Rattle.ens_base.specs.Views.{first_view}
use Rattle.ens_base.specs.declared.epoch.Epoch.{Epoch}
use Rattle.peer_state.specs.Moves.{electing}
use Rattle.peer_state.specs.Rows.{while_12, while_13}
use Rattle.peer_state.specs.declared.state.Phase.{Phase}
use Rattle.peer_state.specs.declared.state.Phase.TheVariants as phases
use Rattle.peer_state.specs.declared.state.State.{State}
use Rattle.stored_formats.specs.Facts.{changed_views, views_after}
use Rattle.stored_formats.specs.declared.fact.Change.TheVariants as changes
use Rattle.stored_formats.specs.declared.fact.Fact.{Fact}
use Rattle.phase_rows.specs.Orders.{is_joint, is_same, is_newer, may_accept}
use Rattle.phase_rows.specs.Peers.{alone, nobody, joined, members, others_of, with_members}
use Rattle.phase_rows.specs.Rows.{sends, saves_and_sends}
use Rattle.protocol_laws.proofs.Maps.{put_here, mark_here}
use Rattle.wire_frames.specs.declared.message.Message.TheVariants as messages
use Rattle.phase_rows.specs.declared.phase.PhaseOut.{PhaseOut}
use Rattle.phase_rows.specs.declared.phase.Then.TheVariants as thens
use Rattle.phase_rows.specs.declared.rules.PhaseRule.TheVariants as phase_rules
use Rattle.phase_rows.proofs.Epochs.{same_epochs}
use Rattle.election_refinement.proofs.Keeps.{keeps_both, elect_keeps, accept_keeps, known_keeps, first_keeps, changed_of}
use Rattle.election_refinement.specs.Keeps.{Keeps}
use Rattle.election_refinement.proofs.Numbers.{proposer_of-number, newer_place, not_newer_place, place_epoch, place_same, place_trans}
use Rattle.election_refinement.proofs.Reaching.{Course, Reaches, reaches_sound, elect_reaches}
use Rattle.election_refinement.proofs.Rows.{Fits, Goes, none_runs, unmoved, enters, quiet, follows, rests_in, names}
use Rattle.election_refinement.proofs.Saving.{accepted_fits}
use Rattle.election_refinement.proofs.Sets.{nobody_then, alone_then, joined_then}
use Rattle.election_refinement.proofs.Tests.{by_test}
use Rattle.election_refinement.specs.Refinement.{fact_place, told_change, change_at, IsFitting, second_of, IsKnown, IsFirst, HasPromised, IsPreparing, IsStarting, PhaseHolds, may_wait, SyncHolds, IsPrepare, IsPromise, IsOrderly}

-- a change that fits makes of these views, in a fact, what it makes of them in the ledger
same_change : (change : Change) (views : List (List ℕ)) → IsFitting change views → changed_views (told_change change) views ≡ ledger_views change views
same_change (Add new) [] fits = absurd fits
same_change (Add new) (view ∷ []) fits = refl
same_change (Add new) (view ∷ old ∷ rest) fits = absurd fits
same_change Drop [] fits = refl
same_change Drop (view ∷ []) fits = refl
same_change Drop (view ∷ old ∷ []) fits = refl
same_change Drop (view ∷ old ∷ other ∷ rest) fits = refl

-- the views after a known fact are those of the next epoch in the ledger
pub same_views : (l : Ledger) (f : Fact) → IsOrderly l → IsKnown l f → views_after f ≡ next_views l (fact_place f)
same_views l f orderly known = ap (λ c. changed_views c f.views) known.change ∙ ap (λ views. changed_views (change_at l (fact_place f)) views) known.views ∙ by_seq (f.seq == 2) refl
  where
    d : ℕ
    d = epoch_number f.epoch

    by_seq : (b : Bool) → (f.seq == 2) ≡ b → changed_views (if b then told_change (l.change d) else changes.None) (l.views d) ≡ (if b then ledger_views (l.change d) (l.views d) else l.views d)
    by_seq true second = same_change (l.change d) (l.views d) (orderly.fits d (changed_of l (fact_place f) known.is_fact second))
    by_seq false first = refl

-- a peer that may accept a fact at once is no member of the new view of two
pub not_new : (trusted : Bool) (me : ℕ) (new : Fact) → may_accept trusted me new ≡ true → ¬ IsNew new.views me
not_new trusted me new may is_new = by_views new.views is_new (part trusted (not (is_joint new.views && is_in (first_view new.views) me)) may)
  where
    part : (a b : Bool) → (a && b) ≡ true → b ≡ true
    part a b h = (and_parts a b h).1

    by_views : (views : List (List ℕ)) → IsNew views me → not (is_joint views && is_in (first_view views) me) ≡ true → ⊥
    by_views [] is old = is
    by_views (view ∷ []) is old = is
    by_views (view ∷ other ∷ rest) is old = not_both (tested_in view me is) (false_of (is_in view me) old)
      where
        false_of : (b : Bool) → not (true && b) ≡ true → b ≡ false
        false_of true h = absurd (false≢true h)
        false_of false h = refl

-- a peer that starts an epoch accepts it at once, or waits for a sync
pub starts_either : (P : Election × PhaseOut → Type 0) (trusted : Bool) (me : ℕ) (new : Fact)
    → (may_accept trusted me new ≡ true → P (Starting new (alone me) 0, saves_and_sends new (others_of me (members new.views)) (messages.NewEpoch new) (thens.Rule phase_rules.EnoughAccepted)))
    → P (Starting new nobody 0, sends (others_of me (members new.views)) (messages.NewEpoch new) (thens.SyncOn new)) → P (starts trusted me new)
unfolding starts
starts_either P trusted me new accepts waits = by_test P (may_accept trusted me new) _ _ accepts (λ may_not. waits)

-- a promise is counted; the base is then no older than it was, and no older than the promised fact
promised_more : (l : Ledger) (q d : ℕ) (b now : Place) → IsAtMost b now → HasPromised l q d b → HasPromised l q d now
promised_more l q d b now low has = record {
  stands = has.stands;
  told = λ a accepted below. le_trans (has.told a accepted below) (place_epoch b now low);
  told_second = λ a adopted below. place_trans (second_of a) b now (has.told_second a adopted below) low;
}

counted : (l : Ledger) (p from : ℕ) (fact base now promised : Fact) (promises : List Bool) → IsPreparing l p fact base promises → IsPromise l from fact.ballot promised
    → IsKnown l now → epoch_number now.epoch < epoch_number fact.ballot → IsAtMost (fact_place base) (fact_place now) → IsAtMost (fact_place promised) (fact_place now)
    → IsPreparing l p fact now (joined from promises)
counted l p from fact base now promised promises old told known above rises covers = record {
  own = old.own;
  fresh = old.fresh;
  known = known;
  above = above;
  promised = joined_then (λ q. HasPromised l q (epoch_number fact.ballot) (fact_place now)) from promises
      (promised_more l from (epoch_number fact.ballot) (fact_place promised) (fact_place now) covers told.promised)
      (λ q h. promised_more l q (epoch_number fact.ballot) (fact_place base) (fact_place now) rises (old.promised q h));
}

module _ {c : Course} {l : Ledger} {x : State} {stored : Option Fact} (h : Fits c l x stored) where
  open c use {peer as p}

  -- rule 13, for a member, with a quorum of promises
  module _ (base : Fact) (promises : List Bool) (preparing : IsPreparing l p x.fact base promises) (alone_now : SyncHolds l p x.fact false x.sync) (quorum : is_quorum (holds promises) base.views ≡ true) where
    abbrev d : ℕ
    d = epoch_number x.fact.ballot

    abbrev chosen : Ledger
    chosen = elect l d (fact_place base)

    abbrev new : Fact
    new = first_fact x.fact p (views_after base)

    abbrev may_elect : MayElect l d (fact_place base)
    may_elect = record {
      fresh = preparing.fresh;
      above = preparing.above;
      listed = preparing.known.elected;
      is_fact = preparing.known.is_fact;
      voters = holds promises;
      quorum = subst (λ views. is_quorum (holds promises) views ≡ true) preparing.known.views quorum;
      reached = λ q voted. (preparing.promised q voted).stands;
      told = λ q a voted. (preparing.promised q voted).told a;
    }

    proposes : p ≡ proposer_of d
    proposes = sym (proposer_of-number x.fact.ballot h.peer.saved.known.ballot ∙ preparing.own)

    chosen_reaches : Reaches c chosen
    chosen_reaches = elect_reaches c l h.reaches d (fact_place base) proposes (rw h.peer.saved.ballot (omega arith)) may_elect (λ q voted adopted. (preparing.promised q voted).told_second (epoch_number base.epoch) adopted preparing.above)

    later : 0 < d
    later = let above = preparing.above in omega (arith, above)

    new_views : views_after base ≡ chosen.views d
    new_views = same_views l base h.reaches.orderly preparing.known ∙ sym (put_here l.views d (next_views l (fact_place base)))

    is_first : IsFirst chosen new
    is_first = record {
      known = record {
        ballot = h.peer.saved.known.ballot;
        epoch = h.peer.saved.known.ballot;
        below = omega arith;
        elected = put_here l.elected d true;
        is_fact = inr (inl (put_here l.elected d true, refl));
        leader = sym preparing.own;
        views = new_views;
        change = refl;
      };
      seq = refl;
      later = later;
      own_ballot = refl;
    }

    -- no epoch is changed before it is elected
    unchanged : (b : Bool) → l.changed d ≡ b → l.changed d ≡ false
    unchanged true e = absurd (not_both ((reaches_sound c l h.reaches).leaders.changed d e) preparing.fresh)
    unchanged false e = e

    -- the peer accepted a lower epoch, since this one was not elected
    newer_fact : epoch_number x.fact.epoch < d
    newer_fact = below h.peer.saved.known.below (λ same. not_both (subst (λ n. l.elected n ≡ true) same h.peer.saved.known.elected) preparing.fresh)
      where
        below : epoch_number x.fact.epoch ≤ d → (epoch_number x.fact.epoch ≡ d → ⊥) → epoch_number x.fact.epoch < d
        below low other = grind (arith, nat_tests)

    newer : (l.fact p).epoch < d
    newer = rw (ap (λ (place : Place). place.epoch) h.peer.saved.place) newer_fact

    starting : IsStarting (accept chosen p d) p new new (alone p)
    starting = record {
      started = record {
        own = preparing.own;
        first = first_keeps chosen (accept chosen p d) p (accept_keeps chosen p d h.peer.saved.ballot) new is_first;
        at_ballot = refl;
        accepted = alone_then (λ q. (accept chosen p d).accepted d q ≡ true) p (mark_here l.accepted d p);
      };
      unchanged = unchanged (l.changed d) refl;
    }

    begun_goes : may_accept x.trusted p new ≡ true → Goes c l stored (electing (Starting new (alone p) 0) x, saves_and_sends new (others_of p (members new.views)) (messages.NewEpoch new) (thens.Rule phase_rules.EnoughAccepted))
    begun_goes may = record {
      ledger = accept chosen p d;
      keeps = keeps_both l chosen (accept chosen p d) p (elect_keeps l p d (fact_place base) proposes preparing.fresh) (accept_keeps chosen p d h.peer.saved.ballot);
      fits = accepted_fits h chosen chosen_reaches new is_first h.peer.saved.ballot newer (λ is_new. not_new x.trusted p new may (subst (λ views. IsNew views p) (sym new_views) is_new)) (phases.Electing (Starting new (alone p) 0)) starting x.sync
          (none_runs l (accept chosen p d) p x.fact new true x.sync alone_now);
      says = starting.started.first;
      syncs = tt;
    }

    -- a peer that does not trust its tree is elected, and does not accept the epoch yet
    elected_keeps : Keeps l chosen p
    elected_keeps = elect_keeps l p d (fact_place base) proposes preparing.fresh

    waits_goes : Goes c l stored (electing (Starting new nobody 0) x, sends (others_of p (members new.views)) (messages.NewEpoch new) (thens.SyncOn new))
    waits_goes = record {
      ledger = chosen;
      keeps = elected_keeps;
      fits = record {
        reaches = chosen_reaches;
        peer = record {
          saved = record { known = known_keeps l chosen p elected_keeps x.fact h.peer.saved.known; ballot = h.peer.saved.ballot; place = h.peer.saved.place };
          kept = h.peer.kept;
          phase = record {
            started = record { own = preparing.own; first = is_first; at_ballot = refl; accepted = nobody_then (λ q. chosen.accepted d q ≡ true) };
            unchanged = unchanged (l.changed d) refl;
          };
          sync = tt;
        };
      };
      says = is_first;
      syncs = record { first = is_first; promised = refl; newer = newer_fact; waits = refl };
    }

    starts_goes : Goes c l stored (electing (starts x.trusted p new).0 x, (starts x.trusted p new).1)
    starts_goes = starts_either (λ (r : Election × PhaseOut). Goes c l stored (electing r.0 x, r.1)) x.trusted p new begun_goes waits_goes

  pub rule_13 : (phase : Phase) → PhaseHolds l p x.fact phase → SyncHolds l p x.fact (may_wait phase) x.sync → Goes c l stored (while_13 phase p x)
  rule_13 (phases.Electing (Preparing base promises asked age)) old runs =
      by_test does (is_quorum (holds promises) base.views) _ _
      (λ quorum. by_test does (is_member (views_after base) p) _ _
      (λ member. starts_goes base promises old runs quorum)
      (λ stranger. follows h (phases.Electing (Preparing base promises asked age))))
      (λ few. rests_in h (phases.Electing (Preparing base promises asked age)) old runs)
    where
      does : Election × PhaseOut → Type 0
      does r = Goes c l stored (electing r.0 x, r.1)
  rule_13 (phases.Electing (Starting new accepts age)) old runs = rests_in h (phases.Electing (Starting new accepts age)) old runs
  rule_13 other old runs = quiet h

  -- rule 12, for a promise of the peer's own ballot
  promised_goes : (from : ℕ) (base promised : Fact) (promises asked : List Bool) (age : ℕ) → IsPreparing l p x.fact base promises → SyncHolds l p x.fact false x.sync → IsPromise l from x.fact.ballot promised
      → Goes c l stored (electing (promised_by base promises asked age p from x.fact.ballot promised).0 x, (promised_by base promises asked age p from x.fact.ballot promised).1)
  promised_goes from base promised promises asked age old runs told =
      by_test (λ (r : Election × PhaseOut). Goes c l stored (electing r.0 x, r.1)) (is_newer promised base) _ _
      (λ newer. unmoved (enters h (phases.Electing now)
      (counted l p from x.fact base promised promised promises old told told.known told.lower (newer_place promised base told.known.epoch old.known.epoch newer) (place_same (fact_place promised))) runs) asks tt)
      (λ older. names h phase_rules.EnoughPromised (phases.Electing (Preparing base (joined from promises) asked age))
      (counted l p from x.fact base base promised promises old told old.known old.above (place_same (fact_place base)) (not_newer_place promised base told.known.epoch old.known.epoch older)) runs)
    where
      now : Election
      now = Preparing promised (joined from promises) (with_members asked promised.views) age

      asks : IsPrepare l p x.fact.ballot
      asks = record { epoch = h.peer.saved.known.ballot; own = old.own; stands = rw h.peer.saved.ballot (omega arith) }

  pub rule_12 : (phase : Phase) (from : ℕ) (ballot : Epoch) (promised : Fact) → PhaseHolds l p x.fact phase → SyncHolds l p x.fact (may_wait phase) x.sync → IsPromise l from ballot promised → Goes c l stored (while_12 phase p from ballot promised x)
  rule_12 (phases.Electing (Preparing base promises asked age)) from ballot promised old runs told =
      by_test (λ (r : Election × PhaseOut). Goes c l stored (electing r.0 x, r.1)) (is_same ballot x.fact.ballot) _ _
      (λ same. at_own (sym (same_epochs ballot x.fact.ballot same)))
      (λ other. rests_in h (phases.Electing (Preparing base promises asked age)) old runs)
    where
      at_own : x.fact.ballot ≡ ballot → Goes c l stored (electing (promised_by base promises asked age p from ballot promised).0 x, (promised_by base promises asked age p from ballot promised).1)
      at_own same =
          subst (λ (b : Epoch). Goes c l stored (electing (promised_by base promises asked age p from b promised).0 x, (promised_by base promises asked age p from b promised).1)) same
          (promised_goes from base promised promises asked age old runs (subst (λ (b : Epoch). IsPromise l from b promised) (sym same) told))
  rule_12 (phases.Electing (Starting new accepts age)) from ballot promised old runs told = rests_in h (phases.Electing (Starting new accepts age)) old runs
  rule_12 other from ballot promised old runs told = quiet h
