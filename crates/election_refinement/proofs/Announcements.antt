-- Rules 16 and 18: a leader announces the first fact of its epoch, or the second.
use Rattle.std.specs.Prelude.{not}
use Rattle.std.proofs.Common.{◌≡◌, ℕ, ◌<◌, ◌≤◌, Bool, true, false, ◌==◌, if◌then◌else◌, inl, inr, Option, None, arith, refl, ap, ◌∙◌, sym, subst}
use Rattle.std.proofs.lemmas.Bool.{true≢false}
use Rattle.std.proofs.lemmas.Bool.Decides.{nat_tests}
use Rattle.protocol_laws.specs.Ledger.{Ledger, Place, IsFact, IsNew, MayAdopt, raise, accept, adopt}
use Rattle.protocol_laws.specs.Numbers.{epoch_number}
use Rattle.phase_rules.specs.Announcements.{takes, accepts, commits, row_18}
use Rattle.phase_rules.specs.Refusals.{unless_refused}
use Rattle.peer_state.specs.Moves.{follower, stopped_leading, waiting_phase, waiting_for}
use Rattle.peer_state.specs.Rows.{announced, runs_sync}
use Rattle.peer_state.specs.declared.state.Phase.{Phase}
use Rattle.peer_state.specs.declared.state.Phase.TheVariants as phases
use Rattle.peer_state.specs.declared.state.State.{State}
use Rattle.stored_formats.specs.declared.fact.Fact.{Fact}
use Rattle.phase_rows.specs.Orders.{is_below, is_same, may_accept}
use Rattle.phase_rows.specs.Peers.{alone}
use Rattle.phase_rows.specs.Rows.{silent, sends, saves, saves_and_sends, leaves_leading, at_ballot}
use Rattle.protocol_laws.proofs.Maps.{put_here, mark_here}
use Rattle.wire_frames.specs.declared.message.Message.TheVariants as messages
use Rattle.phase_rows.specs.declared.phase.PhaseOut.{PhaseOut}
use Rattle.phase_rows.specs.declared.phase.Then.{Then}
use Rattle.phase_rows.specs.declared.phase.Then.TheVariants as thens
use Rattle.phase_rows.proofs.Epochs.{same_epochs}
use Rattle.election_refinement.proofs.Elections.{not_new}
use Rattle.election_refinement.proofs.Keeps.{keeps_both, raise_keeps, accept_keeps, adopt_keeps, first_keeps, second_keeps}
use Rattle.election_refinement.proofs.Numbers.{other_number, not_below_number}
use Rattle.election_refinement.proofs.Quiet.{refuses}
use Rattle.election_refinement.proofs.Reaching.{Course, reaches_safe, raise_reaches, adopt_reaches}
use Rattle.election_refinement.proofs.Rows.{Fits, Goes, runs_on, unmoved, enters, enters_alone}
use Rattle.election_refinement.proofs.Saving.{may_raise, own_accepted, raised_fits, accepted_fits}
use Rattle.election_refinement.proofs.Tests.{by_test}
use Rattle.election_refinement.specs.Refinement.{fact_place, IsFirst, IsSecond, IsAcceptance, PhaseHolds, may_wait}
use Rattle.protocol_laws.proofs.Ranks.{epoch_same}

-- a peer that waits for a sync, and steps down if it led, follows
waiting_holds : (l : Ledger) (p : ℕ) (fact : Fact) (phase : Phase) → PhaseHolds l p fact (stopped_leading (waiting_phase phase))
waiting_holds l p fact (phases.Following f) = tt
waiting_holds l p fact (phases.Probing b) = tt
waiting_holds l p fact (phases.Electing e) = tt
waiting_holds l p fact (phases.Leading leadership) = tt

waiting : (phase : Phase) → may_wait (stopped_leading (waiting_phase phase)) ≡ true
waiting (phases.Following f) = refl
waiting (phases.Probing b) = refl
waiting (phases.Electing e) = refl
waiting (phases.Leading leadership) = refl

module _ {c : Course} {l : Ledger} {x : State} {stored : Option Fact} (h : Fits c l x stored) (from : ℕ) (new : Fact) (told : IsFirst l new) where
  open c use {peer as p}

  -- the row, once a peer that is to wait for a sync follows
  abbrev Does : PhaseOut → Type 0
  Does row = Goes c l stored (waiting_for row.then x, row)

  -- the epoch was accepted already
  again : new.epoch ≡ x.fact.epoch → Does (sends (alone from) (messages.Accepted new.epoch 1) thens.Follow)
  again same = unmoved (enters_alone h follower tt) said tt
    where
      accepted : l.accepted (epoch_number new.epoch) p ≡ true
      accepted = subst (λ e. l.accepted (epoch_number e) p ≡ true) (sym same) (own_accepted h)

      said : IsAcceptance l p new.epoch 1
      said = inl (refl, accepted)

  module _ (above : epoch_number x.fact.ballot ≤ epoch_number new.epoch) (other : epoch_number x.fact.epoch ≡ epoch_number new.epoch → ⊥) where
    abbrev d : ℕ
    d = epoch_number new.epoch

    abbrev raised : Ledger
    raised = raise l p d

    may : l.ballot p ≤ d
    may = may_raise h d above

    newer_fact : epoch_number x.fact.epoch < d
    newer_fact = less h.peer.saved.known.below
      where
        less : epoch_number x.fact.epoch ≤ epoch_number x.fact.ballot → epoch_number x.fact.epoch < d
        less below = grind (arith, nat_tests)

    newer : (l.fact p).epoch < d
    newer = rw (ap (λ (place : Place). place.epoch) h.peer.saved.place) newer_fact

    accepts_goes : may_accept x.trusted p new ≡ true → Does (leaves_leading (accepts from new))
    accepts_goes accepts_now = record {
      ledger = accept raised p d;
      keeps = keeps_both l raised (accept raised p d) p (raise_keeps l p d may) (accept_keeps raised p d (put_here l.ballot p d));
      fits = accepted_fits h raised (raise_reaches c l h.reaches d may) new (first_keeps l raised p (raise_keeps l p d may) new told) (put_here l.ballot p d) newer (λ is_new. not_new x.trusted p new accepts_now (subst (λ views. IsNew views p) (sym told.known.views) is_new)) follower tt None tt;
      says = inl (refl, mark_here l.accepted d p);
      syncs = tt;
    }

    -- a peer that may not accept the epoch only promises it, if its ballot is lower, and syncs on it
    promises_goes : Does (leaves_leading (saves (at_ballot x.fact new.epoch) (thens.SyncOn new)))
    promises_goes = record {
      ledger = raised;
      keeps = raise_keeps l p d may;
      fits = raised_fits h new.epoch told.known.epoch above (stopped_leading (waiting_phase x.phase)) (waiting_holds raised p (at_ballot x.fact new.epoch) x.phase);
      says = tt;
      syncs = record { first = first_keeps l raised p (raise_keeps l p d may) new told; promised = refl; newer = newer_fact; waits = waiting x.phase };
    }

    -- at its own ballot it resumes the sync that runs, or begins one
    at_own : is_below x.fact.ballot new.epoch ≡ false → Does (leaves_leading (silent (if runs_sync x.sync then thens.Resume else thens.SyncOn new)))
    at_own not_below =
        let promised = epoch_same new.epoch x.fact.ballot told.known.epoch h.peer.saved.known.ballot (at_most_twice (not_below_number x.fact.ballot new.epoch h.peer.saved.known.ballot told.known.epoch not_below) above) in
        by_test (λ (turn : Then). Does (leaves_leading (silent turn))) (runs_sync x.sync) thens.Resume (thens.SyncOn new)
        (λ runs. unmoved (enters h (stopped_leading (waiting_phase x.phase)) (waiting_holds l p x.fact x.phase) (runs_on l p x.fact (may_wait x.phase) (may_wait (stopped_leading (waiting_phase x.phase))) x.sync (waiting x.phase) h.peer.sync)) tt tt)
        (λ none. unmoved (enters_alone h (stopped_leading (waiting_phase x.phase)) (waiting_holds l p x.fact x.phase)) tt (record { first = told; promised = promised; newer = newer_fact; waits = waiting x.phase }))
      where
        at_most_twice : {a b : ℕ} → a ≤ b → b ≤ a → a ≡ b
        at_most_twice less more = omega (arith, less, more)

    takes_goes : Does (leaves_leading (takes x.fact p x.trusted (runs_sync x.sync) from new))
    takes_goes =
        by_test (λ (row : PhaseOut). Does (leaves_leading row)) (may_accept x.trusted p new) _ _
        accepts_goes
        (λ waits. by_test (λ (row : PhaseOut). Does (leaves_leading row)) (is_below x.fact.ballot new.epoch) _ _
        (λ below. promises_goes)
        (λ not_below. at_own not_below))

  pub rule_16 : Goes c l stored (announced p from new x)
  rule_16 =
      by_test Does (is_below new.epoch x.fact.ballot) _ _
      (λ below. refuses h from new.epoch)
      (λ not_below. by_test Does (is_same new.epoch x.fact.epoch) _ _
      (λ same. again (same_epochs new.epoch x.fact.epoch same))
      (λ other. takes_goes (not_below_number new.epoch x.fact.ballot told.known.epoch h.peer.saved.known.ballot not_below)
      (λ e. other_number new.epoch x.fact.epoch told.known.epoch h.peer.saved.known.epoch other (sym e))))

-- ## Rule 18

module _ {c : Course} {l : Ledger} {x : State} {stored : Option Fact} (h : Fits c l x stored) (from : ℕ) (new : Fact) (told : IsSecond l new) where
  open c use {peer as p}

  abbrev Takes : PhaseOut → Type 0
  Takes row = Goes c l stored (x, row)

  module _ (above : epoch_number x.fact.ballot ≤ epoch_number new.epoch) (same : x.fact.epoch ≡ new.epoch) where
    abbrev e : ℕ
    e = epoch_number new.epoch

    at_number : epoch_number x.fact.epoch ≡ e
    at_number = ap epoch_number same

    stands : l.ballot p ≡ e
    stands = h.peer.saved.ballot ∙ equal h.peer.saved.known.below at_number above
      where
        equal : {a b : ℕ} → a ≤ b → a ≡ e → b ≤ e → b ≡ e
        equal low is high = omega (arith, low, is, high)

    changed : l.changed e ≡ true
    changed = by_place told.known.is_fact
      where
        none : (s : ℕ) → s ≡ 2 → s ≡ 0 → ⊥
        none s two zero = omega (arith, two, zero)

        one : (s : ℕ) → s ≡ 2 → s ≡ 1 → ⊥
        one s two first = omega (arith, two, first)

        by_place : IsFact l (fact_place new) → l.changed e ≡ true
        by_place (inl opening) = absurd (none new.seq told.seq opening.1)
        by_place (inr (inl first)) = absurd (one new.seq told.seq first.1)
        by_place (inr (inr second)) = second.0

    may_adopt : MayAdopt l p e
    may_adopt = record { changed = changed; stands = stands; first = subst (λ n. l.accepted n p ≡ true) at_number (own_accepted h) }

    -- the second fact is saved
    adopts_goes : Takes (saves_and_sends new (alone from) (messages.Accepted new.epoch 2) thens.Follow)
    adopts_goes = record {
      ledger = adopt l p e;
      keeps = adopt_keeps l p e stands;
      fits = record {
        reaches = adopt_reaches c l h.reaches e may_adopt;
        peer = record {
          saved = record {
            known = (second_keeps l (adopt l p e) p (adopt_keeps l p e stands) new told).known;
            ballot = stands ∙ ap epoch_number (sym told.own_ballot);
            place = put_here l.fact p (record { epoch = e; seq = 2 }) ∙ ap (λ n. record { epoch = e; seq = n }) (sym told.seq);
          };
          kept = refl;
          phase = tt;
          sync = tt;
        };
      };
      says = inr (refl, mark_here l.adopted e p);
      syncs = tt;
    }

    -- the second fact was saved before
    adopted : (x.fact.seq == 1) ≡ false → l.adopted e p ≡ true
    adopted later = subst (λ n. l.adopted n p ≡ true) (ap (λ (place : Place). place.epoch) h.peer.saved.place ∙ at_number) ((reaches_safe c l h.reaches).ballots.last_change p (ap (λ (place : Place). place.seq) h.peer.saved.place ∙ by_place h.peer.saved.known.is_fact))
      where
        none : {n : ℕ} → n ≡ 0 → n ≡ e → 0 < e → ⊥
        none zero is above = omega (arith, zero, is, above)

        one : (s : ℕ) → s ≡ 1 → (s == 1) ≡ false → ⊥
        one s is not_one = grind (arith, nat_tests)

        by_place : IsFact l (fact_place x.fact) → x.fact.seq ≡ 2
        by_place (inl opening) = absurd (none opening.0 at_number told.later)
        by_place (inr (inl first)) = absurd (one x.fact.seq first.1 later)
        by_place (inr (inr second)) = second.1

    commits_goes : Takes (commits x.fact from new)
    commits_goes =
        by_test Takes (x.fact.seq == 1) _ _
        (λ first. adopts_goes)
        (λ later. unmoved (enters_alone h follower tt) (said later) tt)
      where
        said : (x.fact.seq == 1) ≡ false → IsAcceptance l p new.epoch 2
        said later = inr (refl, adopted later)

  pub rule_18 : Takes (row_18 x.fact x.trusted from new)
  rule_18 = let P : Option PhaseOut → Type 0 = λ refused. Takes (unless_refused refused (commits x.fact from new)) in
      by_test P (is_below new.epoch x.fact.ballot) _ _
      (λ below. refuses h from new.epoch)
      (λ not_below. by_test P (not (is_same x.fact.epoch new.epoch)) _ _
      (λ other. unmoved h tt tt)
      (λ same. by_test P (not x.trusted) _ _
      (λ untrusted. unmoved h tt tt)
      (λ trusts. commits_goes (not_below_number new.epoch x.fact.ballot told.known.epoch h.peer.saved.known.ballot not_below) (same_epochs x.fact.epoch new.epoch (true_of (is_same x.fact.epoch new.epoch) same)))))
    where
      true_of : (b : Bool) → not b ≡ false → b ≡ true
      true_of true same = refl
      true_of false same = absurd (true≢false same)
