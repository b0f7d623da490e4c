-- What the steps of one peer preserve in the ledger: for the other peers, and for everything
-- asserted before.
use Rattle.std.proofs.Common.{◌≡◌, ℕ, ◌<◌, ◌≤◌, Bool, true, false, ◌==◌, if◌then◌else◌, List, Option, None, Some, inl, inr, arith, refl, ap, le_trans, ◌∙◌, sym, subst}
use Rattle.std.specs.Prelude.{All, ◌||◌, nat_le}
use Rattle.std.proofs.lemmas.Bool.Decides.{nat_tests}
use Rattle.std.proofs.lemmas.List.Elements.{All-weaker}
use Rattle.quorums.proofs.Majorities.{quorum_less, quorum_more}
use Rattle.quorums.specs.Quorums.{is_quorum}
use Rattle.protocol_laws.specs.Ledger.{Ledger, Place, Change, put, mark, IsFact, is_established, raise, elect, accept, commit, adopt, join}
use Rattle.protocol_laws.specs.Numbers.{epoch_number, IsEpoch}
use Rattle.protocol_laws.proofs.Epochs.{not_both}
use Rattle.protocol_laws.proofs.Rising.{put_rises}
use Rattle.protocol_laws.specs.Preparing.{proposer_of}
use Rattle.phase_rules.specs.declared.election.Election.TheVariants.{Preparing, Starting}
use Rattle.ens_base.specs.declared.epoch.Epoch.{Epoch}
use Rattle.peer_state.specs.declared.state.ChangeState.{ChangeState}
use Rattle.peer_state.specs.declared.state.ChangeState.TheVariants.{Settled, Wanted, Finishing as Finishes}
use Rattle.peer_state.specs.declared.state.Leadership.{Leadership}
use Rattle.peer_state.specs.declared.state.Phase.{Phase}
use Rattle.peer_state.specs.declared.state.Phase.TheVariants as phases
use Rattle.stored_formats.specs.declared.fact.Change.TheVariants as changes
use Rattle.stored_formats.specs.declared.fact.Fact.{Fact}
use Rattle.phase_rules.specs.declared.probing.Probing.{Probing}
use Rattle.leader_output.specs.declared.out.Outgoing.{Outgoing}
use Rattle.tree_sync.specs.Running.{Running}
use Rattle.protocol_laws.proofs.Maps.{put_other}
use Rattle.wire_frames.specs.declared.frame.Frame.{Frame}
use Rattle.wire_frames.specs.declared.message.Message.{Message}
use Rattle.wire_frames.specs.declared.message.Message.TheVariants as messages
use Rattle.world_spec.specs.Nodes.{Node, Up, Down}
use Rattle.election_refinement.proofs.Numbers.{proposer_of-number}
use Rattle.election_refinement.specs.Refinement.{fact_place, told_change, change_at, may_take, IsFactClosed, second_of, IsFitting, IsKnown, IsFirst, IsSecond, HasPromised, IsProbing, IsPreparing, IsStarted, IsStarting, ChangeHolds, IsLeading, PhaseHolds, may_wait, MaySync, SyncHolds, IsSaved, IsAcceptance, NodeHolds, MessageHolds, SendHolds, FrameHolds}
use Rattle.election_refinement.specs.Keeps.{Keeps}

pub keeps_none : (l : Ledger) (p : ℕ) → Keeps l l p
keeps_none l p = record {
  ballot = λ q n. refl;
  fact = λ q n. refl;
  rises = λ q. omega arith;
  elected = λ d h. h;
  fresh = λ d h n. h;
  views = λ d h. refl;
  accepted = λ d q h. h;
  below = λ a q h low. h;
  changed = λ d h. h;
  unchanged = λ d h n. h;
  change = λ d h. refl;
  adopted = λ d q h. h;
  left = λ a q h low. h;
}

pub keeps_both : (l m n : Ledger) (p : ℕ) → Keeps l m p → Keeps m n p → Keeps l n p
keeps_both l m n p a b = record {
  ballot = λ q o. b.ballot q o ∙ a.ballot q o;
  fact = λ q o. b.fact q o ∙ a.fact q o;
  rises = λ q. le_trans (a.rises q) (b.rises q);
  elected = λ d h. b.elected d (a.elected d h);
  fresh = λ d h o. b.fresh d (a.fresh d h o) o;
  views = λ d h. b.views d (a.elected d h) ∙ a.views d h;
  accepted = λ d q h. b.accepted d q (a.accepted d q h);
  below = λ c q h low. a.below c q (b.below c q h (le_trans low (a.rises q))) low;
  changed = λ d h. b.changed d (a.changed d h);
  unchanged = λ d h o. b.unchanged d (a.unchanged d h o) o;
  change = λ d h. b.change d (a.changed d h) ∙ a.change d h;
  adopted = λ d q h. b.adopted d q (a.adopted d q h);
  left = λ c q h low. a.left c q (b.left c q h (le_trans low (a.rises q))) low;
}

-- what is marked stays marked
mark_stays : (r : ℕ → ℕ → Bool) (d p e q : ℕ) → r e q ≡ true → mark r d p e q ≡ true
mark_stays r d p e q h = grind (arith, nat_tests)

-- a mark at a peer's ballot is none below it
mark_below : (r : ℕ → ℕ → Bool) (ballot : ℕ → ℕ) (d p a q : ℕ) → ballot p ≡ d → mark r d p a q ≡ true → a < ballot q → r a q ≡ true
mark_below r ballot d p a q stands h low = grind (arith, nat_tests)

pub raise_keeps : (l : Ledger) (p d : ℕ) → l.ballot p ≤ d → Keeps l (raise l p d) p
raise_keeps l p d may = record {
  ballot = λ q n. put_other l.ballot p d q n;
  fact = λ q n. refl;
  rises = put_rises l.ballot p d may;
  elected = λ e h. h;
  fresh = λ e h n. h;
  views = λ e h. refl;
  accepted = λ e q h. h;
  below = λ a q h low. h;
  changed = λ d h. h;
  unchanged = λ d h n. h;
  change = λ d h. refl;
  adopted = λ d q h. h;
  left = λ a q h low. h;
}

pub elect_keeps : (l : Ledger) (p d : ℕ) (b : Place) → p ≡ proposer_of d → l.elected d ≡ false → Keeps l (elect l d b) p
elect_keeps l p d b own fresh = record {
  ballot = λ q n. refl;
  fact = λ q n. refl;
  rises = λ q. omega arith;
  elected = λ e h. grind (arith, nat_tests);
  fresh = λ e h n. put_other l.elected d true e (λ same. n (own ∙ ap proposer_of same)) ∙ h;
  views = λ e h. grind (arith, nat_tests);
  accepted = λ e q h. h;
  below = λ a q h low. h;
  changed = λ d h. h;
  unchanged = λ d h n. h;
  change = λ d h. refl;
  adopted = λ d q h. h;
  left = λ a q h low. h;
}

pub accept_keeps : (l : Ledger) (p d : ℕ) → l.ballot p ≡ d → Keeps l (accept l p d) p
accept_keeps l p d stands = record {
  ballot = λ q n. refl;
  fact = λ q n. put_other l.fact p (record { epoch = d; seq = 1 }) q n;
  rises = λ q. omega arith;
  elected = λ e h. h;
  fresh = λ e h n. h;
  views = λ e h. refl;
  accepted = λ e q h. mark_stays l.accepted d p e q h;
  below = λ a q h low. mark_below l.accepted l.ballot d p a q stands h low;
  changed = λ d h. h;
  unchanged = λ d h n. h;
  change = λ d h. refl;
  adopted = λ d q h. h;
  left = λ a q h low. h;
}

pub join_keeps : (l : Ledger) (p d : ℕ) → l.ballot p ≡ d → Keeps l (join l p d) p
join_keeps l p d stands = record {
  ballot = λ q n. refl;
  fact = λ q n. put_other l.fact p (record { epoch = d; seq = 1 }) q n;
  rises = λ q. omega arith;
  elected = λ e h. h;
  fresh = λ e h n. h;
  views = λ e h. refl;
  accepted = λ e q h. mark_stays l.accepted d p e q h;
  below = λ a q h low. mark_below l.accepted l.ballot d p a q stands h low;
  changed = λ d h. h;
  unchanged = λ d h n. h;
  change = λ d h. refl;
  adopted = λ d q h. h;
  left = λ a q h low. h;
}

pub commit_keeps : (l : Ledger) (p d : ℕ) (c : Change) → p ≡ proposer_of d → l.changed d ≡ false → Keeps l (commit l d c) p
commit_keeps l p d c own unchanged = record {
  ballot = λ q n. refl;
  fact = λ q n. refl;
  rises = λ q. omega arith;
  elected = λ e h. h;
  fresh = λ e h n. h;
  views = λ e h. refl;
  accepted = λ e q h. h;
  below = λ a q h low. h;
  changed = λ e h. stays e h;
  unchanged = λ e h n. put_other l.changed d true e (λ same. n (own ∙ ap proposer_of same)) ∙ h;
  change = λ e h. put_other l.change d c e (λ same. not_both (subst (λ x. l.changed x ≡ true) (sym same) h) unchanged);
  adopted = λ e q h. h;
  left = λ a q h low. h;
}
  where
    stays : (e : ℕ) → l.changed e ≡ true → put l.changed d true e ≡ true
    stays e h = grind (arith, nat_tests)

pub adopt_keeps : (l : Ledger) (p d : ℕ) → l.ballot p ≡ d → Keeps l (adopt l p d) p
adopt_keeps l p d stands = record {
  ballot = λ q n. refl;
  fact = λ q n. put_other l.fact p (record { epoch = d; seq = 2 }) q n;
  rises = λ q. omega arith;
  elected = λ e h. h;
  fresh = λ e h n. h;
  views = λ e h. refl;
  accepted = λ e q h. h;
  below = λ a q h low. h;
  changed = λ e h. h;
  unchanged = λ e h n. h;
  change = λ e h. refl;
  adopted = λ e q h. mark_stays l.adopted d p e q h;
  left = λ a q h low. mark_below l.adopted l.ballot d p a q stands h low;
}

-- the second fact of an epoch is in the ledger once the epoch is changed
pub changed_of : (l : Ledger) (x : Place) → IsFact l x → (x.seq == 2) ≡ true → l.changed x.epoch ≡ true
changed_of l x (inl z) second = absurd (not_zero x.seq z.1 second)
  where
    not_zero : (s : ℕ) → s ≡ 0 → (s == 2) ≡ true → ⊥
    not_zero s e h = grind (arith, nat_tests)
changed_of l x (inr (inl first)) second = absurd (not_one x.seq first.1 second)
  where
    not_one : (s : ℕ) → s ≡ 1 → (s == 2) ≡ true → ⊥
    not_one s e h = grind (arith, nat_tests)
changed_of l x (inr (inr change)) second = change.0

-- ## What was asserted before

module _ (l m : Ledger) (p : ℕ) (k : Keeps l m p) where
  fact_keeps : (x : Place) → IsFact l x → IsFact m x
  fact_keeps x (inl opening) = inl opening
  fact_keeps x (inr (inl first)) = inr (inl (k.elected x.epoch first.0, first.1))
  fact_keeps x (inr (inr second)) = inr (inr (k.changed x.epoch second.0, second.1))

  -- a fact keeps the change that it tells
  change_keeps : (x : Place) → IsFact l x → change_at m x ≡ change_at l x
  change_keeps x is_fact = by_seq (x.seq == 2) refl
    where
      by_seq : (b : Bool) → (x.seq == 2) ≡ b → (if b then told_change (m.change x.epoch) else changes.None) ≡ (if b then told_change (l.change x.epoch) else changes.None)
      by_seq true second = ap told_change (k.change x.epoch (changed_of l x is_fact second))
      by_seq false first = refl

  pub known_keeps : (f : Fact) → IsKnown l f → IsKnown m f
  known_keeps f old = record {
    ballot = old.ballot;
    epoch = old.epoch;
    below = old.below;
    elected = k.elected (epoch_number f.epoch) old.elected;
    is_fact = fact_keeps (fact_place f) old.is_fact;
    leader = old.leader;
    views = old.views ∙ sym (k.views (epoch_number f.epoch) old.elected);
    change = old.change ∙ sym (change_keeps (fact_place f) old.is_fact);
  }

  pub first_keeps : (f : Fact) → IsFirst l f → IsFirst m f
  first_keeps f old = record { known = known_keeps f old.known; seq = old.seq; later = old.later; own_ballot = old.own_ballot }

  pub second_keeps : (f : Fact) → IsSecond l f → IsSecond m f
  second_keeps f old = record { known = known_keeps f old.known; seq = old.seq; later = old.later; own_ballot = old.own_ballot }

  pub promised_keeps : (q d : ℕ) (f : Place) → HasPromised l q d f → HasPromised m q d f
  promised_keeps q d f old = record {
    stands = le_trans old.stands (k.rises q);
    told = λ a h low. old.told a (k.below a q h (le_trans low old.stands)) low;
    told_second = λ a h low. old.told_second a (k.left a q h (le_trans low old.stands)) low;
  }

  -- a second fact that no quorum can accept stays so
  pub closed_keeps : (d : ℕ) → l.elected d ≡ true → IsFactClosed l (second_of d) → IsFactClosed m (second_of d)
  closed_keeps d elected old = subst (λ views. is_quorum (may_take m (second_of d)) views ≡ false) (sym (k.views d elected)) (quorum_less (may_take l (second_of d)) (may_take m (second_of d)) (l.views d) may old)
    where
      may : (q : ℕ) → may_take m (second_of d) q ≡ true → may_take l (second_of d) q ≡ true
      may q h = either (l.ballot q) (m.ballot q) (l.adopted d q) (m.adopted d q) (k.rises q) (k.left d q) h
        where
          either : (x y : ℕ) (s t : Bool) → x ≤ y → (t ≡ true → d < x → s ≡ true) → (nat_le y d || t) ≡ true → (nat_le x d || s) ≡ true
          either x y s t rises left h = grind (arith, nat_tests)

  pub established_keeps : (d : ℕ) → l.elected d ≡ true → is_established l d ≡ true → is_established m d ≡ true
  established_keeps d elected old = rw (k.views d elected) (quorum_more (l.accepted d) (m.accepted d) (λ q h. k.accepted d q h) (l.views d) old)

  acceptance_keeps : (q : ℕ) (d : Epoch) (s : ℕ) → IsAcceptance l q d s → IsAcceptance m q d s
  acceptance_keeps q d s (inl first) = inl (first.0, k.accepted (epoch_number d) q first.1)
  acceptance_keeps q d s (inr second) = inr (second.0, k.adopted (epoch_number d) q second.1)

  pub message_keeps : (q : ℕ) (message : Message) → MessageHolds l q message → MessageHolds m q message
  message_keeps q messages.Probe old = tt
  message_keeps q (messages.ProbeReply f) old = known_keeps f old
  message_keeps q (messages.Prepare d) old = record { epoch = old.epoch; own = old.own; stands = le_trans old.stands (k.rises q) }
  message_keeps q (messages.Promise d f) old = record {
    known = known_keeps f old.known;
    at_ballot = old.at_ballot;
    lower = old.lower;
    promised = promised_keeps q (epoch_number d) (fact_place f) old.promised;
  }
  message_keeps q (messages.Nack d c) old = tt
  message_keeps q (messages.NewEpoch f) old = first_keeps f old
  message_keeps q (messages.Accepted d s) old = acceptance_keeps q d s old
  message_keeps q (messages.Commit f) old = second_keeps f old
  message_keeps q (messages.Beat d) old = record { elected = k.elected (epoch_number d) old.elected; established = established_keeps (epoch_number d) old.elected old.established }
  message_keeps q (messages.Check ballot round) old = tt
  message_keeps q (messages.CheckReply ballot round) old = tt
  message_keeps q (messages.Get ballot round key) old = tt
  message_keeps q (messages.GetReply ballot round key entry object) old = tt
  message_keeps q (messages.Put ballot object) old = tt
  message_keeps q (messages.PutReply ballot key version) old = tt
  message_keeps q (messages.TreeAsk ballot at after) old = tt
  message_keeps q (messages.TreeGive ballot at after trusted body) old = tt
  message_keeps q other old = absurd old

  pub sends_keep : (q : ℕ) (sends : List Outgoing) → All (SendHolds l q) sends → All (SendHolds m q) sends
  sends_keep q sends old = All-weaker (SendHolds l q) (SendHolds m q) (λ o h. (h.0, message_keeps q o.message h.1)) sends old

  pub frames_keep : (frames : List Frame) → All (FrameHolds l) frames → All (FrameHolds m) frames
  frames_keep frames old = All-weaker (FrameHolds l) (FrameHolds m) (λ f h. (h.0, (h.1.0, message_keeps f.from f.message h.1.1))) frames old

  pub may_sync_keeps : (fact : Fact) (waiting : Bool) (new : Fact) → MaySync l fact waiting new → MaySync m fact waiting new
  may_sync_keeps fact waiting new old = record { first = first_keeps new old.first; promised = old.promised; newer = old.newer; waits = old.waits }

  -- ## The other peers

  probing_keeps : (fact : Fact) (probing : Probing) → IsProbing l fact probing → IsProbing m fact probing
  probing_keeps fact probing old = record { best = known_keeps probing.best old.best; newer = old.newer; counts_best = old.counts_best; counts_own = old.counts_own }

  -- a peer is the proposer of the epoch that it started
  proposes : (q : ℕ) (fact new : Fact) (accepts : List Bool) → IsStarted l q fact new accepts → proposer_of (epoch_number new.epoch) ≡ q
  proposes q fact new accepts old = proposer_of-number new.epoch old.first.known.epoch ∙ ap (λ (e : Epoch). e.proposer) old.at_ballot ∙ old.own

  pub started_keeps : (q : ℕ) (fact new : Fact) (accepts : List Bool) → IsStarted l q fact new accepts → IsStarted m q fact new accepts
  started_keeps q fact new accepts old = record { own = old.own; first = first_keeps new old.first; at_ballot = old.at_ballot; accepted = λ r h. k.accepted (epoch_number new.epoch) r (old.accepted r h) }

  starting_keeps : (q : ℕ) (fact new : Fact) (accepts : List Bool) → (p ≡ q → ⊥) → IsStarting l q fact new accepts → IsStarting m q fact new accepts
  starting_keeps q fact new accepts other old = record {
    started = started_keeps q fact new accepts old.started;
    unchanged = k.unchanged (epoch_number new.epoch) old.unchanged (λ same. other (same ∙ proposes q fact new accepts old.started));
  }

  -- only the proposer of an epoch changes its views
  change_stays : (fact : Fact) (s : ChangeState) → l.elected (epoch_number fact.epoch) ≡ true → (p ≡ proposer_of (epoch_number fact.epoch) → ⊥) → ChangeHolds l fact s → ChangeHolds m fact s
  change_stays fact Settled elected other old = k.unchanged (epoch_number fact.epoch) old other
  change_stays fact (Wanted c) elected other old = record {
    unchanged = k.unchanged (epoch_number fact.epoch) old.unchanged other;
    change = old.change;
    told = old.told;
    fits = subst (IsFitting old.change) (sym (k.views (epoch_number fact.epoch) elected)) old.fits;
  }
  change_stays fact (Finishes f) elected other old = record { seq = old.seq; adopted = λ q h. k.adopted (epoch_number fact.epoch) q (old.adopted q h) }

  leading_keeps : (q : ℕ) (fact : Fact) (leadership : Leadership) → (p ≡ q → ⊥) → IsLeading l q fact leadership → IsLeading m q fact leadership
  leading_keeps q fact leadership other old = let new = leadership.leader.fact in
      record {
        started = started_keeps q fact new leadership.leader.accepts old.started;
        established = established_keeps (epoch_number new.epoch) old.started.first.known.elected old.established;
        has = old.has;
        change = change_stays fact leadership.change (subst (λ (e : Epoch). l.elected (epoch_number e) ≡ true) (sym old.has) old.started.first.known.elected)
            (λ same. other (same ∙ ap (λ (e : Epoch). proposer_of (epoch_number e)) old.has ∙ proposes q fact new leadership.leader.accepts old.started)) old.change;
      }

  preparing_keeps : (q : ℕ) (fact base : Fact) (promises : List Bool) → (p ≡ q → ⊥) → IsEpoch fact.ballot → IsPreparing l q fact base promises → IsPreparing m q fact base promises
  preparing_keeps q fact base promises other epoch old = record {
    own = old.own;
    fresh = k.fresh (epoch_number fact.ballot) old.fresh (λ same. other (same ∙ proposer_of-number fact.ballot epoch ∙ old.own));
    known = known_keeps base old.known;
    above = old.above;
    promised = λ r h. promised_keeps r (epoch_number fact.ballot) (fact_place base) (old.promised r h);
  }

  phase_keeps : (q : ℕ) (fact : Fact) (phase : Phase) → (p ≡ q → ⊥) → IsEpoch fact.ballot → PhaseHolds l q fact phase → PhaseHolds m q fact phase
  phase_keeps q fact (phases.Following follower) other epoch old = tt
  phase_keeps q fact (phases.Probing probing) other epoch old = probing_keeps fact probing old
  phase_keeps q fact (phases.Electing (Preparing base promises asked age)) other epoch old = preparing_keeps q fact base promises other epoch old
  phase_keeps q fact (phases.Electing (Starting new accepts age)) other epoch old = starting_keeps q fact new accepts other old
  phase_keeps q fact (phases.Leading leadership) other epoch old = leading_keeps q fact leadership other old

  sync_keeps : (q : ℕ) (fact : Fact) (waiting : Bool) (sync : Option Running) → SyncHolds l q fact waiting sync → SyncHolds m q fact waiting sync
  sync_keeps q fact waiting None old = tt
  sync_keeps q fact waiting (Some r) old = record { may = may_sync_keeps fact waiting r.fact old.may; asks = old.asks }

  saved_keeps : (q : ℕ) (fact : Fact) → (p ≡ q → ⊥) → IsSaved l q fact → IsSaved m q fact
  saved_keeps q fact other old = record { known = known_keeps fact old.known; ballot = k.ballot q other ∙ old.ballot; place = k.fact q other ∙ old.place }

  pub node_keeps : (q : ℕ) (node : Node) → (p ≡ q → ⊥) → NodeHolds l q node → NodeHolds m q node
  node_keeps q (Up x stores) other old = record {
    saved = saved_keeps q x.fact other old.saved;
    kept = old.kept;
    phase = phase_keeps q x.fact x.phase other old.saved.known.ballot old.phase;
    sync = sync_keeps q x.fact (may_wait x.phase) x.sync old.sync;
  }
  node_keeps q (Down stores) other old = record { fact = old.fact; kept = old.kept; saved = saved_keeps q old.fact other old.saved }
