-- What each step preserves of calls, writes, reads and answers.
use Rattle.std.proofs.Common.{◌≡◌, ℕ, ◌<◌, ◌≤◌, Bool, true, false, ◌⊎◌, List, Option, None, Some, arith, ap, refl, inl, inr, sym, ◌∙◌, subst, le_trans}
use Rattle.std.proofs.lemmas.Bool.{cases_eq}
use Rattle.ens_base.specs.declared.epoch.Version.{Version}
use Rattle.register_model.specs.declared.register.Register.{Register}
use Rattle.register_model.specs.declared.call.Call.{Call}
use Rattle.register_model.specs.Registers.{outcome, Writes}
use Rattle.quorums.proofs.Majorities.{quorum_more}
use Rattle.protocol_laws.proofs.Epochs.{not_both}
use Rattle.protocol_laws.proofs.Maps.{zero_not, put_other, put_here}
use Rattle.protocol_laws.proofs.Basics.{Basics, Settled, proposed_then, new_parent}
use Rattle.protocol_laws.proofs.Descent.{Whole, IsOld, heard_has, old_parent}
use Rattle.protocol_laws.specs.Stays.{Later}
use Rattle.protocol_laws.specs.Ledger.{put}
use Rattle.protocol_laws.specs.Objects.{Objects, epoch_of, IsNewest, MayPropose}
use Rattle.protocol_laws.specs.Book.{Seen, register_at, stood_below, Wrote, IsOpenCall, MayNoteProposal, MayWriteFor, MayRewrite, MayNoteRead, IsAbsentHere}
use Rattle.protocol_laws.specs.Versions.{IsDead}
use Rattle.protocol_laws.specs.Entries.{EntriesAreSafe, CallKeeps, WriteKeeps, RewriteKeeps, ProposalKeeps, SettledKeeps, CallsAreOnce, SawNothing, SawNewest, ReadKeeps}
use Rattle.protocol_laws.specs.Protocol.{State, Step, Begin, Ask, Raise, Elect, Accept, Commit, Adopt, Write, Acknowledge, Install, EndSync, Propose, Settle, Note, Answer, Lose, Revert, happens, MayCome}

-- ## Calls

pub call_later : (s t : State) → Later s t → (i : ℕ) → s.book.called i ≡ true → CallKeeps s i → CallKeeps t i
call_later s t l i h k = record {
  own_id = ap (λ (c : Call). c.id) (l.stay.asked i h) ∙ k.own_id;
  event = rw (l.stay.asked i h) (le_trans k.event l.stay.now);
  stood = λ q. rw (l.stay.stood i q h) (le_trans (k.stood q) (l.stay.versions.ledger.ballot q));
}

-- ## Elections

pub elected_later : (s t : State) → Later s t → ((d : ℕ) → s.objects.ledger.elected d ≡ true → s.book.elected_at d ≤ s.book.now) → (d : ℕ) → s.objects.ledger.elected d ≡ true → t.book.elected_at d ≤ t.book.now
elected_later s t l k d e = rw (l.stay.elected_at d e) (le_trans (k d e) l.stay.now)

-- ## Proposals

write_later : (s t : State) → Later s t → Basics s.objects → (v : ℕ) → s.objects.proposed v ≡ true → (i : ℕ) → WriteKeeps s v i → WriteKeeps t v i
write_later s t l basics v p i k = record {
  called = l.stay.called i k.called;
  on_key = ap (λ (c : Call). c.key) (l.stay.asked i k.called) ∙ k.on_key ∙ sym (l.stay.versions.key v p);
  after = rw (l.stay.asked i k.called, l.stay.proposed_at v p) k.after;
  own_stamp = l.stay.stamp v p ∙ k.own_stamp;
  applies = rw (l.stay.asked i k.called, l.stay.versions.parent v p, l.stay.register (s.objects.parent v) (old_parent s.objects basics v (inr p)), l.stay.content v p) k.applies;
}

zero_lower : (n : ℕ) → n ≡ 0 → 0 < n → ⊥
zero_lower n e h = omega arith

rewrite_later : (s t : State) → Later s t → Basics s.objects → (v : ℕ) → s.objects.proposed v ≡ true → RewriteKeeps s v → RewriteKeeps t v
rewrite_later s t l basics v p k = by_parent (basics.parents v p)
  where
    by_parent : (s.objects.parent v ≡ 0) ⊎ (s.objects.proposed (s.objects.parent v) ≡ true) → RewriteKeeps t v
    by_parent (inl z) = absurd (zero_lower (s.objects.parent v) z k.some)
    by_parent (inr q) = record {
      some = rw (l.stay.versions.parent v p) k.some;
      same_stamp = rw (l.stay.versions.parent v p, l.stay.stamp v p, l.stay.stamp (s.objects.parent v) q) k.same_stamp;
      same_content = rw (l.stay.versions.parent v p, l.stay.content v p, l.stay.content (s.objects.parent v) q) k.same_content;
    }

zero_not_proposed : (o : Objects) → Basics o → (v : ℕ) → v ≡ 0 → o.proposed v ≡ true → ⊥
zero_not_proposed o basics v z p = zero_not v (basics.led v p) z

proposal_later : (s t : State) → Later s t → Basics s.objects → Basics t.objects → (v : ℕ) → s.objects.proposed v ≡ true → ProposalKeeps s v → ProposalKeeps t v
proposal_later s t l basics next v p k = record {
  elected = rw (l.stay.elected_at (epoch_of v) (basics.elected v p), l.stay.proposed_at v p) k.elected;
  now = rw (l.stay.proposed_at v p) (le_trans k.now l.stay.now);
  after_parent = by_parent (basics.parents v p);
  write = λ i c. write_later s t l basics v p i (k.write i (sym (l.stay.call v p) ∙ c));
  rewrite = λ c. rewrite_later s t l basics v p (k.rewrite (sym (l.stay.call v p) ∙ c));
}
  where
    by_parent : (s.objects.parent v ≡ 0) ⊎ (s.objects.proposed (s.objects.parent v) ≡ true) → t.objects.proposed (t.objects.parent v) ≡ true → t.book.proposed_at (t.objects.parent v) ≤ t.book.proposed_at v
    by_parent (inr q) h = rw (l.stay.versions.parent v p, l.stay.proposed_at v p, l.stay.proposed_at (s.objects.parent v) q) (k.after_parent q)
    by_parent (inl z) h = absurd (zero_not_proposed t.objects next (t.objects.parent v) (l.stay.versions.parent v p ∙ z) h)

module _ (s : State) (x : ℕ) (k : List ℕ) (u : ℕ) (y : Version) (z : Option (List ℕ)) (may : MayPropose s.objects x k u) (basics : Basics s.objects) (entries : EntriesAreSafe s) where
  at_now : (v : ℕ) → put s.objects.proposed x true v ≡ true → put s.book.proposed_at x s.book.now v ≤ s.book.now
  at_now = proposed_then s.objects.proposed x (λ v. put s.book.proposed_at x s.book.now v ≤ s.book.now) (rw (put_here s.book.proposed_at x s.book.now) (omega arith)) (λ v n p. rw (put_other s.book.proposed_at x s.book.now v n) (entries.proposals v p).now)

  old_parent_of : IsOld s.objects u
  old_parent_of = by_new (new_parent s.objects x k u may.from)
    where
      by_new : (u ≡ 0) ⊎ ((s.objects.proposed u ≡ true) × (s.objects.key u ≡ k)) → IsOld s.objects u
      by_new (inl e) = inl e
      by_new (inr e) = inr e.0

  new_write : (j : ℕ) → Later s (happens s (Propose x k u y z (Some j))) → MayWriteFor s.objects s.book x k u y z j → WriteKeeps (happens s (Propose x k u y z (Some j))) x j
  new_write j l noting = record {
    called = noting.waiting.called;
    on_key = noting.on_key ∙ sym (put_here s.objects.key x k);
    after = rw (put_here s.book.proposed_at x s.book.now) (entries.calls j noting.waiting.called).event;
    own_stamp = put_here s.book.stamp x y ∙ noting.own_stamp;
    applies = ap (λ p. outcome (s.book.asked j).command (register_at (happens s (Propose x k u y z (Some j))).book p)) (put_here s.objects.parent x u)
        ∙ ap (λ (r : Register). outcome (s.book.asked j).command r) (l.stay.register u old_parent_of) ∙ noting.applies ∙ ap (λ (c : Option (List ℕ)). Writes c) (sym (put_here s.book.content x z));
  }

  new_rewrite : Later s (happens s (Propose x k u y z None)) → MayRewrite s.book u y z → RewriteKeeps (happens s (Propose x k u y z None)) x
  new_rewrite l noting = record {
    some = rw (put_here s.objects.parent x u) noting.some;
    same_stamp = put_here s.book.stamp x y ∙ noting.same_stamp ∙ sym (put_other s.book.stamp x y u not_u) ∙ ap (put s.book.stamp x y) (sym (put_here s.objects.parent x u));
    same_content = put_here s.book.content x z ∙ noting.same_content ∙ sym (put_other s.book.content x z u not_u) ∙ ap (put s.book.content x z) (sym (put_here s.objects.parent x u));
  }
    where
      not_u : x ≡ u → ⊥
      not_u e = omega (arith, may.lower)

  new_proposal : (c : Option ℕ) → Later s (happens s (Propose x k u y z c)) → MayNoteProposal s.objects s.book x k u y z c → ProposalKeeps (happens s (Propose x k u y z c)) x
  new_proposal None l noting = record {
    elected = rw (put_here s.book.proposed_at x s.book.now) (entries.elected (epoch_of x) may.elected);
    now = rw (put_here s.book.proposed_at x s.book.now) (omega arith);
    after_parent = λ h. rw (put_here s.book.proposed_at x s.book.now) (at_now (put s.objects.parent x u x) h);
    write = λ i e. absurd (none_some (put s.book.call x None x) i (put_here s.book.call x None) e);
    rewrite = λ e. new_rewrite l noting;
  }
    where
      none_some : (c : Option ℕ) (i : ℕ) → c ≡ None → c ≡ Some i → ⊥
      none_some c i e f = cc
  new_proposal (Some j) l noting = record {
    elected = rw (put_here s.book.proposed_at x s.book.now) (entries.elected (epoch_of x) may.elected);
    now = rw (put_here s.book.proposed_at x s.book.now) (omega arith);
    after_parent = λ h. rw (put_here s.book.proposed_at x s.book.now) (at_now (put s.objects.parent x u x) h);
    write = λ i e. subst (λ n. WriteKeeps (happens s (Propose x k u y z (Some j))) x n) (some_eq i (sym (put_here s.book.call x (Some j)) ∙ e)) (new_write j l noting);
    rewrite = λ e. absurd (some_none (sym (put_here s.book.call x (Some j)) ∙ e));
  }
    where
      some_eq : (i : ℕ) → Some j ≡ Some i → j ≡ i
      some_eq i e = cc

      some_none : Some j ≡ None → ⊥
      some_none e = cc

pub proposals_step : (s : State) (e : Step) → MayCome s e → Later s (happens s e) → Basics s.objects → Basics (happens s e).objects → EntriesAreSafe s → (v : ℕ) → (happens s e).objects.proposed v ≡ true → ProposalKeeps (happens s e) v
proposals_step s (Propose x k u y z c) may l basics next entries v p = proposed_then s.objects.proposed x (ProposalKeeps (happens s (Propose x k u y z c))) (new_proposal s x k u y z may.0 basics entries c l may.1)
    (λ v n p. proposal_later s (happens s (Propose x k u y z c)) l basics next v p (entries.proposals v p)) v p
proposals_step s Begin may l basics next entries v p = proposal_later s (happens s Begin) l basics next v p (entries.proposals v p)
proposals_step s (Ask c) may l basics next entries v p = proposal_later s (happens s (Ask c)) l basics next v p (entries.proposals v p)
proposals_step s (Raise q d) may l basics next entries v p = proposal_later s (happens s (Raise q d)) l basics next v p (entries.proposals v p)
proposals_step s (Elect d b) may l basics next entries v p = proposal_later s (happens s (Elect d b)) l basics next v p (entries.proposals v p)
proposals_step s (Accept q d) may l basics next entries v p = proposal_later s (happens s (Accept q d)) l basics next v p (entries.proposals v p)
proposals_step s (Commit d c) may l basics next entries v p = proposal_later s (happens s (Commit d c)) l basics next v p (entries.proposals v p)
proposals_step s (Adopt q d) may l basics next entries v p = proposal_later s (happens s (Adopt q d)) l basics next v p (entries.proposals v p)
proposals_step s (Write q w) may l basics next entries v p = proposal_later s (happens s (Write q w)) l basics next v p (entries.proposals v p)
proposals_step s (Acknowledge q w) may l basics next entries v p = proposal_later s (happens s (Acknowledge q w)) l basics next v p (entries.proposals v p)
proposals_step s (Install q d m) may l basics next entries v p = proposal_later s (happens s (Install q d m)) l basics next v p (entries.proposals v p)
proposals_step s (EndSync q d) may l basics next entries v p = proposal_later s (happens s (EndSync q d)) l basics next v p (entries.proposals v p)
proposals_step s (Settle w) may l basics next entries v p = proposal_later s (happens s (Settle w)) l basics next v p (entries.proposals v p)
proposals_step s (Note i k u d) may l basics next entries v p = proposal_later s (happens s (Note i k u d)) l basics next v p (entries.proposals v p)
proposals_step s (Answer i r) may l basics next entries v p = proposal_later s (happens s (Answer i r)) l basics next v p (entries.proposals v p)
proposals_step s (Lose q) may l basics next entries v p = proposal_later s (happens s (Lose q)) l basics next v p (entries.proposals v p)
proposals_step s (Revert q m) may l basics next entries v p = proposal_later s (happens s (Revert q m)) l basics next v p (entries.proposals v p)

-- ## Settled versions

settled_later : (s t : State) → Later s t → Settled s.objects → (v : ℕ) → s.objects.settled v ≡ true → SettledKeeps s v → SettledKeeps t v
settled_later s t l settled v h k = record {
  after = rw (l.stay.proposed_at v (settled.proposed v h), l.stay.settled_at v h) k.after;
  now = rw (l.stay.settled_at v h) (le_trans k.now l.stay.now);
}

pub settled_step_keeps : (s : State) (e : Step) → MayCome s e → Later s (happens s e) → Settled s.objects → EntriesAreSafe s → (v : ℕ) → (happens s e).objects.settled v ≡ true → SettledKeeps (happens s e) v
settled_step_keeps s (Settle x) may l settled entries v h = proposed_then s.objects.settled x (SettledKeeps (happens s (Settle x))) here (λ v n h. settled_later s (happens s (Settle x)) l settled v h (entries.settled v h)) v h
  where
    here : SettledKeeps (happens s (Settle x)) x
    here = record { after = rw (put_here s.book.settled_at x s.book.now) (entries.proposals x may.0.proposed).now; now = rw (put_here s.book.settled_at x s.book.now) (omega arith) }
settled_step_keeps s (Propose x k u y z c) may l settled entries v h = settled_later s (happens s (Propose x k u y z c)) l settled v h (entries.settled v h)
settled_step_keeps s Begin may l settled entries v h = settled_later s (happens s Begin) l settled v h (entries.settled v h)
settled_step_keeps s (Ask c) may l settled entries v h = settled_later s (happens s (Ask c)) l settled v h (entries.settled v h)
settled_step_keeps s (Raise q d) may l settled entries v h = settled_later s (happens s (Raise q d)) l settled v h (entries.settled v h)
settled_step_keeps s (Elect d b) may l settled entries v h = settled_later s (happens s (Elect d b)) l settled v h (entries.settled v h)
settled_step_keeps s (Accept q d) may l settled entries v h = settled_later s (happens s (Accept q d)) l settled v h (entries.settled v h)
settled_step_keeps s (Commit d c) may l settled entries v h = settled_later s (happens s (Commit d c)) l settled v h (entries.settled v h)
settled_step_keeps s (Adopt q d) may l settled entries v h = settled_later s (happens s (Adopt q d)) l settled v h (entries.settled v h)
settled_step_keeps s (Write q w) may l settled entries v h = settled_later s (happens s (Write q w)) l settled v h (entries.settled v h)
settled_step_keeps s (Acknowledge q w) may l settled entries v h = settled_later s (happens s (Acknowledge q w)) l settled v h (entries.settled v h)
settled_step_keeps s (Install q d m) may l settled entries v h = settled_later s (happens s (Install q d m)) l settled v h (entries.settled v h)
settled_step_keeps s (EndSync q d) may l settled entries v h = settled_later s (happens s (EndSync q d)) l settled v h (entries.settled v h)
settled_step_keeps s (Note i k u d) may l settled entries v h = settled_later s (happens s (Note i k u d)) l settled v h (entries.settled v h)
settled_step_keeps s (Answer i r) may l settled entries v h = settled_later s (happens s (Answer i r)) l settled v h (entries.settled v h)
settled_step_keeps s (Lose q) may l settled entries v h = settled_later s (happens s (Lose q)) l settled v h (entries.settled v h)
settled_step_keeps s (Revert q m) may l settled entries v h = settled_later s (happens s (Revert q m)) l settled v h (entries.settled v h)

-- ## Each call once

module _ (s : State) (x : ℕ) (k : List ℕ) (u : ℕ) (y : Version) (z : Option (List ℕ)) (c : Option ℕ) (noting : MayNoteProposal s.objects s.book x k u y z c) (l : Later s (happens s (Propose x k u y z c))) (fresh : s.objects.proposed x ≡ false) (once : CallsAreOnce s) where
  old_write : (i v : ℕ) → (x ≡ v → ⊥) → Wrote (happens s (Propose x k u y z c)).objects (happens s (Propose x k u y z c)).book i v → Wrote s.objects s.book i v
  old_write i v n w = (sym (put_other s.objects.proposed x true v n) ∙ w.0, sym (put_other s.book.call x c v n) ∙ w.1)

  new_write_open : (i v : ℕ) → x ≡ v → Wrote (happens s (Propose x k u y z c)).objects (happens s (Propose x k u y z c)).book i v → IsOpenCall s.objects s.book i
  new_write_open i v e w = l.new_write v i w.0 (rw (← e) fresh) w.1

  propose_once : (v w i : ℕ) → Wrote (happens s (Propose x k u y z c)).objects (happens s (Propose x k u y z c)).book i v → Wrote (happens s (Propose x k u y z c)).objects (happens s (Propose x k u y z c)).book i w → v ≡ w
  propose_once v w i a b = by_cases (cases_eq x v) (cases_eq x w)
    where
      by_cases : (x ≡ v) ⊎ (x ≡ v → ⊥) → (x ≡ w) ⊎ (x ≡ w → ⊥) → v ≡ w
      by_cases (inl e) (inl f) = sym e ∙ f
      by_cases (inl e) (inr f) = absurd ((new_write_open i v e a).not_written w (old_write i w f b))
      by_cases (inr e) (inl f) = absurd ((new_write_open i w f b).not_written v (old_write i v e a))
      by_cases (inr e) (inr f) = once.once v w i (old_write i v e a) (old_write i w f b)

  propose_apart : (v i : ℕ) → Wrote (happens s (Propose x k u y z c)).objects (happens s (Propose x k u y z c)).book i v → s.book.noted i ≡ true → ⊥
  propose_apart v i a h = by_cases (cases_eq x v)
    where
      by_cases : (x ≡ v) ⊎ (x ≡ v → ⊥) → ⊥
      by_cases (inl e) = not_both h (new_write_open i v e a).not_noted
      by_cases (inr e) = once.apart v i (old_write i v e a) h

note_apart : (s : State) (j : ℕ) → IsOpenCall s.objects s.book j → CallsAreOnce s → (v i : ℕ) → Wrote s.objects s.book i v → put s.book.noted j true i ≡ true → ⊥
note_apart s j waiting once v i a h = proposed_then s.book.noted j (λ i. Wrote s.objects s.book i v → ⊥) (waiting.not_written v) (λ i n h a. once.apart v i a h) i h a

pub once_step : (s : State) (e : Step) → MayCome s e → Later s (happens s e) → CallsAreOnce s → CallsAreOnce (happens s e)
once_step s (Propose x k u y z c) may l once = record { once = propose_once s x k u y z c may.1 l may.0.fresh once; apart = propose_apart s x k u y z c may.1 l may.0.fresh once }
once_step s (Note i k u d) may l once = record { once = once.once; apart = note_apart s i may.1.waiting once }
once_step s Begin may l once = record { once = once.once; apart = once.apart }
once_step s (Ask c) may l once = record { once = once.once; apart = once.apart }
once_step s (Raise q d) may l once = record { once = once.once; apart = once.apart }
once_step s (Elect d b) may l once = record { once = once.once; apart = once.apart }
once_step s (Accept q d) may l once = record { once = once.once; apart = once.apart }
once_step s (Commit d c) may l once = record { once = once.once; apart = once.apart }
once_step s (Adopt q d) may l once = record { once = once.once; apart = once.apart }
once_step s (Write q w) may l once = record { once = once.once; apart = once.apart }
once_step s (Acknowledge q w) may l once = record { once = once.once; apart = once.apart }
once_step s (Install q d m) may l once = record { once = once.once; apart = once.apart }
once_step s (EndSync q d) may l once = record { once = once.once; apart = once.apart }
once_step s (Settle w) may l once = record { once = once.once; apart = once.apart }
once_step s (Answer i r) may l once = record { once = once.once; apart = once.apart }
once_step s (Lose q) may l once = record { once = once.once; apart = once.apart }
once_step s (Revert q m) may l once = record { once = once.once; apart = once.apart }

-- ## Reads

nothing_later : (s t : State) → Later s t → Basics s.objects → (n : Seen) → n.event ≤ s.book.now → s.objects.ledger.elected n.epoch ≡ true → SawNothing s n → SawNothing t n
nothing_later s t l basics n past elected k = record {
  none = k.none;
  untouched = λ v p key e. untouched v p key e (s.objects.proposed v) refl;
  dead = λ v p key e. dead v p key e (s.objects.proposed v) refl;
}
  where
    untouched : (v : ℕ) → t.objects.proposed v ≡ true → t.objects.key v ≡ n.key → epoch_of v ≡ n.epoch → (b : Bool) → s.objects.proposed v ≡ b → n.event ≤ t.book.proposed_at v
    untouched v p key e true q = rw (l.stay.proposed_at v q) (k.untouched v q (sym (l.stay.versions.key v q) ∙ key) e)
    untouched v p key e false q = le_trans past (l.new_version v p q)

    dead : (v : ℕ) → t.objects.proposed v ≡ true → t.objects.key v ≡ n.key → epoch_of v < n.epoch → (b : Bool) → s.objects.proposed v ≡ b → IsDead t.objects v
    dead v p key e true q = l.stay.versions.dead v (basics.elected v q) (k.dead v q (sym (l.stay.versions.key v q) ∙ key) e)
    dead v p key e false q = l.new_dead v n.epoch p q elected e

newest_later : (s t : State) → Later s t → (n : Seen) → n.event ≤ s.book.now → SawNewest s n → SawNewest t n
newest_later s t l n past k = record {
  proposed = l.stay.versions.proposed n.base k.proposed;
  key = l.stay.versions.key n.base k.proposed ∙ k.key;
  epoch = k.epoch;
  settled = l.stay.versions.settled n.base k.settled;
  before = rw (l.stay.settled_at n.base k.settled) k.before;
  greatest = λ v p key e a. greatest v p key e a (s.objects.proposed v) refl;
}
  where
    too_late : (v : ℕ) → s.book.now ≤ t.book.proposed_at v → t.book.proposed_at v < n.event → ⊥
    too_late v a b = omega arith

    greatest : (v : ℕ) → t.objects.proposed v ≡ true → t.objects.key v ≡ n.key → epoch_of v ≡ n.epoch → t.book.proposed_at v < n.event → (b : Bool) → s.objects.proposed v ≡ b → v ≤ n.base
    greatest v p key e a true q = k.greatest v q (sym (l.stay.versions.key v q) ∙ key) e (rw (← l.stay.proposed_at v q) a)
    greatest v p key e a false q = absurd (too_late v (l.new_version v p q) a)

pub base_old : (s : State) (n : Seen) → SawNothing s n ⊎ SawNewest s n → IsOld s.objects n.base
base_old s n (inl k) = inl k.none
base_old s n (inr k) = inr k.proposed

base_later : (s t : State) → Later s t → Basics s.objects → (n : Seen) → n.event ≤ s.book.now → s.objects.ledger.elected n.epoch ≡ true → SawNothing s n ⊎ SawNewest s n → SawNothing t n ⊎ SawNewest t n
base_later s t l basics n past e (inl k) = inl (nothing_later s t l basics n past e k)
base_later s t l basics n past e (inr k) = inr (newest_later s t l n past k)

same_below : (s t : State) (i d q : ℕ) → t.book.stood i q ≡ s.book.stood i q → stood_below s.book i d q ≡ true → stood_below t.book i d q ≡ true
same_below s t i d q e h = rw e h

read_later : (s t : State) → Later s t → Basics s.objects → (i : ℕ) (n : Seen) → ReadKeeps s i n → ReadKeeps t i n
read_later s t l basics i n k = record {
  called = l.stay.called i k.called;
  on_key = ap (λ (c : Call). c.key) (l.stay.asked i k.called) ∙ k.on_key;
  after = rw (l.stay.asked i k.called) k.after;
  now = le_trans k.now l.stay.now;
  elected = l.stay.versions.ledger.elected n.epoch k.elected;
  before = rw (l.stay.elected_at n.epoch k.elected, l.stay.asked i k.called) k.before;
  established = l.stay.versions.ledger.established n.epoch k.elected k.established;
  quorum = rw (l.stay.versions.ledger.views n.epoch k.elected) (quorum_more (stood_below s.book i n.epoch) (stood_below t.book i n.epoch) (λ q. same_below s t i n.epoch q (l.stay.stood i q k.called)) (s.objects.ledger.views n.epoch) k.quorum);
  base = base_later s t l basics n k.now k.elected k.base;
  reply = k.reply;
  keeps = ap (λ (c : Call). outcome c.command (register_at t.book n.base)) (l.stay.asked i k.called) ∙ ap (λ (r : Register). outcome (s.book.asked i).command r) (l.stay.register n.base (base_old s n k.base)) ∙ k.keeps;
}

read_kept : (s t : State) → Later s t → Basics s.objects → EntriesAreSafe s → (i : ℕ) → s.book.noted i ≡ true → ReadKeeps t i (t.book.seen i)
read_kept s t l basics entries i h = subst (λ (n : Seen). ReadKeeps t i n) (sym (l.stay.seen i h)) (read_later s t l basics i (s.book.seen i) (entries.reads i h))

new_read : (s : State) (i : ℕ) (k : List ℕ) (u d : ℕ) → MayNoteRead s.objects s.book i k u d → Whole s.objects → EntriesAreSafe s → ReadKeeps (happens s (Note i k u d)) i (record { key = k; base = u; epoch = d; event = s.book.now })
new_read s i k u d may w entries = record {
  called = may.waiting.called;
  on_key = may.on_key;
  after = (entries.calls i may.waiting.called).event;
  now = omega arith;
  elected = may.elected;
  before = may.before;
  established = may.established;
  quorum = may.quorum;
  base = by_base may.base;
  reply = may.reply;
  keeps = may.keeps;
}
  where
    below_none : (v : ℕ) → s.objects.proposed v ≡ true → (v ≤ 0) ⊎ IsDead s.objects v → IsDead s.objects v
    below_none v p (inl h) = absurd (zero_not_proposed s.objects w.basics v (omega arith) p)
    below_none v p (inr h) = h

    by_base : IsAbsentHere s.objects d k u ⊎ IsNewest s.objects d k u → SawNothing (happens s (Note i k u d)) (record { key = k; base = u; epoch = d; event = s.book.now }) ⊎ SawNewest (happens s (Note i k u d)) (record { key = k; base = u; epoch = d; event = s.book.now })
    by_base (inl a) = inl (record {
      none = a.none;
      untouched = λ v p key e. absurd (a.untouched v p key e);
      dead = λ v p key e. below_none v p (heard_has s.objects d k 0 (rw a.none at a.heard) may.elected w.sound w.basics w.since v p key e);
    })
    by_base (inr n) = inr (record {
      proposed = n.proposed;
      key = n.key;
      epoch = n.epoch;
      settled = n.settled;
      before = (entries.settled u n.settled).now;
      greatest = λ v p key e a. n.greatest v p key e;
    })

pub reads_step : (s : State) (e : Step) → MayCome s e → Later s (happens s e) → Whole s.objects → EntriesAreSafe s → (i : ℕ) → (happens s e).book.noted i ≡ true → ReadKeeps (happens s e) i ((happens s e).book.seen i)
reads_step s (Note j k u d) may l w entries i h = proposed_then s.book.noted j (λ i. ReadKeeps (happens s (Note j k u d)) i (put s.book.seen j n i)) here (λ i m h. read_kept s (happens s (Note j k u d)) l w.basics entries i h) i h
  where
    n : Seen
    n = record { key = k; base = u; epoch = d; event = s.book.now }

    here : ReadKeeps (happens s (Note j k u d)) j (put s.book.seen j n j)
    here = subst (λ (m : Seen). ReadKeeps (happens s (Note j k u d)) j m) (sym (put_here s.book.seen j n)) (new_read s j k u d may.1 w entries)
reads_step s (Propose x k u y z c) may l w entries i h = read_kept s (happens s (Propose x k u y z c)) l w.basics entries i h
reads_step s Begin may l w entries i h = read_kept s (happens s Begin) l w.basics entries i h
reads_step s (Ask c) may l w entries i h = read_kept s (happens s (Ask c)) l w.basics entries i h
reads_step s (Raise q d) may l w entries i h = read_kept s (happens s (Raise q d)) l w.basics entries i h
reads_step s (Elect d b) may l w entries i h = read_kept s (happens s (Elect d b)) l w.basics entries i h
reads_step s (Accept q d) may l w entries i h = read_kept s (happens s (Accept q d)) l w.basics entries i h
reads_step s (Commit d c) may l w entries i h = read_kept s (happens s (Commit d c)) l w.basics entries i h
reads_step s (Adopt q d) may l w entries i h = read_kept s (happens s (Adopt q d)) l w.basics entries i h
reads_step s (Write q v) may l w entries i h = read_kept s (happens s (Write q v)) l w.basics entries i h
reads_step s (Acknowledge q v) may l w entries i h = read_kept s (happens s (Acknowledge q v)) l w.basics entries i h
reads_step s (Install q d m) may l w entries i h = read_kept s (happens s (Install q d m)) l w.basics entries i h
reads_step s (EndSync q d) may l w entries i h = read_kept s (happens s (EndSync q d)) l w.basics entries i h
reads_step s (Settle v) may l w entries i h = read_kept s (happens s (Settle v)) l w.basics entries i h
reads_step s (Answer j r) may l w entries i h = read_kept s (happens s (Answer j r)) l w.basics entries i h
reads_step s (Lose q) may l w entries i h = read_kept s (happens s (Lose q)) l w.basics entries i h
reads_step s (Revert q m) may l w entries i h = read_kept s (happens s (Revert q m)) l w.basics entries i h
