-- What a leader's table says stays so through the steps of others and of other keys.
use Rattle.std.proofs.Common.{◌++◌, ◌≡◌, ℕ, ◌<◌, ◌≤◌, Bool, true, false, ◌⊎◌, List, ◌∷◌, Option, Some, arith, ap, refl, inl, inr, sym, ◌∙◌, le_trans, subst, []}
use Rattle.protocol_laws.specs.Stays.{EntriesStay}
use Rattle.std.proofs.lemmas.Bool.Decides.{nat_tests}
use Rattle.ens_base.specs.Lists.{◌∈◌}
use Rattle.register_model.specs.declared.register.Register.{Register}
use Rattle.register_model.specs.declared.call.Call.{Call}
use Rattle.register_model.specs.Registers.{outcome}
use Rattle.quorums.proofs.Majorities.{quorum_more}
use Rattle.protocol_laws.proofs.Stays.{genuine_stays}
use Rattle.protocol_laws.proofs.Maps.{put_other}
use Rattle.protocol_laws.specs.Ledger.{put}
use Rattle.protocol_laws.specs.Objects.{epoch_of, IsGenuine, IsUntouched, IsNewest, IsHeard}
use Rattle.ens_base.specs.declared.reply.Reply.{Reply}
use Rattle.protocol_laws.specs.Book.{Seen, IsWriteReply, IsReadReply, register_at, stood_below, Wrote}
use Rattle.protocol_laws.specs.Protocol.{State, Step, Begin, Ask, Raise, Elect, Accept, Commit, Adopt, Write, Acknowledge, Install, EndSync, Propose, Settle, Note, Answer, Lose, Revert, happens}
use Rattle.role_laws.specs.Tables.{Owed, Seat, calls_owed, owe, Object, Known, Unknown, Nothing, Held, Stage, Idle, Begun, Reading, Sure, Checking, Writing, Rewriting, KeyRow, Ghosts, base_of, has_put, with_running, calls_of}
use Rattle.role_laws.specs.Leaders.{OwedHolds, OwesHold, IsUnwritten, IsObjectOf, KnownHolds, IsFresh, PutHolds, StageHolds, CallHolds, RowHolds}
use Rattle.role_laws.specs.Moves.{CallSpared, SparesCall, RowSpared, SparesRow, GhostsGrow}

-- ## One step

-- the key and the epoch see no version, and the calls nothing
pub record Same (s t : State) : Type 0 where
  pub proposed : t.objects.proposed ≡ s.objects.proposed
  pub settled : t.objects.settled ≡ s.objects.settled
  pub answered : t.book.answered ≡ s.book.answered
  pub noted : t.book.noted ≡ s.book.noted
  pub call : t.book.call ≡ s.book.call

spared_same : (s t : State) (d : ℕ) (k calls : List ℕ) → Same s t → RowSpared s t d k calls
spared_same s t d k calls same = record {
  untouched = λ x p key e. sym (ap (λ (f : ℕ → Bool). f x) same.proposed) ∙ p;
  unsettled = λ x p key e h. ap (λ (f : ℕ → Bool). f x) same.settled ∙ h;
  unanswered = λ i m h. ap (λ (f : ℕ → Bool). f i) same.answered ∙ h;
  unnoted = λ i m h. ap (λ (f : ℕ → Bool). f i) same.noted ∙ h;
  unwritten = λ i v m h. (sym (ap (λ (f : ℕ → Bool). f v) same.proposed) ∙ h.0, sym (ap (λ (f : ℕ → Option ℕ). f v) same.call) ∙ h.1);
}

pub spared_step : (s : State) (e : Step) (d : ℕ) (k calls : List ℕ) → SparesRow s d k calls e → RowSpared s (happens s e) d k calls
spared_step s (Propose v j u x y c) d k calls spares = record {
  untouched = λ z p key e. untouched z p key e;
  unsettled = λ z p key e h. h;
  unanswered = λ i m h. h;
  unnoted = λ i m h. h;
  unwritten = λ i z m h. unwritten i z m h.0 h.1;
}
  where
    untouched : (z : ℕ) → put s.objects.proposed v true z ≡ true → put s.objects.key v j z ≡ k → epoch_of z ≡ d → s.objects.proposed z ≡ true
    untouched z p key e = grind (arith, nat_tests, spares.0)

    unwritten : (i z : ℕ) → i ∈ calls → put s.objects.proposed v true z ≡ true → put s.book.call v c z ≡ Some i → Wrote s.objects s.book i z
    unwritten i z m p h = let n = spares.1 i m in (grind (arith, nat_tests, n), grind (arith, nat_tests, n))
spared_step s (Settle v) d k calls spares = record {
  untouched = λ x p key e. p;
  unsettled = λ x p key e h. unsettled x p key e h;
  unanswered = λ i m h. h;
  unnoted = λ i m h. h;
  unwritten = λ i x m h. h;
}
  where
    unsettled : (x : ℕ) → s.objects.proposed x ≡ true → s.objects.key x ≡ k → epoch_of x ≡ d → s.objects.settled x ≡ false → put s.objects.settled v true x ≡ false
    unsettled x p key e h = grind (arith, nat_tests, spares)
spared_step s (Note j b u f) d k calls spares = record {
  untouched = λ x p key e. p;
  unsettled = λ x p key e h. h;
  unanswered = λ i m h. h;
  unnoted = λ i m h. unnoted i m h;
  unwritten = λ i x m h. h;
}
  where
    unnoted : (i : ℕ) → i ∈ calls → s.book.noted i ≡ false → put s.book.noted j true i ≡ false
    unnoted i m h = put_other s.book.noted j true i (λ e. spares (rw e m)) ∙ h
spared_step s (Answer j r) d k calls spares = record {
  untouched = λ x p key e. p;
  unsettled = λ x p key e h. h;
  unanswered = λ i m h. unanswered i m h;
  unnoted = λ i m h. h;
  unwritten = λ i x m h. h;
}
  where
    unanswered : (i : ℕ) → i ∈ calls → s.book.answered i ≡ false → put s.book.answered j true i ≡ false
    unanswered i m h = put_other s.book.answered j true i (λ e. spares (rw e m)) ∙ h
spared_step s Begin d k calls spares = spared_same s (happens s Begin) d k calls (record { proposed = refl; settled = refl; answered = refl; noted = refl; call = refl })
spared_step s (Ask c) d k calls spares = spared_same s (happens s (Ask c)) d k calls (record { proposed = refl; settled = refl; answered = refl; noted = refl; call = refl })
spared_step s (Raise p e) d k calls spares = spared_same s (happens s (Raise p e)) d k calls (record { proposed = refl; settled = refl; answered = refl; noted = refl; call = refl })
spared_step s (Elect e b) d k calls spares = spared_same s (happens s (Elect e b)) d k calls (record { proposed = refl; settled = refl; answered = refl; noted = refl; call = refl })
spared_step s (Accept p e) d k calls spares = spared_same s (happens s (Accept p e)) d k calls (record { proposed = refl; settled = refl; answered = refl; noted = refl; call = refl })
spared_step s (Commit e c) d k calls spares = spared_same s (happens s (Commit e c)) d k calls (record { proposed = refl; settled = refl; answered = refl; noted = refl; call = refl })
spared_step s (Adopt p e) d k calls spares = spared_same s (happens s (Adopt p e)) d k calls (record { proposed = refl; settled = refl; answered = refl; noted = refl; call = refl })
spared_step s (Write p v) d k calls spares = spared_same s (happens s (Write p v)) d k calls (record { proposed = refl; settled = refl; answered = refl; noted = refl; call = refl })
spared_step s (Acknowledge p v) d k calls spares = spared_same s (happens s (Acknowledge p v)) d k calls (record { proposed = refl; settled = refl; answered = refl; noted = refl; call = refl })
spared_step s (Install p e m) d k calls spares = spared_same s (happens s (Install p e m)) d k calls (record { proposed = refl; settled = refl; answered = refl; noted = refl; call = refl })
spared_step s (EndSync p e) d k calls spares = spared_same s (happens s (EndSync p e)) d k calls (record { proposed = refl; settled = refl; answered = refl; noted = refl; call = refl })
spared_step s (Lose p) d k calls spares = spared_same s (happens s (Lose p)) d k calls (record { proposed = refl; settled = refl; answered = refl; noted = refl; call = refl })
spared_step s (Revert p m) d k calls spares = spared_same s (happens s (Revert p m)) d k calls (record { proposed = refl; settled = refl; answered = refl; noted = refl; call = refl })

-- ## Answers that are owed

pub call_spared_step : (s : State) (e : Step) (i : ℕ) → SparesCall i e → CallSpared s (happens s e) i
call_spared_step s (Propose v j u x y c) i spares = record { unanswered = λ h. h; unnoted = λ h. h; unwritten = λ z h. unwritten z h.0 h.1 }
  where
    unwritten : (z : ℕ) → put s.objects.proposed v true z ≡ true → put s.book.call v c z ≡ Some i → Wrote s.objects s.book i z
    unwritten z p h = (grind (arith, nat_tests, spares), grind (arith, nat_tests, spares))
call_spared_step s (Note j b u f) i spares = record { unanswered = λ h. h; unnoted = λ h. put_other s.book.noted j true i spares ∙ h; unwritten = λ z h. h }
call_spared_step s (Answer j r) i spares = record { unanswered = λ h. put_other s.book.answered j true i spares ∙ h; unnoted = λ h. h; unwritten = λ z h. h }
call_spared_step s e i spares = record { unanswered = λ h. h; unnoted = λ h. h; unwritten = λ z h. h }

pub call_spared_none : (s : State) (i : ℕ) → CallSpared s s i
call_spared_none s i = record { unanswered = λ h. h; unnoted = λ h. h; unwritten = λ z h. h }

done_stays : (s t : State) (i : ℕ) (r : Reply) → EntriesStay s t → s.book.called i ≡ true → IsWriteReply s.objects s.book i r ⊎ (IsReadReply s.book i r × (((s.book.seen i).base ≡ 0) ⊎ (s.objects.proposed (s.book.seen i).base ≡ true)))
    → IsWriteReply t.objects t.book i r ⊎ (IsReadReply t.book i r × (((t.book.seen i).base ≡ 0) ⊎ (t.objects.proposed (t.book.seen i).base ≡ true)))
done_stays s t i r stay called (inl a) = inl (record { version = a.version; wrote = (stay.versions.proposed a.version a.wrote.0, stay.call a.version a.wrote.0 ∙ a.wrote.1); settled = stay.versions.settled a.version a.settled; reply = a.reply })
done_stays s t i r stay called (inr a) = inr (
  record {
    noted = stay.noted i a.0.noted;
    keeps = ap (λ (c : Call). outcome c.command (register_at t.book (t.book.seen i).base)) (stay.asked i called) ∙ ap (λ (n : Seen). outcome (s.book.asked i).command (register_at t.book n.base)) (stay.seen i a.0.noted) ∙ ap (λ (x : Register). outcome (s.book.asked i).command x) (stay.register (s.book.seen i).base a.1) ∙ a.0.keeps;
  },
  subst (λ (n : Seen). (n.base ≡ 0) ⊎ (t.objects.proposed n.base ≡ true)) (sym (stay.seen i a.0.noted)) (old a.1),
)
  where
    old : ((s.book.seen i).base ≡ 0) ⊎ (s.objects.proposed (s.book.seen i).base ≡ true) → ((s.book.seen i).base ≡ 0) ⊎ (t.objects.proposed (s.book.seen i).base ≡ true)
    old (inl z) = inl z
    old (inr p) = inr (stay.versions.proposed (s.book.seen i).base p)

pub owed_stays : (g h : Ghosts) (s t : State) (p i : ℕ) (r : Reply) → EntriesStay s t → GhostsGrow s g h → CallSpared s t i → OwedHolds g s p i r → OwedHolds h t p i r
owed_stays g h s t p i r stay ghosts spared a = record {
  called = stay.called i a.called;
  home = ghosts.home i a.called ∙ a.home;
  unanswered = spared.unanswered a.unanswered;
  done = λ e. done_stays s t i r stay a.called (a.done e);
  unwritten = λ e v b. a.unwritten e v (spared.unwritten v b);
  unnoted = λ e. spared.unnoted (a.unnoted e);
}

pub owes_stay : (g h : Ghosts) (s t : State) (p : ℕ) (o : List Owed) → EntriesStay s t → GhostsGrow s g h → ((i : ℕ) → i ∈ calls_owed o → CallSpared s t i) → OwesHold g s p o → OwesHold h t p o
owes_stay g h s t p [] stay ghosts spared a = tt
owes_stay g h s t p (x ∷ o) stay ghosts spared a = (owed_stays g h s t p x.call x.reply stay ghosts (spared x.call (inl refl)) a.0, (a.1.0, owes_stay g h s t p o stay ghosts (λ i m. spared i (inr m)) a.1.1))

-- who is owed an answer was called here, and is not answered
pub owed_home : (g : Ghosts) (s : State) (p : ℕ) (o : List Owed) (i : ℕ) → OwesHold g s p o → i ∈ calls_owed o → g.home i ≡ p
owed_home g s p [] i a m = absurd m
owed_home g s p (x ∷ o) i a (inl e) = rw e a.0.home
owed_home g s p (x ∷ o) i a (inr m) = owed_home g s p o i a.1.1 m

pub owed_called : (g : Ghosts) (s : State) (p : ℕ) (o : List Owed) (i : ℕ) → OwesHold g s p o → i ∈ calls_owed o → s.book.called i ≡ true
owed_called g s p [] i a m = absurd m
owed_called g s p (x ∷ o) i a (inl e) = rw e a.0.called
owed_called g s p (x ∷ o) i a (inr m) = owed_called g s p o i a.1.1 m

in_both : (o more : List Owed) (i : ℕ) → i ∈ calls_owed (o ++ more) → (i ∈ calls_owed o) ⊎ (i ∈ calls_owed more)
in_both [] more i m = inr m
in_both (x ∷ o) more i (inl e) = inl (inl e)
in_both (x ∷ o) more i (inr m) = later (in_both o more i m)
  where
    later : (i ∈ calls_owed o) ⊎ (i ∈ calls_owed more) → (i ∈ calls_owed (x ∷ o)) ⊎ (i ∈ calls_owed more)
    later (inl n) = inl (inr n)
    later (inr n) = inr n

pub owes_both : (g : Ghosts) (s : State) (p : ℕ) (o more : List Owed) → ((i : ℕ) → i ∈ calls_owed o → i ∈ calls_owed more → ⊥) → OwesHold g s p o → OwesHold g s p more → OwesHold g s p (o ++ more)
owes_both g s p [] more apart a b = b
owes_both g s p (x ∷ o) more apart a b = (a.0, (λ m. no (in_both o more x.call m), owes_both g s p o more (λ i m n. apart i (inr m) n) a.1.1 b))
  where
    no : (x.call ∈ calls_owed o) ⊎ (x.call ∈ calls_owed more) → ⊥
    no (inl m) = a.1.0 m
    no (inr m) = apart x.call (inl refl) m

-- one more is owed
pub owe_in : (p : Seat) (i : ℕ) (r : Reply) (j : ℕ) → j ∈ calls_owed (owe p i r).owed → (j ∈ calls_owed p.owed) ⊎ (j ≡ i)
owe_in p i r j m = only (in_both p.owed (record { call = i; reply = r } ∷ []) j m)
  where
    only : (j ∈ calls_owed p.owed) ⊎ ((j ≡ i) ⊎ ⊥) → (j ∈ calls_owed p.owed) ⊎ (j ≡ i)
    only (inl n) = inl n
    only (inr (inl e)) = inr e
    only (inr (inr n)) = absurd n

pub owes_more : (g : Ghosts) (s : State) (p : Seat) (i : ℕ) (r : Reply) → (i ∈ calls_owed p.owed → ⊥) → OwedHolds g s p.peer i r → OwesHold g s p.peer p.owed → OwesHold g s p.peer (owe p i r).owed
owes_more g s p i r free new a = owes_both g s p.peer p.owed (record { call = i; reply = r } ∷ []) (λ j m n. apart j m n) a (new, (λ m. m, tt))
  where
    apart : (j : ℕ) → j ∈ calls_owed p.owed → (j ≡ i) ⊎ ⊥ → ⊥
    apart j m (inl e) = free (subst (λ x. x ∈ calls_owed p.owed) e m)
    apart j m (inr n) = n

-- ## What stays

pub object_stays : (s t : State) (v : ℕ) (x : Object) → EntriesStay s t → (0 < v → s.objects.proposed v ≡ true) → IsObjectOf s v x → IsObjectOf t v x
object_stays s t v x stay p a = record { some = a.some; stamp = a.stamp ∙ sym (stay.stamp v (p a.some)); content = a.content ∙ sym (stay.content v (p a.some)) }

pub genuine_proposed : (s : State) (d : ℕ) (k : List ℕ) (v : ℕ) → IsGenuine s.objects d k v → 0 < v → s.objects.proposed v ≡ true
genuine_proposed s d k v (inl z) l = absurd (omega arith)
genuine_proposed s d k v (inr a) l = a.0

-- the settled version of a key, or none, was proposed
pub known_old : (g : Ghosts) (s : State) (d : ℕ) (k : List ℕ) (known : Known) → KnownHolds g s d k known → (base_of known ≡ 0) ⊎ (s.objects.proposed (base_of known) ≡ true)
known_old g s d k Unknown a = inl refl
known_old g s d k Nothing a = inl refl
known_old g s d k (Held u stamp digest gone) a = inr a.newest.proposed

-- a call that waits is one of the calls of its row
pub waits : (stage : Stage) (rest : List ℕ) (i : ℕ) → i ∈ rest → i ∈ with_running stage rest
waits Idle rest i m = m
waits (Begun j) rest i m = inr m
waits (Reading j r replied best object) rest i m = inr m
waits (Sure j) rest i m = inr m
waits (Checking j r replied reply) rest i m = inr m
waits (Writing j v x acks) rest i m = inr m
waits (Rewriting j v x acks) rest i m = inr m

module _ (g h : Ghosts) (s t : State) (p : Seat) (d : ℕ) (k : List ℕ) (stay : EntriesStay s t) (ghosts : GhostsGrow s g h) (elected : s.objects.ledger.elected d ≡ true) where
  pub heard_stays : (u : ℕ) → IsHeard s.objects d k u → IsHeard t.objects d k u
  heard_stays u a = record {
    readers = a.readers;
    quorum = rw (stay.versions.ledger.views d elected) a.quorum;
    reached = λ q r. le_trans (a.reached q r) (stay.versions.ledger.ballot q);
    given = λ q r. le_trans (stay.versions.floors q d k (a.reached q r)) (a.given q r);
  }

  pub fresh_stays : (i : ℕ) → s.book.called i ≡ true → IsFresh s d i → IsFresh t d i
  fresh_stays i called a = rw (stay.versions.ledger.views d elected) (quorum_more (stood_below s.book i d) (stood_below t.book i d) (λ q b. rw (stay.stood i q called) b) (s.objects.ledger.views d) a)

  pub call_stays : (calls : List ℕ) → RowSpared s t d k calls → (i : ℕ) → i ∈ calls → CallHolds g s p d k i → CallHolds h t p d k i
  call_stays calls spared i m a = record {
    called = stay.called i a.called;
    on_key = ap (λ (c : Call). c.key) (stay.asked i a.called) ∙ a.on_key;
    home = ghosts.home i a.called ∙ a.home;
    free = a.free;
    later = rw (stay.elected_at d elected, stay.asked i a.called) a.later;
    unanswered = spared.unanswered i m a.unanswered;
    unnoted = spared.unnoted i m a.unnoted;
  }

  pub unwritten_stays : (calls : List ℕ) → RowSpared s t d k calls → (i : ℕ) → i ∈ calls → IsUnwritten s i → IsUnwritten t i
  unwritten_stays calls spared i m a v b = a v (spared.unwritten i v m b)

  untouched_stays : (calls : List ℕ) → RowSpared s t d k calls → IsUntouched s.objects d k → IsUntouched t.objects d k
  untouched_stays calls spared a x q key e = let old = spared.untouched x q key e in a x old (sym (stay.versions.key x old) ∙ key) e

  newest_stays : (calls : List ℕ) → RowSpared s t d k calls → (u : ℕ) → IsNewest s.objects d k u → IsNewest t.objects d k u
  newest_stays calls spared u a = record {
    proposed = stay.versions.proposed u a.proposed;
    key = stay.versions.key u a.proposed ∙ a.key;
    epoch = a.epoch;
    settled = stay.versions.settled u a.settled;
    greatest = λ x q key e. let old = spared.untouched x q key e in a.greatest x old (sym (stay.versions.key x old) ∙ key) e;
  }

  known_stays : (calls : List ℕ) → RowSpared s t d k calls → (known : Known) → KnownHolds g s d k known → KnownHolds h t d k known
  known_stays calls spared Unknown a = untouched_stays calls spared a
  known_stays calls spared Nothing a = record { none = a.none; untouched = untouched_stays calls spared a.untouched; heard = heard_stays 0 a.heard }
  known_stays calls spared (Held u stamp digest gone) a = record {
    newest = newest_stays calls spared u a.newest;
    same_stamp = a.same_stamp ∙ sym (stay.stamp u a.newest.proposed);
    same_digest = rw (stay.stamp u a.newest.proposed, stay.content u a.newest.proposed, ghosts.hash) a.same_digest;
    same_gone = rw (stay.content u a.newest.proposed) a.same_gone;
  }

  -- the settled version of the key, or none, was settled
  base_settled : (known : Known) → KnownHolds g s d k known → (base_of known ≡ 0) ⊎ (s.objects.settled (base_of known) ≡ true)
  base_settled Unknown a = inl refl
  base_settled Nothing a = inl refl
  base_settled (Held u stamp digest gone) a = inr a.newest.settled

  settled_stays : (base best q : ℕ) → (base ≡ 0) ⊎ (s.objects.settled base ≡ true) → (s.objects.settled_by base q ≡ true → base ≤ best) → t.objects.settled_by base q ≡ true → base ≤ best
  settled_stays base best q (inl z) a b = rw z (omega arith)
  settled_stays base best q (inr settled) a b = a (rw (stay.versions.settled_by base settled) at b)

  put_stays : (calls : List ℕ) → RowSpared s t d k calls → (v : ℕ) (x : Object) (acks : ℕ → Bool) → PutHolds s d k v x acks → PutHolds t d k v x acks
  put_stays calls spared v x acks a = record {
    proposed = stay.versions.proposed v a.proposed;
    key = stay.versions.key v a.proposed ∙ a.key;
    epoch = a.epoch;
    unsettled = spared.unsettled v a.proposed a.key a.epoch a.unsettled;
    greatest = λ y q key e. let old = spared.untouched y q key e in a.greatest y old (sym (stay.versions.key y old) ∙ key) e;
    object = object_stays s t v x stay (λ l. a.proposed) a.object;
    acked = λ q b. stay.versions.acked v q (a.acked q b);
  }

  stage_stays : (known : Known) (stage : Stage) (waiting : List ℕ) → RowSpared s t d k (with_running stage waiting) → (has_put stage ≡ false → KnownHolds g s d k known) → ((i : ℕ) → i ∈ with_running stage waiting → CallHolds g s p d k i) → StageHolds g s d k known stage → StageHolds h t d k known stage
  stage_stays known Idle waiting spared is calls a = tt
  stage_stays known (Begun i) waiting spared is calls a = unwritten_stays (i ∷ waiting) spared i (inl refl) a
  stage_stays known (Reading i r replied best object) waiting spared is calls a = record {
    turn = ghosts.turn d r (record { call = i; base = base_of known }) a.turn;
    unwritten = unwritten_stays (i ∷ waiting) spared i (inl refl) a.unwritten;
    genuine = genuine_stays s.objects t.objects stay.versions d k best a.genuine;
    reached = λ q b. le_trans (a.reached q b) (stay.versions.ledger.ballot q);
    given = λ q b. le_trans (stay.versions.floors q d k (a.reached q b)) (a.given q b);
    stood = λ q b. rw (stay.stood i q (calls i (inl refl)).called) (a.stood q b);
    settled = λ q b. settled_stays (base_of known) best q (base_settled known (is refl)) (a.settled q b);
    holds = λ x b. object_stays s t best x stay (genuine_proposed s d k best a.genuine) (a.holds x b);
  }
  stage_stays known (Sure i) waiting spared is calls a = (unwritten_stays (i ∷ waiting) spared i (inl refl) a.0, fresh_stays i (calls i (inl refl)).called a.1, a.2)
  stage_stays known (Checking i r replied reply) waiting spared is calls a = (
    record {
      turn = ghosts.turn d r (record { call = i; base = base_of known }) a.0.turn;
      unwritten = unwritten_stays (i ∷ waiting) spared i (inl refl) a.0.unwritten;
      stood = λ q b. rw (stay.stood i q (calls i (inl refl)).called) (a.0.stood q b);
      keeps = ap (λ (c : Call). outcome c.command (register_at t.book (base_of known))) (stay.asked i (calls i (inl refl)).called) ∙ ap (λ (r : Register). outcome (s.book.asked i).command r) (stay.register (base_of known) (known_old g s d k known (is refl))) ∙ a.0.keeps;
    },
    a.1,
  )
  stage_stays known (Writing i v x acks) waiting spared is calls a = record {
    put = put_stays (i ∷ waiting) spared v x acks a.put;
    call = stay.call v a.put.proposed ∙ a.call;
    only = λ w b. a.only w (spared.unwritten i w (inl refl) b);
  }
  stage_stays known (Rewriting i v x acks) waiting spared is calls a = record {
    put = put_stays (i ∷ waiting) spared v x acks a.put;
    unwritten = unwritten_stays (i ∷ waiting) spared i (inl refl) a.unwritten;
    call = stay.call v a.put.proposed ∙ a.call;
    fresh = fresh_stays i (calls i (inl refl)).called a.fresh;
  }

  pub row_stays : (row : KeyRow) → RowSpared s t d k (calls_of row) → RowHolds g s p d k row → RowHolds h t p d k row
  row_stays row spared a = record {
    known = λ none. known_stays (calls_of row) spared row.known (a.known none);
    stage = stage_stays row.known row.stage row.waiting spared a.known a.calls a.stage;
    calls = λ i m. call_stays (calls_of row) spared i m (a.calls i m);
    waiting = λ i m. unwritten_stays (calls_of row) spared i (waits row.stage row.waiting i m) (a.waiting i m);
    distinct = a.distinct;
  }
