-- How the lists of the book relate to its entries.
use Rattle.std.proofs.Common.{◌≡◌, ℕ, ◌<◌, ◌≤◌, Bool, true, false, ◌⊎◌, List, [], ◌∷◌, ◌++◌, Option, arith, ap, refl, inl, inr, sym, ◌∙◌, subst}
use Rattle.ens_base.proofs.Lists.{in_left, in_right}
use Rattle.std.proofs.lemmas.Bool.{false≢true}
use Rattle.ens_base.specs.Lists.{◌∈◌}
use Rattle.ens_base.specs.declared.epoch.Version.{Version}
use Rattle.ens_base.specs.declared.reply.Reply.{Reply}
use Rattle.register_model.specs.declared.call.Call.{Call}
use Rattle.register_model.specs.declared.answer.Answer.{Answer as Given}
use Rattle.register_model.specs.declared.note.Note.{Note as Noted}
use Rattle.register_model.specs.declared.note.Note.TheVariants.{Proposed, Settled as SettledNote, Read}
use Rattle.register_model.specs.Orders.{rank, rank_or_none}
use Rattle.protocol_laws.proofs.Epochs.{not_both}
use Rattle.protocol_laws.proofs.Maps.{put_other, put_here}
use Rattle.protocol_laws.proofs.Ranks.{rank-version_of, rank-version_or_none}
use Rattle.protocol_laws.proofs.Ordered.{Ordered, ordered_push, ordered_more, pushed_then}
use Rattle.protocol_laws.proofs.Basics.{proposed_then, Settled}
use Rattle.protocol_laws.proofs.Descent.{Whole, run_whole}
use Rattle.protocol_laws.proofs.Later.{later_step}
use Rattle.protocol_laws.specs.Stays.{Later}
use Rattle.protocol_laws.specs.Entries.{EntriesAreSafe}
use Rattle.protocol_laws.proofs.Replies.{run_entries}
use Rattle.protocol_laws.specs.Ledger.{put}
use Rattle.protocol_laws.specs.Objects.{MayPropose}
use Rattle.protocol_laws.specs.Book.{Seen, version_of, version_or_none, MayCall}
use Rattle.protocol_laws.specs.Protocol.{State, Step, Begin, Ask, Raise, Elect, Accept, Commit, Adopt, Write, Acknowledge, Install, EndSync, Propose, Settle, Note, Answer, Lose, Revert, opening, happens, MayCome, IsRun, state_after}

pub record ProposedHolds (s : State) (k : List ℕ) (v u : ℕ) (call : Option ℕ) : Type 0 where
  pub proposed : s.objects.proposed v ≡ true
  pub key : s.objects.key v ≡ k
  pub parent : s.objects.parent v ≡ u
  pub call_of : s.book.call v ≡ call

pub record SettledHolds (s : State) (k : List ℕ) (v : ℕ) : Type 0 where
  pub settled : s.objects.settled v ≡ true
  pub key : s.objects.key v ≡ k

pub record ReadHolds (s : State) (i : ℕ) (k : List ℕ) (u : ℕ) : Type 0 where
  pub noted : s.book.noted i ≡ true
  pub key : (s.book.seen i).key ≡ k
  pub base : (s.book.seen i).base ≡ u

-- a note is true of the state
abbrev pub Holds : State → Noted → Type 0
Holds s (Proposed k w parent call) = ProposedHolds s k (rank w) (rank_or_none parent) call
Holds s (SettledNote k w) = SettledHolds s k (rank w)
Holds s (Read i k base) = ReadHolds s i k (rank_or_none base)

-- of two notes of reads, the second is of another call and not of an earlier event
abbrev pub Rises : State → Noted → Noted → Type 0
Rises s n m = (i j : ℕ) (k l : List ℕ) (b c : Option Version) → n ≡ Read i k b → m ≡ Read j l c → (i ≡ j → ⊥) × ((s.book.seen i).event ≤ (s.book.seen j).event)

pub record Listed (s : State) : Type 0 where
  pub called : (c : Call) → c ∈ s.book.calls → s.book.called c.id ≡ true
  pub asked : (c : Call) → c ∈ s.book.calls → s.book.asked c.id ≡ c
  pub call_in : (i : ℕ) → s.book.called i ≡ true → s.book.asked i ∈ s.book.calls
  pub answered : (a : Given) → a ∈ s.book.answers → s.book.answered a.id ≡ true
  pub answer : (a : Given) → a ∈ s.book.answers → s.book.answer a.id ≡ a
  pub holds : (n : Noted) → n ∈ s.book.notes → Holds s n
  pub proposed_in : (v : ℕ) → s.objects.proposed v ≡ true → Proposed (s.objects.key v) (version_of v) (version_or_none (s.objects.parent v)) (s.book.call v) ∈ s.book.notes
  pub settled_in : (v : ℕ) → s.objects.settled v ≡ true → SettledNote (s.objects.key v) (version_of v) ∈ s.book.notes
  pub read_in : (i : ℕ) → s.book.noted i ≡ true → Read i (s.book.seen i).key (version_or_none (s.book.seen i).base) ∈ s.book.notes
  pub rises : Ordered (Rises s) s.book.notes

-- ## What a later state preserves

holds_later : (s t : State) → Later s t → Settled s.objects → (n : Noted) → Holds s n → Holds t n
holds_later s t l settled (Proposed k w parent call) h = record {
  proposed = l.stay.versions.proposed (rank w) h.proposed;
  key = l.stay.versions.key (rank w) h.proposed ∙ h.key;
  parent = l.stay.versions.parent (rank w) h.proposed ∙ h.parent;
  call_of = l.stay.call (rank w) h.proposed ∙ h.call_of;
}
holds_later s t l settled (SettledNote k w) h = record { settled = l.stay.versions.settled (rank w) h.settled; key = l.stay.versions.key (rank w) (settled.proposed (rank w) h.settled) ∙ h.key }
holds_later s t l settled (Read i k base) h = record { noted = l.stay.noted i h.noted; key = ap (λ (n : Seen). n.key) (l.stay.seen i h.noted) ∙ h.key; base = ap (λ (n : Seen). n.base) (l.stay.seen i h.noted) ∙ h.base }

read_noted : (s : State) (i : ℕ) (k : List ℕ) (b : Option Version) (n : Noted) → n ≡ Read i k b → Holds s n → s.book.noted i ≡ true
read_noted s i k b n e h = noted (subst (Holds s) e h)
  where
    noted : ReadHolds s i k (rank_or_none b) → s.book.noted i ≡ true
    noted r = r.noted

rises_later : (s t : State) → Later s t → (n m : Noted) → Holds s n → Holds s m → Rises s n m → Rises t n m
rises_later s t l n m hn hm r i j k g b c e f =
    let p = r i j k g b c e f in
    (p.0, rw (l.stay.seen i (read_noted s i k b n e hn), l.stay.seen j (read_noted s j g c m f hm)) p.1)

-- the notes after a step that notes nothing
kept_rises : (s t : State) → Later s t → Listed s → Ordered (Rises t) s.book.notes
kept_rises s t l old = ordered_more (Rises s) (Rises t) s.book.notes (λ n m p q. rises_later s t l n m (old.holds n p) (old.holds m q)) old.rises

proposed_kept : (s t : State) → Later s t → Listed s → (v : ℕ) → s.objects.proposed v ≡ true → Proposed (t.objects.key v) (version_of v) (version_or_none (t.objects.parent v)) (t.book.call v) ∈ s.book.notes
proposed_kept s t l old v p = rw (l.stay.versions.key v p, l.stay.versions.parent v p, l.stay.call v p) (old.proposed_in v p)

settled_kept : (s t : State) → Later s t → Settled s.objects → Listed s → (v : ℕ) → s.objects.settled v ≡ true → SettledNote (t.objects.key v) (version_of v) ∈ s.book.notes
settled_kept s t l settled old v h = rw (l.stay.versions.key v (settled.proposed v h)) (old.settled_in v h)

read_kept : (s t : State) → Later s t → Listed s → (i : ℕ) → s.book.noted i ≡ true → Read i (t.book.seen i).key (version_or_none (t.book.seen i).base) ∈ s.book.notes
read_kept s t l old i h = rw (l.stay.seen i h) (old.read_in i h)

record Quiet (s t : State) : Type 0 where
  pub proposed : t.objects.proposed ≡ s.objects.proposed
  pub settled : t.objects.settled ≡ s.objects.settled
  pub noted : t.book.noted ≡ s.book.noted
  pub called : t.book.called ≡ s.book.called
  pub asked : t.book.asked ≡ s.book.asked
  pub answered : t.book.answered ≡ s.book.answered
  pub answer : t.book.answer ≡ s.book.answer
  pub calls : t.book.calls ≡ s.book.calls
  pub answers : t.book.answers ≡ s.book.answers
  pub notes : t.book.notes ≡ s.book.notes

at_bool : (f g : ℕ → Bool) → f ≡ g → (i : ℕ) → f i ≡ true → g i ≡ true
at_bool f g e i h = subst (λ (x : ℕ → Bool). x i ≡ true) e h

quiet_listed : (s t : State) → Quiet s t → Later s t → Settled s.objects → Listed s → Listed t
quiet_listed s t quiet l settled old = record {
  called = λ c h. at_bool s.book.called t.book.called (sym quiet.called) c.id (old.called c (subst (λ (x : List Call). c ∈ x) quiet.calls h));
  asked = λ c h. subst (λ (x : ℕ → Call). x c.id ≡ c) (sym quiet.asked) (old.asked c (subst (λ (x : List Call). c ∈ x) quiet.calls h));
  call_in = λ i h. subst (λ (x : List Call). t.book.asked i ∈ x) (sym quiet.calls) (subst (λ (x : ℕ → Call). x i ∈ s.book.calls) (sym quiet.asked) (old.call_in i (at_bool t.book.called s.book.called quiet.called i h)));
  answered = λ a h. at_bool s.book.answered t.book.answered (sym quiet.answered) a.id (old.answered a (subst (λ (x : List Given). a ∈ x) quiet.answers h));
  answer = λ a h. subst (λ (x : ℕ → Given). x a.id ≡ a) (sym quiet.answer) (old.answer a (subst (λ (x : List Given). a ∈ x) quiet.answers h));
  holds = λ n h. holds_later s t l settled n (old.holds n (subst (λ (x : List Noted). n ∈ x) quiet.notes h));
  proposed_in = λ v h. subst (λ (x : List Noted). Proposed (t.objects.key v) (version_of v) (version_or_none (t.objects.parent v)) (t.book.call v) ∈ x) (sym quiet.notes) (proposed_kept s t l old v (at_bool t.objects.proposed s.objects.proposed quiet.proposed v h));
  settled_in = λ v h. subst (λ (x : List Noted). SettledNote (t.objects.key v) (version_of v) ∈ x) (sym quiet.notes) (settled_kept s t l settled old v (at_bool t.objects.settled s.objects.settled quiet.settled v h));
  read_in = λ i h. subst (λ (x : List Noted). Read i (t.book.seen i).key (version_or_none (t.book.seen i).base) ∈ x) (sym quiet.notes) (read_kept s t l old i (at_bool t.book.noted s.book.noted quiet.noted i h));
  rises = subst (Ordered (Rises t)) (sym quiet.notes) (kept_rises s t l old);
}

-- ## The steps that write into a list

ask_listed : (s : State) (c : Call) → MayCall s.book c → Later s (happens s (Ask c)) → Settled s.objects → Listed s → Listed (happens s (Ask c))
ask_listed s c may l settled old = record {
  called = λ x h. called x h;
  asked = λ x h. asked x h;
  call_in = λ i h. proposed_then s.book.called c.id (λ i. put s.book.asked c.id c i ∈ (c ∷ s.book.calls)) (inl (put_here s.book.asked c.id c)) (λ i n h. inr (subst (λ (x : Call). x ∈ s.book.calls) (sym (put_other s.book.asked c.id c i n)) (old.call_in i h))) i h;
  answered = old.answered;
  answer = old.answer;
  holds = λ n h. holds_later s (happens s (Ask c)) l settled n (old.holds n h);
  proposed_in = old.proposed_in;
  settled_in = old.settled_in;
  read_in = old.read_in;
  rises = kept_rises s (happens s (Ask c)) l old;
}
  where
    other : (x : Call) → x ∈ s.book.calls → c.id ≡ x.id → ⊥
    other x h e = not_both (old.called x h) (rw (← e) may.fresh)

    called : (x : Call) → (x ≡ c) ⊎ (x ∈ s.book.calls) → put s.book.called c.id true x.id ≡ true
    called x (inl e) = subst (λ (y : Call). put s.book.called c.id true y.id ≡ true) (sym e) (put_here s.book.called c.id true)
    called x (inr h) = put_other s.book.called c.id true x.id (other x h) ∙ old.called x h

    asked : (x : Call) → (x ≡ c) ⊎ (x ∈ s.book.calls) → put s.book.asked c.id c x.id ≡ x
    asked x (inl e) = subst (λ (y : Call). put s.book.asked c.id c y.id ≡ y) (sym e) (put_here s.book.asked c.id c)
    asked x (inr h) = put_other s.book.asked c.id c x.id (other x h) ∙ old.asked x h

answer_listed : (s : State) (i : ℕ) (r : Reply) → s.book.answered i ≡ false → Later s (happens s (Answer i r)) → Settled s.objects → Listed s → Listed (happens s (Answer i r))
answer_listed s i r fresh l settled old = record {
  called = old.called;
  asked = old.asked;
  call_in = old.call_in;
  answered = λ x h. answered x h;
  answer = λ x h. answer x h;
  holds = λ n h. holds_later s (happens s (Answer i r)) l settled n (old.holds n h);
  proposed_in = old.proposed_in;
  settled_in = old.settled_in;
  read_in = old.read_in;
  rises = kept_rises s (happens s (Answer i r)) l old;
}
  where
    a : Given
    a = record { id = i; event = s.book.now; reply = r }

    other : (x : Given) → x ∈ s.book.answers → i ≡ x.id → ⊥
    other x h e = not_both (old.answered x h) (rw (← e) fresh)

    answered : (x : Given) → (x ≡ a) ⊎ (x ∈ s.book.answers) → put s.book.answered i true x.id ≡ true
    answered x (inl e) = subst (λ (y : Given). put s.book.answered i true y.id ≡ true) (sym e) (put_here s.book.answered i true)
    answered x (inr h) = put_other s.book.answered i true x.id (other x h) ∙ old.answered x h

    answer : (x : Given) → (x ≡ a) ⊎ (x ∈ s.book.answers) → put s.book.answer i a x.id ≡ x
    answer x (inl e) = subst (λ (y : Given). put s.book.answer i a y.id ≡ y) (sym e) (put_here s.book.answer i a)
    answer x (inr h) = put_other s.book.answer i a x.id (other x h) ∙ old.answer x h

-- a note that is not a read may follow any note
not_read_rises : (t : State) (n m : Noted) → ((i : ℕ) (k : List ℕ) (b : Option Version) → m ≡ Read i k b → ⊥) → Rises t n m
not_read_rises t n m never i j k l b c e f = absurd (never j l c f)

propose_listed : (s : State) (x : ℕ) (k : List ℕ) (u : ℕ) (y : Version) (z : Option (List ℕ)) (c : Option ℕ) → MayPropose s.objects x k u → Later s (happens s (Propose x k u y z c)) → Settled s.objects → Listed s → Listed (happens s (Propose x k u y z c))
propose_listed s x k u y z c may l settled old = record {
  called = old.called;
  asked = old.asked;
  call_in = old.call_in;
  answered = old.answered;
  answer = old.answer;
  holds = pushed_then s.book.notes note (Holds t) here (λ n h. holds_later s t l settled n (old.holds n h));
  proposed_in = λ v p. proposed_then s.objects.proposed x (λ v. Proposed (t.objects.key v) (version_of v) (version_or_none (t.objects.parent v)) (t.book.call v) ∈ (s.book.notes ++ note ∷ []))
      (in_right s.book.notes (note ∷ []) (Proposed (t.objects.key x) (version_of x) (version_or_none (t.objects.parent x)) (t.book.call x)) (inl (rw (put_here s.objects.key x k, put_here s.objects.parent x u, put_here s.book.call x c) refl)))
      (λ v n p. in_left s.book.notes (note ∷ []) (Proposed (t.objects.key v) (version_of v) (version_or_none (t.objects.parent v)) (t.book.call v)) (proposed_kept s t l old v p)) v p;
  settled_in = λ v h. in_left s.book.notes (note ∷ []) (SettledNote (t.objects.key v) (version_of v)) (settled_kept s t l settled old v h);
  read_in = λ i h. in_left s.book.notes (note ∷ []) (Read i (s.book.seen i).key (version_or_none (s.book.seen i).base)) (old.read_in i h);
  rises = ordered_push (Rises t) s.book.notes note (kept_rises s t l old) (λ n h. not_read_rises t n note never);
}
  where
    t : State
    t = happens s (Propose x k u y z c)

    note : Noted
    note = Proposed k (version_of x) (version_or_none u) c

    never : (i : ℕ) (l : List ℕ) (b : Option Version) → Proposed k (version_of x) (version_or_none u) c ≡ Read i l b → ⊥
    never i l b e = cc

    positive : 0 < x
    positive = omega (arith, may.lower)

    here : ProposedHolds t k (rank (version_of x)) (rank_or_none (version_or_none u)) c
    here = rw (rank-version_of x positive, rank-version_or_none u) (record { proposed = put_here s.objects.proposed x true; key = put_here s.objects.key x k; parent = put_here s.objects.parent x u; call_of = put_here s.book.call x c })

settle_listed : (s : State) (x : ℕ) → s.objects.proposed x ≡ true → s.objects.settled x ≡ false → 0 < x → Later s (happens s (Settle x)) → Settled s.objects → Listed s → Listed (happens s (Settle x))
settle_listed s x proposed fresh positive l settled old = record {
  called = old.called;
  asked = old.asked;
  call_in = old.call_in;
  answered = old.answered;
  answer = old.answer;
  holds = pushed_then s.book.notes note (Holds t) here (λ n h. holds_later s t l settled n (old.holds n h));
  proposed_in = λ v h. in_left s.book.notes (note ∷ []) (Proposed (s.objects.key v) (version_of v) (version_or_none (s.objects.parent v)) (s.book.call v)) (old.proposed_in v h);
  settled_in = λ v p. proposed_then s.objects.settled x (λ v. SettledNote (s.objects.key v) (version_of v) ∈ (s.book.notes ++ note ∷ []))
      (in_right s.book.notes (note ∷ []) note (inl refl))
      (λ v n p. in_left s.book.notes (note ∷ []) (SettledNote (s.objects.key v) (version_of v)) (old.settled_in v p)) v p;
  read_in = λ i h. in_left s.book.notes (note ∷ []) (Read i (s.book.seen i).key (version_or_none (s.book.seen i).base)) (old.read_in i h);
  rises = ordered_push (Rises t) s.book.notes note (kept_rises s t l old) (λ n h. not_read_rises t n note never);
}
  where
    t : State
    t = happens s (Settle x)

    note : Noted
    note = SettledNote (s.objects.key x) (version_of x)

    never : (i : ℕ) (l : List ℕ) (b : Option Version) → SettledNote (s.objects.key x) (version_of x) ≡ Read i l b → ⊥
    never i l b e = cc

    here : SettledHolds t (s.objects.key x) (rank (version_of x))
    here = rw (rank-version_of x positive) (record { settled = put_here s.objects.settled x true; key = refl })

note_listed : (s : State) (i : ℕ) (k : List ℕ) (u d : ℕ) → s.book.noted i ≡ false → EntriesAreSafe s → Later s (happens s (Note i k u d)) → Settled s.objects → Listed s → Listed (happens s (Note i k u d))
note_listed s i k u d fresh entries l settled old = record {
  called = old.called;
  asked = old.asked;
  call_in = old.call_in;
  answered = old.answered;
  answer = old.answer;
  holds = pushed_then s.book.notes note (Holds t) here (λ n h. holds_later s t l settled n (old.holds n h));
  proposed_in = λ v h. in_left s.book.notes (note ∷ []) (Proposed (s.objects.key v) (version_of v) (version_or_none (s.objects.parent v)) (s.book.call v)) (old.proposed_in v h);
  settled_in = λ v h. in_left s.book.notes (note ∷ []) (SettledNote (s.objects.key v) (version_of v)) (old.settled_in v h);
  read_in = λ j p. proposed_then s.book.noted i (λ j. Read j (t.book.seen j).key (version_or_none (t.book.seen j).base) ∈ (s.book.notes ++ note ∷ []))
      (in_right s.book.notes (note ∷ []) (Read i (t.book.seen i).key (version_or_none (t.book.seen i).base)) (inl (ap (λ (n : Seen). Read i n.key (version_or_none n.base)) (put_here s.book.seen i seen))))
      (λ j n p. in_left s.book.notes (note ∷ []) (Read j (t.book.seen j).key (version_or_none (t.book.seen j).base)) (read_kept s t l old j p)) j p;
  rises = ordered_push (Rises t) s.book.notes note (kept_rises s t l old) (λ n h. last n h);
}
  where
    t : State
    t = happens s (Note i k u d)

    seen : Seen
    seen = record { key = k; base = u; epoch = d; event = s.book.now }

    note : Noted
    note = Read i k (version_or_none u)

    here : ReadHolds t i k (rank_or_none (version_or_none u))
    here = rw (rank-version_or_none u) (record { noted = put_here s.book.noted i true; key = ap (λ (n : Seen). n.key) (put_here s.book.seen i seen); base = ap (λ (n : Seen). n.base) (put_here s.book.seen i seen) })

    same_id : (j : ℕ) (q : List ℕ) (c : Option Version) → Read i k (version_or_none u) ≡ Read j q c → i ≡ j
    same_id j q c e = cc

    last : (n : Noted) → n ∈ s.book.notes → Rises t n note
    last n h a b p q c e f g = rises (read_noted s a p c n f (old.holds n h)) (same_id b q e g)
      where
        rises : s.book.noted a ≡ true → i ≡ b → (a ≡ b → ⊥) × ((t.book.seen a).event ≤ (t.book.seen b).event)
        rises m same = (λ r. not_both m (subst (λ x. s.book.noted x ≡ false) (same ∙ sym r) fresh), subst (λ x. (t.book.seen a).event ≤ (t.book.seen x).event) same (rw (l.stay.seen a m, put_here s.book.seen i seen) (entries.reads a m).now))

listed_step : (s : State) (e : Step) → MayCome s e → Later s (happens s e) → Whole s.objects → EntriesAreSafe s → Listed s → Listed (happens s e)
listed_step s (Ask c) may l w entries old = ask_listed s c may.1 l w.settled old
listed_step s (Answer i r) may l w entries old = answer_listed s i r may.1.fresh l w.settled old
listed_step s (Propose v k u y z c) may l w entries old = propose_listed s v k u y z c may.0 l w.settled old
listed_step s (Settle v) may l w entries old = settle_listed s v may.0.proposed may.0.fresh (positive v (w.basics.lower v may.0.proposed)) l w.settled old
  where
    positive : (v : ℕ) → s.objects.parent v < v → 0 < v
    positive v h = omega arith
listed_step s (Note i k u d) may l w entries old = note_listed s i k u d may.1.waiting.not_noted entries l w.settled old
listed_step s Begin may l w entries old = quiet_listed s (happens s Begin) (record { proposed = refl; settled = refl; noted = refl; called = refl; asked = refl; answered = refl; answer = refl; calls = refl; answers = refl; notes = refl }) l w.settled old
listed_step s (Raise q d) may l w entries old = quiet_listed s (happens s (Raise q d)) (record { proposed = refl; settled = refl; noted = refl; called = refl; asked = refl; answered = refl; answer = refl; calls = refl; answers = refl; notes = refl }) l w.settled old
listed_step s (Elect d b) may l w entries old = quiet_listed s (happens s (Elect d b)) (record { proposed = refl; settled = refl; noted = refl; called = refl; asked = refl; answered = refl; answer = refl; calls = refl; answers = refl; notes = refl }) l w.settled old
listed_step s (Accept q d) may l w entries old = quiet_listed s (happens s (Accept q d)) (record { proposed = refl; settled = refl; noted = refl; called = refl; asked = refl; answered = refl; answer = refl; calls = refl; answers = refl; notes = refl }) l w.settled old
listed_step s (Commit d c) may l w entries old = quiet_listed s (happens s (Commit d c)) (record { proposed = refl; settled = refl; noted = refl; called = refl; asked = refl; answered = refl; answer = refl; calls = refl; answers = refl; notes = refl }) l w.settled old
listed_step s (Adopt q d) may l w entries old = quiet_listed s (happens s (Adopt q d)) (record { proposed = refl; settled = refl; noted = refl; called = refl; asked = refl; answered = refl; answer = refl; calls = refl; answers = refl; notes = refl }) l w.settled old
listed_step s (Write q v) may l w entries old = quiet_listed s (happens s (Write q v)) (record { proposed = refl; settled = refl; noted = refl; called = refl; asked = refl; answered = refl; answer = refl; calls = refl; answers = refl; notes = refl }) l w.settled old
listed_step s (Acknowledge q v) may l w entries old = quiet_listed s (happens s (Acknowledge q v)) (record { proposed = refl; settled = refl; noted = refl; called = refl; asked = refl; answered = refl; answer = refl; calls = refl; answers = refl; notes = refl }) l w.settled old
listed_step s (Install q d m) may l w entries old = quiet_listed s (happens s (Install q d m)) (record { proposed = refl; settled = refl; noted = refl; called = refl; asked = refl; answered = refl; answer = refl; calls = refl; answers = refl; notes = refl }) l w.settled old
listed_step s (EndSync q d) may l w entries old = quiet_listed s (happens s (EndSync q d)) (record { proposed = refl; settled = refl; noted = refl; called = refl; asked = refl; answered = refl; answer = refl; calls = refl; answers = refl; notes = refl }) l w.settled old
listed_step s (Lose q) may l w entries old = quiet_listed s (happens s (Lose q)) (record { proposed = refl; settled = refl; noted = refl; called = refl; asked = refl; answered = refl; answer = refl; calls = refl; answers = refl; notes = refl }) l w.settled old
listed_step s (Revert q m) may l w entries old = quiet_listed s (happens s (Revert q m)) (record { proposed = refl; settled = refl; noted = refl; called = refl; asked = refl; answered = refl; answer = refl; calls = refl; answers = refl; notes = refl }) l w.settled old

opening_listed : (view : List ℕ) → Listed (opening view)
opening_listed view = record {
  called = λ c h. absurd h;
  asked = λ c h. absurd h;
  call_in = λ i h. absurd (false≢true h);
  answered = λ a h. absurd h;
  answer = λ a h. absurd h;
  holds = λ n h. absurd h;
  proposed_in = λ v h. absurd (false≢true h);
  settled_in = λ v h. absurd (false≢true h);
  read_in = λ i h. absurd (false≢true h);
  rises = tt;
}

pub run_listed : (view : List ℕ) (steps : List Step) → IsRun view steps → Listed (state_after view steps)
run_listed view [] run = opening_listed view
run_listed view (e ∷ steps) run =
    let w = run_whole view steps run.0 in
    listed_step (state_after view steps) e run.1 (later_step (state_after view steps) e run.1 w) w (run_entries view steps run.0) (run_listed view steps run.0)
