-- How a state is related to the one after a step, and to each later one.
use Rattle.std.proofs.Common.{◌≡◌, ℕ, ◌<◌, ◌≤◌, Bool, true, false, List, [], ◌∷◌, Option, None, Some, arith, ap, refl, inl, inr, sym, ◌∙◌, subst, le_trans, le_refl}
use Rattle.std.proofs.lemmas.Bool.Decides.{nat_tests}
use Rattle.protocol_laws.proofs.Epochs.{not_both}
use Rattle.protocol_laws.proofs.Maps.{zero_not, put_other, put_here}
use Rattle.protocol_laws.proofs.Dead.{new_dead}
use Rattle.protocol_laws.proofs.Stays.{versions_step, versions_same, versions_then}
use Rattle.protocol_laws.proofs.Descent.{Whole, IsOld, run_whole}
use Rattle.protocol_laws.specs.Versions.{IsDead}
use Rattle.protocol_laws.specs.Stays.{EntriesStay, Later}
use Rattle.protocol_laws.specs.Ledger.{put}
use Rattle.protocol_laws.specs.Objects.{Objects, epoch_of, MayPropose}
use Rattle.protocol_laws.specs.Book.{register_at, MayNoteProposal, IsOpenCall}
use Rattle.protocol_laws.specs.Protocol.{State, Step, Begin, Ask, Elect, Propose, Settle, Note, Answer, happens, MayCome, IsRun, state_after, after, MayAll}

-- ## Events and epochs

now_step : (s : State) (e : Step) → s.book.now ≤ (happens s e).book.now
now_step s Begin = omega arith
now_step s (Ask c) = omega arith
now_step s e = le_refl s.book.now

elected_at_step : (s : State) (e : Step) → MayCome s e → (d : ℕ) → s.objects.ledger.elected d ≡ true → (happens s e).book.elected_at d ≡ s.book.elected_at d
elected_at_step s (Elect x b) may d h = put_other s.book.elected_at x s.book.now d (λ e. not_both h (rw (← e) may.0.fresh))
elected_at_step s e may d h = refl

new_epoch_step : (s : State) (e : Step) (d : ℕ) → (happens s e).objects.ledger.elected d ≡ true → s.objects.ledger.elected d ≡ false → s.book.now ≤ (happens s e).book.elected_at d
new_epoch_step s (Elect x b) d e n = grind (arith, nat_tests)
new_epoch_step s step d e n = absurd (not_both e n)

-- ## Versions

-- the proposed version is not an old one
other : (o : Objects) (x : ℕ) (k : List ℕ) (u : ℕ) → MayPropose o x k u → (v : ℕ) → IsOld o v → x ≡ v → ⊥
other o x k u may v (inl z) e = zero_not x may.led (e ∙ z)
other o x k u may v (inr p) e = not_both p (rw (← e) may.fresh)

proposed_at_step : (s : State) (e : Step) → MayCome s e → (v : ℕ) → s.objects.proposed v ≡ true → (happens s e).book.proposed_at v ≡ s.book.proposed_at v
proposed_at_step s (Propose x k u y z c) may v h = put_other s.book.proposed_at x s.book.now v (other s.objects x k u may.0 v (inr h))
proposed_at_step s e may v h = refl

settled_at_step : (s : State) (e : Step) → MayCome s e → (v : ℕ) → s.objects.settled v ≡ true → (happens s e).book.settled_at v ≡ s.book.settled_at v
settled_at_step s (Settle x) may v h = put_other s.book.settled_at x s.book.now v (λ e. not_both h (rw (← e) may.0.fresh))
settled_at_step s e may v h = refl

call_step : (s : State) (e : Step) → MayCome s e → (v : ℕ) → s.objects.proposed v ≡ true → (happens s e).book.call v ≡ s.book.call v
call_step s (Propose x k u y z c) may v h = put_other s.book.call x c v (other s.objects x k u may.0 v (inr h))
call_step s e may v h = refl

stamp_step : (s : State) (e : Step) → MayCome s e → (v : ℕ) → s.objects.proposed v ≡ true → (happens s e).book.stamp v ≡ s.book.stamp v
stamp_step s (Propose x k u y z c) may v h = put_other s.book.stamp x y v (other s.objects x k u may.0 v (inr h))
stamp_step s e may v h = refl

content_step : (s : State) (e : Step) → MayCome s e → (v : ℕ) → s.objects.proposed v ≡ true → (happens s e).book.content v ≡ s.book.content v
content_step s (Propose x k u y z c) may v h = put_other s.book.content x z v (other s.objects x k u may.0 v (inr h))
content_step s e may v h = refl

register_step : (s : State) (e : Step) → MayCome s e → (v : ℕ) → IsOld s.objects v → register_at (happens s e).book v ≡ register_at s.book v
register_step s (Propose x k u y z c) may v old = rw (put_other s.book.stamp x y v (other s.objects x k u may.0 v old), put_other s.book.content x z v (other s.objects x k u may.0 v old)) refl
register_step s e may v old = refl

is_new : (proposed : ℕ → Bool) (x v : ℕ) → put proposed x true v ≡ true → proposed v ≡ false → x ≡ v
is_new proposed x v p n = grind (arith, nat_tests)

new_version_step : (s : State) (e : Step) (v : ℕ) → (happens s e).objects.proposed v ≡ true → s.objects.proposed v ≡ false → s.book.now ≤ (happens s e).book.proposed_at v
new_version_step s (Propose x k u y z c) v p n = grind (arith, nat_tests)
new_version_step s e v p n = absurd (not_both p n)

new_dead_step : (s : State) (e : Step) → MayCome s e → Whole s.objects → (v d : ℕ) → (happens s e).objects.proposed v ≡ true → s.objects.proposed v ≡ false → s.objects.ledger.elected d ≡ true → epoch_of v < d → IsDead (happens s e).objects v
new_dead_step s (Propose x k u y z c) may w v d p n elected l = dead (is_new s.objects.proposed x v p n)
  where
    dead : x ≡ v → IsDead (happens s (Propose x k u y z c)).objects v
    dead e = subst (λ w. IsDead s.objects w) e (new_dead s.objects x k u may.0 w.sound w.basics d elected (rw (← e) at l))
new_dead_step s e may w v d p n elected l = absurd (not_both p n)

new_write_step : (s : State) (e : Step) → MayCome s e → (v i : ℕ) → (happens s e).objects.proposed v ≡ true → s.objects.proposed v ≡ false → (happens s e).book.call v ≡ Some i → IsOpenCall s.objects s.book i
new_write_step s (Propose x k u y z c) may v i p n h = call_open c may.1 (sym (put_here s.book.call x c) ∙ subst (λ w. put s.book.call x c w ≡ Some i) (sym (is_new s.objects.proposed x v p n)) h)
  where
    call_open : (c : Option ℕ) → MayNoteProposal s.objects s.book x k u y z c → c ≡ Some i → IsOpenCall s.objects s.book i
    call_open None noting e = absurd (cc)
    call_open (Some j) noting e = let same : j ≡ i = cc in subst (λ n. IsOpenCall s.objects s.book n) same noting.waiting
new_write_step s e may v i p n h = absurd (not_both p n)

-- ## Calls

old_call : (s : State) (x i : ℕ) → s.book.called x ≡ false → s.book.called i ≡ true → x ≡ i → ⊥
old_call s x i fresh h e = not_both h (rw (← e) fresh)

called_step : (s : State) (e : Step) → MayCome s e → (i : ℕ) → s.book.called i ≡ true → (happens s e).book.called i ≡ true
called_step s (Ask c) may i h = put_other s.book.called c.id true i (old_call s c.id i may.1.fresh h) ∙ h
called_step s e may i h = h

asked_step : (s : State) (e : Step) → MayCome s e → (i : ℕ) → s.book.called i ≡ true → (happens s e).book.asked i ≡ s.book.asked i
asked_step s (Ask c) may i h = put_other s.book.asked c.id c i (old_call s c.id i may.1.fresh h)
asked_step s e may i h = refl

stood_step : (s : State) (e : Step) → MayCome s e → (i q : ℕ) → s.book.called i ≡ true → (happens s e).book.stood i q ≡ s.book.stood i q
stood_step s (Ask c) may i q h = ap (λ (f : ℕ → ℕ). f q) (put_other s.book.stood c.id s.objects.ledger.ballot i (old_call s c.id i may.1.fresh h))
stood_step s e may i q h = refl

noted_step : (s : State) (e : Step) → MayCome s e → (i : ℕ) → s.book.noted i ≡ true → (happens s e).book.noted i ≡ true
noted_step s (Note x k u d) may i h = put_other s.book.noted x true i (λ e. not_both h (rw (← e) may.1.waiting.not_noted)) ∙ h
noted_step s e may i h = h

seen_step : (s : State) (e : Step) → MayCome s e → (i : ℕ) → s.book.noted i ≡ true → (happens s e).book.seen i ≡ s.book.seen i
seen_step s (Note x k u d) may i h = put_other s.book.seen x (record { key = k; base = u; epoch = d; event = s.book.now }) i (λ e. not_both h (rw (← e) may.1.waiting.not_noted))
seen_step s e may i h = refl

answered_step : (s : State) (e : Step) → MayCome s e → (i : ℕ) → s.book.answered i ≡ true → (happens s e).book.answered i ≡ true
answered_step s (Answer x r) may i h = put_other s.book.answered x true i (λ e. not_both h (rw (← e) may.1.fresh)) ∙ h
answered_step s e may i h = h

answer_step : (s : State) (e : Step) → MayCome s e → (i : ℕ) → s.book.answered i ≡ true → (happens s e).book.answer i ≡ s.book.answer i
answer_step s (Answer x r) may i h = put_other s.book.answer x (record { id = x; event = s.book.now; reply = r }) i (λ e. not_both h (rw (← e) may.1.fresh))
answer_step s e may i h = refl

new_note_step : (s : State) (e : Step) → MayCome s e → (i : ℕ) → (happens s e).book.noted i ≡ true → s.book.noted i ≡ false → IsOpenCall s.objects s.book i
new_note_step s (Note x k u d) may i h n = subst (λ m. IsOpenCall s.objects s.book m) (is_new s.book.noted x i h n) may.1.waiting
new_note_step s e may i h n = absurd (not_both h n)

-- ## A step

pub stay_step : (s : State) (e : Step) → MayCome s e → EntriesStay s (happens s e)
stay_step s e may = record {
  versions = versions_step s.objects e may.0;
  now = now_step s e;
  elected_at = elected_at_step s e may;
  proposed_at = proposed_at_step s e may;
  settled_at = settled_at_step s e may;
  call = call_step s e may;
  stamp = stamp_step s e may;
  content = content_step s e may;
  register = register_step s e may;
  called = called_step s e may;
  asked = asked_step s e may;
  stood = stood_step s e may;
  noted = noted_step s e may;
  seen = seen_step s e may;
  answered = answered_step s e may;
  answer = answer_step s e may;
}

pub later_step : (s : State) (e : Step) → MayCome s e → Whole s.objects → Later s (happens s e)
later_step s e may w = record {
  stay = stay_step s e may;
  new_epoch = new_epoch_step s e;
  new_version = new_version_step s e;
  new_dead = new_dead_step s e may w;
  new_write = new_write_step s e may;
  new_note = new_note_step s e may;
}

pub run_later : (view : List ℕ) (steps : List Step) (e : Step) → IsRun view (e ∷ steps) → Later (state_after view steps) (state_after view (e ∷ steps))
run_later view steps e run = later_step (state_after view steps) e run.1 (run_whole view steps run.0)

-- ## Several steps

pub stay_same : (s : State) → EntriesStay s s
stay_same s = record {
  versions = versions_same s.objects;
  now = le_refl s.book.now;
  elected_at = λ d h. refl;
  proposed_at = λ v h. refl;
  settled_at = λ v h. refl;
  call = λ v h. refl;
  stamp = λ v h. refl;
  content = λ v h. refl;
  register = λ v h. refl;
  called = λ i h. h;
  asked = λ i h. refl;
  stood = λ i q h. refl;
  noted = λ i h. h;
  seen = λ i h. refl;
  answered = λ i h. h;
  answer = λ i h. refl;
}

pub stay_then : (s t u : State) → EntriesStay s t → EntriesStay t u → EntriesStay s u
stay_then s t u a b = record {
  versions = versions_then s.objects t.objects u.objects a.versions b.versions;
  now = le_trans a.now b.now;
  elected_at = λ d h. b.elected_at d (a.versions.ledger.elected d h) ∙ a.elected_at d h;
  proposed_at = λ v h. b.proposed_at v (a.versions.proposed v h) ∙ a.proposed_at v h;
  settled_at = λ v h. b.settled_at v (a.versions.settled v h) ∙ a.settled_at v h;
  call = λ v h. b.call v (a.versions.proposed v h) ∙ a.call v h;
  stamp = λ v h. b.stamp v (a.versions.proposed v h) ∙ a.stamp v h;
  content = λ v h. b.content v (a.versions.proposed v h) ∙ a.content v h;
  register = λ v h. b.register v (old v h) ∙ a.register v h;
  called = λ i h. b.called i (a.called i h);
  asked = λ i h. b.asked i (a.called i h) ∙ a.asked i h;
  stood = λ i q h. b.stood i q (a.called i h) ∙ a.stood i q h;
  noted = λ i h. b.noted i (a.noted i h);
  seen = λ i h. b.seen i (a.noted i h) ∙ a.seen i h;
  answered = λ i h. b.answered i (a.answered i h);
  answer = λ i h. b.answer i (a.answered i h) ∙ a.answer i h;
}
  where
    old : (v : ℕ) → IsOld s.objects v → IsOld t.objects v
    old v (inl z) = inl z
    old v (inr p) = inr (a.versions.proposed v p)

pub stay_after : (s : State) (steps : List Step) → MayAll s steps → EntriesStay s (after s steps)
stay_after s [] may = stay_same s
stay_after s (e ∷ es) may = stay_then s (happens s e) (after (happens s e) es) (stay_step s e may.0) (stay_after (happens s e) es may.1)
