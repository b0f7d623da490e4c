-- Calls in slots, and the places of the calls on each key.
use Rattle.std.proofs.Common.{◌≡◌, ◌+◌, ◌-◌, ◌<◌, ◌≤◌, ◌||◌, eqb, arith, refl, ap, sym, subst, ◌∙◌, ℕ, zero, suc, Bool, true, false, cond, List, [], ◌∷◌, ◌++◌, length, map, take, drop, Option, None, Some, Bor}
use Rattle.std.specs.Prelude.{◌==◌, slice_set, slice_index_or, option_map}
use Rattle.std.proofs.lemmas.List.{take-append-drop, length-take, length-append, length-map, take-append-le, take_all}
use Rattle.std.proofs.Math.Seq.{drop-cons, take-add}
use Rattle.std.specs.Option.{option_copied}
use Rattle.std.proofs.lemmas.Bool.Decides.{nat_tests}
use Rattle.std.proofs.Math.Numerals.{suc-eq-add-one}
use Rattle.ens_base.specs.Lists.{same_bytes}
use Rattle.ens_base.proofs.Lists.{bytes_same, bytes_itself}
use Rattle.call_table.specs.declared.places.Places.{Places}
use Rattle.call_table.specs.declared.waiting.DueCall.{DueCall}
use Rattle.call_table.specs.declared.waiting.Waiting.{Waiting}
use Rattle.call_table.specs.Calls.{waiting_on, running, without_running, older, is_due, not_due, due_after, key_if_running}
use Rattle.call_table.specs.Late.{late_put_after}
use Rattle.call_table.specs.Rows.{Rows}
use Rattle.call_table.specs.Slots.{present, places_on, unless_due, is_first, key_if, due_at, late_at, places_at, AreOf, AreKept}
use Rattle.call_table.specs.Queues.{first_of, rest_of, first_is}

-- ## Counting

-- the slots hold at most one call each
pub present_few : (slots : List (Option Waiting)) → length (present slots) ≤ length slots
present_few [] = omega arith
present_few (None ∷ slots) = omega (arith, present_few slots)
present_few (Some w ∷ slots) = omega (arith, present_few slots)

pub count_places : (key : List ℕ) (slots : List (Option Waiting)) (at : ℕ) → waiting_on key (present slots) ≡ length (places_on key at slots)
count_places key [] at = refl
count_places key (None ∷ slots) at = count_places key slots (at + 1)
count_places key (Some w ∷ slots) at = by_key (same_bytes w.key key) (count_places key slots (at + 1))
  where
    by_key : (b : Bool) → waiting_on key (present slots) ≡ length (places_on key (at + 1) slots)
        → cond b (waiting_on key (present slots) + 1) (waiting_on key (present slots)) ≡ length (cond b (at ∷ places_on key (at + 1) slots) (places_on key (at + 1) slots))
    by_key true e = omega (arith, e)
    by_key false e = e

-- ## One more call

pub present_more : (slots : List (Option Waiting)) (w : Waiting) → present (slots ++ Some w ∷ []) ≡ present slots ++ w ∷ []
present_more [] w = refl
present_more (None ∷ slots) w = present_more slots w
present_more (Some v ∷ slots) w = ap (λ (ws : List Waiting). v ∷ ws) (present_more slots w)

cons_cond : (b c : Bool) (n m : ℕ) (xs ys : List ℕ) → xs ≡ cond c (ys ++ m ∷ []) ys → cond b (n ∷ xs) xs ≡ cond c (cond b (n ∷ ys) ys ++ m ∷ []) (cond b (n ∷ ys) ys)
cons_cond true true n m xs ys e = ap (λ (l : List ℕ). n ∷ l) e
cons_cond true false n m xs ys e = ap (λ (l : List ℕ). n ∷ l) e
cons_cond false true n m xs ys e = e
cons_cond false false n m xs ys e = e

pub places_more : (key : List ℕ) (slots : List (Option Waiting)) (w : Waiting) (at end : ℕ) → end ≡ at + length slots
    → places_on key at (slots ++ Some w ∷ []) ≡ cond (same_bytes w.key key) (places_on key at slots ++ end ∷ []) (places_on key at slots)
places_more key [] w at end e = by_key (same_bytes w.key key)
  where
    same : at ≡ end
    same = omega (arith, e)

    by_key : (b : Bool) → cond b (at ∷ []) [] ≡ cond b (end ∷ []) []
    by_key b = ap (λ (n : ℕ). cond b (n ∷ []) []) same
places_more key (None ∷ slots) w at end e = places_more key slots w (at + 1) end (omega (arith, e))
places_more key (Some v ∷ slots) w at end e =
    cons_cond (same_bytes v.key key) (same_bytes w.key key) at end _ (places_on key (at + 1) slots) (places_more key slots w (at + 1) end (omega (arith, e)))

-- ## The first call on a key

-- the slot at place i, which is i slots behind `at`, has the running call of the key
pub record IsRunning (key : List ℕ) (slots : List (Option Waiting)) (at place : ℕ) : Type 0 where
  pub index : ℕ
  pub is : place ≡ at + index
  pub within : index < length slots
  pub call : (d : Option Waiting) → slice_index_or slots index d ≡ running key (present slots)
  pub rest : present (slice_set slots index None) ≡ without_running key (present slots)
  pub less : length (present slots) ≡ length (present (slice_set slots index None)) + 1
  pub places : (k : List ℕ) → places_on k at (slice_set slots index None) ≡ cond (same_bytes key k) (rest_of (places_on k at slots)) (places_on k at slots)

-- no call on the key
pub none_running : (key : List ℕ) (slots : List (Option Waiting)) (at : ℕ) → places_on key at slots ≡ [] → (running key (present slots) ≡ None) × (without_running key (present slots) ≡ present slots)
none_running key [] at e = (refl, refl)
none_running key (None ∷ slots) at e = none_running key slots (at + 1) e
none_running key (Some w ∷ slots) at e = by_key (same_bytes w.key key) e (none_running key slots (at + 1))
  where
    by_key : (b : Bool) → cond b (at ∷ places_on key (at + 1) slots) (places_on key (at + 1) slots) ≡ []
        → (places_on key (at + 1) slots ≡ [] → (running key (present slots) ≡ None) × (without_running key (present slots) ≡ present slots))
        → (cond b (Some w) (running key (present slots)) ≡ None) × (cond b (present slots) (w ∷ without_running key (present slots)) ≡ w ∷ present slots)
    by_key true h later = absurd cc
    by_key false h later = ((later h).0, ap (λ (ws : List Waiting). w ∷ ws) (later h).1)

one_behind : (m n : ℕ) → m ≡ n + 1 → suc m ≡ suc n + 1
one_behind m n e = omega (arith, e)

both_false : (key k xs : List ℕ) → same_bytes xs key ≡ false → same_bytes key k ≡ true → same_bytes xs k ≡ false
both_false key k xs off on = subst (λ (q : List ℕ). same_bytes xs q ≡ false) (bytes_same key k on) off

behind_none : (key : List ℕ) (slots : List (Option Waiting)) (at place : ℕ) → IsRunning key slots (at + 1) place → IsRunning key (None ∷ slots) at place
behind_none key slots at place r = record {
  index = suc r.index;
  is = omega (arith, r.is);
  within = omega (arith, r.within);
  call = r.call;
  rest = r.rest;
  less = r.less;
  places = r.places;
}

module _ (key : List ℕ) (w : Waiting) (slots : List (Option Waiting)) (at : ℕ) where
  -- the places of a key after the first slot was emptied
  emptied : same_bytes w.key key ≡ true → (k : List ℕ) (p : List ℕ) → p ≡ cond (same_bytes key k) (rest_of (cond (same_bytes w.key k) (at ∷ p) p)) (cond (same_bytes w.key k) (at ∷ p) p)
  emptied on k p = subst (λ (q : List ℕ). p ≡ cond (same_bytes key k) (rest_of (cond (same_bytes q k) (at ∷ p) p)) (cond (same_bytes q k) (at ∷ p) p)) (sym (bytes_same w.key key on)) (by_key (same_bytes key k))
    where
      by_key : (b : Bool) → p ≡ cond b (rest_of (cond b (at ∷ p) p)) (cond b (at ∷ p) p)
      by_key true = refl
      by_key false = refl

  -- the places of a key after a later slot was emptied
  kept : same_bytes w.key key ≡ false → (k : List ℕ) (p q : List ℕ) → q ≡ cond (same_bytes key k) (rest_of p) p
      → cond (same_bytes w.key k) (at ∷ q) q ≡ cond (same_bytes key k) (rest_of (cond (same_bytes w.key k) (at ∷ p) p)) (cond (same_bytes w.key k) (at ∷ p) p)
  kept off k p q e = by_key (same_bytes key k) refl e
    where
      by_key : (b : Bool) → same_bytes key k ≡ b → q ≡ cond b (rest_of p) p
          → cond (same_bytes w.key k) (at ∷ q) q ≡ cond b (rest_of (cond (same_bytes w.key k) (at ∷ p) p)) (cond (same_bytes w.key k) (at ∷ p) p)
      by_key true on h = rw (both_false key k w.key off on) h
      by_key false on h = ap (λ (l : List ℕ). cond (same_bytes w.key k) (at ∷ l) l) h

  behind_call : (place : ℕ) → same_bytes w.key key ≡ false → IsRunning key slots (at + 1) place → IsRunning key (Some w ∷ slots) at place
  behind_call place off r = record {
    index = suc r.index;
    is = omega (arith, r.is);
    within = omega (arith, r.within);
    call = λ d. rw off (r.call d);
    rest = rw off (ap (λ (ws : List Waiting). w ∷ ws) r.rest);
    less = one_behind (length (present slots)) _ r.less;
    places = λ k. kept off k (places_on k (at + 1) slots) _ (r.places k);
  }

  at_call : same_bytes w.key key ≡ true → IsRunning key (Some w ∷ slots) at at
  at_call on = record {
    index = zero;
    is = omega arith;
    within = omega arith;
    call = λ d. rw on refl;
    rest = rw on refl;
    less = suc-eq-add-one (length (present slots));
    places = λ k. emptied on k (places_on k (at + 1) slots);
  }

same_place : (m n : ℕ) → Some n ≡ Some m → m ≡ n
same_place m n e = cc

pub first_running : (key : List ℕ) (slots : List (Option Waiting)) (at place : ℕ) → Some place ≡ first_of (places_on key at slots) → IsRunning key slots at place
first_running key [] at place h = absurd cc
first_running key (None ∷ slots) at place h = behind_none key slots at place (first_running key slots (at + 1) place h)
first_running key (Some w ∷ slots) at place h = by_key (same_bytes w.key key) refl h (first_running key slots (at + 1) place)
  where
    by_key : (b : Bool) → same_bytes w.key key ≡ b → Some place ≡ first_of (cond b (at ∷ places_on key (at + 1) slots) (places_on key (at + 1) slots))
        → (Some place ≡ first_of (places_on key (at + 1) slots) → IsRunning key slots (at + 1) place) → IsRunning key (Some w ∷ slots) at place
    by_key true on e later = subst (IsRunning key (Some w ∷ slots) at) (same_place at place e) (at_call key w slots at on)
    by_key false off e later = behind_call key w slots at place off (later e)

-- ## Ages

pub present_older : (slots : List (Option Waiting)) → present (map (option_map older) slots) ≡ map older (present slots)
present_older [] = refl
present_older (None ∷ slots) = present_older slots
present_older (Some w ∷ slots) = ap (λ (ws : List Waiting). older w ∷ ws) (present_older slots)

pub places_older : (key : List ℕ) (slots : List (Option Waiting)) (at : ℕ) → places_on key at (map (option_map older) slots) ≡ places_on key at slots
places_older key [] at = refl
places_older key (None ∷ slots) at = places_older key slots (at + 1)
places_older key (Some w ∷ slots) at = ap (λ (ns : List ℕ). cond (same_bytes w.key key) (at ∷ ns) ns) (places_older key slots (at + 1))

pub present_not_due : (slots : List (Option Waiting)) → present (map unless_due slots) ≡ not_due (present slots)
present_not_due [] = refl
present_not_due (None ∷ slots) = present_not_due slots
present_not_due (Some w ∷ slots) = by_age (is_due w) refl (present_not_due slots)
  where
    by_age : (b : Bool) → is_due w ≡ b → present (map unless_due slots) ≡ not_due (present slots) → present (map unless_due (Some w ∷ slots)) ≡ not_due (w ∷ present slots)
    by_age true due e = rw due e
    by_age false due e = rw due (ap (λ (ws : List Waiting). w ∷ ws) e)

-- ## Running calls, by their places

module _ (key : List ℕ) (w : Waiting) (after : List (Option Waiting)) (on : same_bytes w.key key ≡ true) where
  -- a call is the running call of its key exactly if no call before it is on the key
  pub first_place : (before : List (Option Waiting)) (at place : ℕ) → place ≡ at + length before
      → first_is place (first_of (places_on key at (before ++ Some w ∷ after))) ≡ (waiting_on key (present before) == 0)
  first_place [] at place e = rw on (grind (arith, nat_tests))
  first_place (None ∷ before) at place e = first_place before (at + 1) place (omega (arith, e))
  first_place (Some v ∷ before) at place e = by_key (same_bytes v.key key) (first_place before (at + 1) place (omega (arith, e)))
    where
      apart : (eqb at place) ≡ false
      apart = grind (arith, nat_tests)

      not_none : (n : ℕ) → eqb (n + 1) 0 ≡ false
      not_none n = grind (arith, nat_tests)

      later : List ℕ
      later = places_on key (at + 1) (before ++ Some w ∷ after)

      by_key : (b : Bool) → first_is place (first_of later) ≡ (waiting_on key (present before) == 0)
          → first_is place (first_of (cond b (at ∷ later) later)) ≡ (cond b (waiting_on key (present before) + 1) (waiting_on key (present before)) == 0)
      by_key true h = apart ∙ sym (not_none (waiting_on key (present before)))
      by_key false h = h

present_none : (slots : List (Option Waiting)) → present (slots ++ None ∷ []) ≡ present slots
present_none [] = refl
present_none (None ∷ slots) = present_none slots
present_none (Some v ∷ slots) = ap (λ (ws : List Waiting). v ∷ ws) (present_none slots)

module _ (p : Places) (before after : List (Option Waiting)) where
  module _ (w : Waiting) (of : AreOf (before ++ Some w ∷ after) p) where
    is_running : is_first p w.key (length before) ≡ (waiting_on w.key (present before) == 0)
    is_running = ap (λ (ns : List ℕ). first_is (length before) (first_of ns)) (of w.key) ∙ first_place w.key w after (bytes_itself w.key) before 0 (length before) (omega arith)

    key_same : key_if (is_first p w.key (length before)) w.key ≡ key_if_running (present before) w
    key_same = ap (λ (b : Bool). key_if b w.key) is_running ∙ as_test (waiting_on w.key (present before) == 0)
      where
        as_test : (b : Bool) → key_if b w.key ≡ cond b (Some w.key) None
        as_test true = refl
        as_test false = refl

  -- the slot between `before` and `after`, and whether it is due
  pub due_step : (s : Option Waiting) → AreOf (before ++ s ∷ after) p → due_after (present before) (present (s ∷ after)) ≡ due_at p (length before) s ++ due_after (present (before ++ s ∷ [])) (present after)
  due_step None of = ap (λ (ws : List Waiting). due_after ws (present after)) (sym (present_none before))
  due_step (Some w) of = rw (present_more before w, key_same w of) (by_age (is_due w) (record { from = w.from; id = w.id; running = key_if_running (present before) w }) (due_after (present before ++ w ∷ []) (present after)))
    where
      by_age : (b : Bool) (d : DueCall) (ds : List DueCall) → cond b (d ∷ ds) ds ≡ cond b (d ∷ []) [] ++ ds
      by_age true d ds = refl
      by_age false d ds = refl

  pub late_step : (rows : Rows) (s : Option Waiting) → AreOf (before ++ s ∷ after) p
      → late_put_after rows (present before) (present (s ∷ after)) ≡ (late_at rows p (length before) s || late_put_after rows (present (before ++ s ∷ [])) (present after))
  late_step rows None of = ap (λ (ws : List Waiting). late_put_after rows ws (present after)) (sym (present_none before))
  late_step rows (Some w) of = rw (present_more before w, is_running w of) refl

-- the slot at place i, between those before and those behind
record IsAt (slots : List (Option Waiting)) (i : ℕ) (s : Option Waiting) : Type 0 where
  from : drop i slots ≡ s ∷ drop (i + 1) slots
  up_to : take (i + 1) slots ≡ take i slots ++ s ∷ []
  count : length (take i slots) ≡ i
  whole : take i slots ++ s ∷ drop (i + 1) slots ≡ slots

at_index : (slots : List (Option Waiting)) (i : ℕ) (s : Option Waiting) → i < length slots → s ≡ slice_index_or slots i s → IsAt slots i s
at_index slots i s within is =
    let same : suc i ≡ i + 1 = omega arith in
    let from : drop i slots ≡ s ∷ drop (i + 1) slots = drop-cons slots i s within ∙ ap (λ (x : Option Waiting). x ∷ drop (suc i) slots) (sym is) ∙ ap (λ (n : ℕ). s ∷ drop n slots) same in
    record {
      from = from;
      up_to = take-add i 1 slots ∙ ap (λ (l : List (Option Waiting)). take i slots ++ take 1 l) from;
      count = omega (arith, length-take i slots);
      whole = ap (λ (l : List (Option Waiting)). take i slots ++ l) (sym from) ∙ take-append-drop i slots;
    }

module _ (p : Places) (slots : List (Option Waiting)) (i : ℕ) (s : Option Waiting) (of : AreOf slots p) (within : i < length slots) (is : s ≡ slice_index_or slots i s) where
  place : IsAt slots i s
  place = at_index slots i s within is

  of_parts : AreOf (take i slots ++ s ∷ drop (i + 1) slots) p
  of_parts = subst (λ (l : List (Option Waiting)). AreOf l p) (sym place.whole) of

  pub due_next : due_after (present (take i slots)) (present (drop i slots)) ≡ due_at p i s ++ due_after (present (take (i + 1) slots)) (present (drop (i + 1) slots))
  due_next =
      ap (λ (l : List (Option Waiting)). due_after (present (take i slots)) (present l)) place.from
      ∙ due_step p (take i slots) (drop (i + 1) slots) s of_parts
      ∙ ap (λ (n : ℕ). due_at p n s ++ due_after (present (take i slots ++ s ∷ [])) (present (drop (i + 1) slots))) place.count
      ∙ ap (λ (l : List (Option Waiting)). due_at p i s ++ due_after (present l) (present (drop (i + 1) slots))) (sym place.up_to)

  pub late_next : (rows : Rows) → late_put_after rows (present (take i slots)) (present (drop i slots)) ≡ (late_at rows p i s || late_put_after rows (present (take (i + 1) slots)) (present (drop (i + 1) slots)))
  late_next rows =
      ap (λ (l : List (Option Waiting)). late_put_after rows (present (take i slots)) (present l)) place.from
      ∙ late_step p (take i slots) (drop (i + 1) slots) rows s of_parts
      ∙ ap (λ (n : ℕ). late_at rows p n s || late_put_after rows (present (take i slots ++ s ∷ [])) (present (drop (i + 1) slots))) place.count
      ∙ ap (λ (l : List (Option Waiting)). late_at rows p i s || late_put_after rows (present l) (present (drop (i + 1) slots))) (sym place.up_to)

-- ## What is kept

pub none_first : (xs : List ℕ) → None ≡ first_of xs → xs ≡ []
none_first [] h = refl
none_first (x ∷ xs) h = absurd cc

-- the slot at this place has the running call of the key
pub record IsFirst (key : List ℕ) (slots : List (Option Waiting)) (place : ℕ) : Type 0 where
  pub within : place < length slots
  pub call : (d : Option Waiting) → slice_index_or slots place d ≡ running key (present slots)
  pub rest : present (slice_set slots place None) ≡ without_running key (present slots)
  pub less : length (present slots) ≡ length (present (slice_set slots place None)) + 1
  pub places : (k : List ℕ) → places_on k 0 (slice_set slots place None) ≡ cond (same_bytes key k) (rest_of (places_on k 0 slots)) (places_on k 0 slots)

pub first_kept : (key : List ℕ) (slots : List (Option Waiting)) (p : Places) (place : ℕ) → AreOf slots p → Some place ≡ first_of (places_at p key) → IsFirst key slots place
first_kept key slots p place of e =
    let r = first_running key slots 0 place (e ∙ ap first_of (of key)) in
    let same : r.index ≡ place = omega (arith, r.is) in
    subst (IsFirst key slots) same (record { within = r.within; call = r.call; rest = r.rest; less = r.less; places = r.places })

pub none_kept : (key : List ℕ) (slots : List (Option Waiting)) (p : Places) → AreOf slots p → None ≡ first_of (places_at p key) → (running key (present slots) ≡ None) × (without_running key (present slots) ≡ present slots)
none_kept key slots p of e = none_running key slots 0 (sym (of key) ∙ none_first (places_at p key) e)

pub kept_taken : (key : List ℕ) (slots : List (Option Waiting)) (p q : Places) (n place : ℕ) (slot : Option Waiting) → AreKept slots p n → IsFirst key slots place → slot ≡ None
    → ((k : List ℕ) → places_at q k ≡ cond (same_bytes key k) (rest_of (places_at p k)) (places_at p k)) → AreKept (slice_set slots place slot) q (n - 1)
kept_taken key slots p q n place slot kept first empty changed = subst (λ (s : Option Waiting). AreKept (slice_set slots place s) q (n - 1)) (sym empty) (record {
  places = λ k. changed k ∙ ap (λ (ns : List ℕ). cond (same_bytes key k) (rest_of ns) ns) (kept.places k) ∙ sym (first.places k);
  count = omega (arith, kept.count, first.less);
})

pub kept_pushed : (slots more : List (Option Waiting)) (p q : Places) (n end : ℕ) (w : Waiting) (copy : List ℕ) → AreKept slots p n → more ≡ slots ++ Some w ∷ [] → end ≡ length slots → copy ≡ w.key
    → ((k : List ℕ) → places_at q k ≡ cond (same_bytes copy k) (places_at p k ++ end ∷ []) (places_at p k)) → AreKept more q (n + 1)
kept_pushed slots more p q n end w copy kept pushed last same changed = subst (λ (l : List (Option Waiting)). AreKept l q (n + 1)) (sym pushed) (record {
  places = λ k. changed k ∙ ap (λ (c : List ℕ). cond (same_bytes c k) (places_at p k ++ end ∷ []) (places_at p k)) same ∙ ap (λ (ns : List ℕ). cond (same_bytes w.key k) (ns ++ end ∷ []) ns) (kept.places k) ∙ sym (places_more k slots w 0 end (omega (arith, last)));
  count = omega (arith, kept.count, ap length (present_more slots w), length-append (present slots) (w ∷ []));
})

pub length_older : (slots : List (Option Waiting)) → length (map (option_map older) slots) ≡ length slots
length_older slots = length-map slots (option_map older)

pub older_kept : (slots : List (Option Waiting)) (p : Places) (n : ℕ) → AreKept slots p n → AreKept (map (option_map older) slots) p n
older_kept slots p n kept = record {
  places = λ k. kept.places k ∙ sym (places_older k slots 0);
  count = kept.count ∙ sym (ap length (present_older slots) ∙ length-map (present slots) older);
}

pub length_unless_due : (slots : List (Option Waiting)) → length (map unless_due slots) ≡ length slots
length_unless_due slots = length-map slots unless_due

pub copied_now : (o : Option (Bor Waiting)) → option_copied o ≡ option_map (λ w. w.now) o
copied_now None = refl
copied_now (Some w) = refl

-- a list that was written over as a whole
pub written_over : (n : ℕ) (xs ys : List (Option Waiting)) → n ≡ length xs → length ys ≡ length xs → take n (ys ++ drop (length ys) xs) ≡ ys
written_over n xs ys long same = take-append-le n ys (drop (length ys) xs) (omega (arith, long, same)) ∙ take_all n ys (omega (arith, long, same))

pub present_split : (s : Option Waiting) (slots : List (Option Waiting)) → present (s ∷ slots) ≡ present (s ∷ []) ++ present slots
present_split None slots = refl
present_split (Some w) slots = refl
