-- Numbers that ascend, some of them more than once.
use Rattle.std.proofs.Common.{◌≡◌, ◌≢◌, ℕ, zero, suc, ◌+◌, ◌-◌, ◌<◌, ◌≤◌, Bool, true, false, cond, List, [], ◌∷◌, length, get_or, drop, refl, ap, sym, ◌∙◌, subst, arith, lt_of_not-le}
use Rattle.std.specs.Prelude.{◌==◌, ◌||◌, nat_eq, filter}
use Rattle.std.specs.List.{dedup, dedup_from}
use Rattle.std.specs.List.Sorted.{IsNonDecreasing}
use Rattle.std.proofs.lemmas.Bool.Decides.{nat_tests}
use Rattle.std.proofs.lemmas.Bool.{ne_eqb, eq-eqb}
use Rattle.synctree.specs.Maps.{each_of}
use Rattle.tree_repair.specs.Runs.{IsRun, Ends}

-- ## Number by number

-- no number is below the one before it, and the first is not below lo
abbrev pub Rises : ℕ → List ℕ → Type 0
Rises lo [] = Unit {0}
Rises lo (x ∷ xs) = (lo ≤ x) × Rises x xs

-- each number is above the one before it, and the first is not below lo
abbrev pub Climbs : ℕ → List ℕ → Type 0
Climbs lo [] = Unit {0}
Climbs lo (x ∷ xs) = (lo ≤ x) × Climbs (suc x) xs

abbrev pub AreBelow : ℕ → List ℕ → Type 0
AreBelow n [] = Unit {0}
AreBelow n (x ∷ xs) = (x < n) × AreBelow n xs

-- whether the list has the number
abbrev pub has : ℕ → List ℕ → Bool
has r [] = false
has r (x ∷ xs) = (x == r) || has r xs

pub rises_of : (lo : ℕ) (xs : List ℕ) → ((d : ℕ) → 0 < length xs → lo ≤ get_or xs 0 d) → IsNonDecreasing xs → Rises lo xs
rises_of lo [] l h = tt
rises_of lo (x ∷ xs) l h = (l 0 (omega arith), rises_of x xs (λ d some. h 0 1 d (omega arith) (omega arith)) (λ i j d a b. h (suc i) (suc j) d (omega arith) (omega arith)))

first_least : (lo : ℕ) (xs : List ℕ) (j d : ℕ) → Rises lo xs → j < length xs → lo ≤ get_or xs j d
first_least lo [] j d r b = absurd (omega arith)
first_least lo (x ∷ xs) zero d r b = r.0
first_least lo (x ∷ xs) (suc j) d r b = let more : x ≤ get_or xs j d = first_least x xs j d r.1 (omega arith) in omega (arith, r.0)

pub non_decreasing_of : (lo : ℕ) (xs : List ℕ) → Rises lo xs → IsNonDecreasing xs
non_decreasing_of lo [] r i j d a b = absurd (omega arith)
non_decreasing_of lo (x ∷ xs) r zero zero d a b = omega arith
non_decreasing_of lo (x ∷ xs) r zero (suc j) d a b = first_least x xs j d r.1 (omega arith)
non_decreasing_of lo (x ∷ xs) r (suc i) zero d a b = absurd (omega arith)
non_decreasing_of lo (x ∷ xs) r (suc i) (suc j) d a b = non_decreasing_of x xs r.1 i j d (omega arith) (omega arith)

climbs_lower : (a b : ℕ) (xs : List ℕ) → b ≤ a → Climbs a xs → Climbs b xs
climbs_lower a b [] l c = tt
climbs_lower a b (x ∷ xs) l c = (omega (arith, c.0), c.1)

below_of : (n : ℕ) (xs : List ℕ) → ((r : ℕ) → has r xs ≡ true → r < n) → AreBelow n xs
below_of n [] h = tt
below_of n (x ∷ xs) h = (h x (ap (λ (b : Bool). b || has x xs) (eq-eqb x x refl)), below_of n xs (λ r e. h r (later (x == r) (has r xs) e)))
  where
    later : (a b : Bool) → b ≡ true → (a || b) ≡ true
    later true b e = refl
    later false b e = e

pub has_at : (xs : List ℕ) (j : ℕ) → j < length xs → has (get_or xs j 0) xs ≡ true
has_at [] j l = absurd (omega arith)
has_at (x ∷ xs) zero l = ap (λ (b : Bool). b || has x xs) (eq-eqb x x refl)
has_at (x ∷ xs) (suc j) l = later (x == get_or xs j 0) (has (get_or xs j 0) xs) (has_at xs j (omega arith))
  where
    later : (a b : Bool) → b ≡ true → (a || b) ≡ true
    later true b e = refl
    later false b e = e

-- ## Each number once

climbs_dedup : (k : ℕ) (xs : List ℕ) → Rises k xs → Climbs k (dedup_from nat_eq k xs)
climbs_dedup k [] r = (omega arith, tt)
climbs_dedup k (x ∷ xs) r = by (x == k) refl (climbs_dedup k xs) (climbs_dedup x xs r.1)
  where
    by : (b : Bool) → (x == k) ≡ b → (Rises k xs → Climbs k (dedup_from nat_eq k xs)) → Climbs x (dedup_from nat_eq x xs) → Climbs k (cond b (dedup_from nat_eq k xs) (k ∷ dedup_from nat_eq x xs))
    by true e same other = let is : x ≡ k = grind (arith, nat_tests) in same (subst (λ (n : ℕ). Rises n xs) is r.1)
    by false e same other = let above : k < x = grind (arith, nat_tests, r.0) in (omega arith, climbs_lower x (suc k) (dedup_from nat_eq x xs) above other)

has_dedup_from : (r k : ℕ) (xs : List ℕ) → has r (dedup_from nat_eq k xs) ≡ has r (k ∷ xs)
has_dedup_from r k [] = refl
has_dedup_from r k (x ∷ xs) = by (x == k) refl (has_dedup_from r k xs) (has_dedup_from r x xs)
  where
    twice : (a b : Bool) → (a || b) ≡ (a || (a || b))
    twice true b = refl
    twice false b = refl

    by : (b : Bool) → (x == k) ≡ b → has r (dedup_from nat_eq k xs) ≡ has r (k ∷ xs) → has r (dedup_from nat_eq x xs) ≡ has r (x ∷ xs) → has r (cond b (dedup_from nat_eq k xs) (k ∷ dedup_from nat_eq x xs)) ≡ has r (k ∷ x ∷ xs)
    by true e same other = let is : x ≡ k = grind (arith, nat_tests) in same ∙ twice (k == r) (has r xs) ∙ ap (λ (n : ℕ). (k == r) || ((n == r) || has r xs)) (sym is)
    by false e same other = ap (λ (b : Bool). (k == r) || b) other

has_dedup : (r : ℕ) (xs : List ℕ) → has r (dedup nat_eq xs) ≡ has r xs
has_dedup r [] = refl
has_dedup r (x ∷ xs) = has_dedup_from r x xs

dedup_climbs : (xs : List ℕ) → Rises 0 xs → Climbs 0 (dedup nat_eq xs)
dedup_climbs [] r = tt
dedup_climbs (x ∷ xs) r = climbs_lower x 0 (dedup_from nat_eq x xs) (omega arith) (climbs_dedup x xs r.1)

below_dedup_from : (n k : ℕ) (xs : List ℕ) → k < n → AreBelow n xs → AreBelow n (dedup_from nat_eq k xs)
below_dedup_from n k [] l b = (l, tt)
below_dedup_from n k (x ∷ xs) l b = by (x == k) (below_dedup_from n k xs l b.1) (below_dedup_from n x xs b.0 b.1)
  where
    by : (t : Bool) → AreBelow n (dedup_from nat_eq k xs) → AreBelow n (dedup_from nat_eq x xs) → AreBelow n (cond t (dedup_from nat_eq k xs) (k ∷ dedup_from nat_eq x xs))
    by true same other = same
    by false same other = (l, other)

below_dedup : (n : ℕ) (xs : List ℕ) → AreBelow n xs → AreBelow n (dedup nat_eq xs)
below_dedup n [] b = tt
below_dedup n (x ∷ xs) b = below_dedup_from n x xs b.0 b.1

not_low : (r lo : ℕ) (xs : List ℕ) → r < lo → Climbs lo xs → has r xs ≡ false
not_low r lo [] l c = refl
not_low r lo (x ∷ xs) l c = let above : (x == r) ≡ false = ne_eqb x r (λ e. absurd (omega (arith, c.0))) in rw above (not_low r (suc x) xs (omega (arith, c.0)) c.1)

-- numbers that climb are the numbers from lo on that they have
listed : (t : ℕ → Bool) (n lo : ℕ) (xs : List ℕ) → Climbs lo xs → AreBelow (lo + n) xs → ((r : ℕ) → lo ≤ r → r < lo + n → t r ≡ has r xs) → filter t (each_of (λ i. i) n lo) ≡ xs
listed t zero lo [] c b h = refl
listed t zero lo (x ∷ xs) c b h = absurd (omega (arith, c.0, b.0))
listed t (suc n) lo [] c b h = let none : t lo ≡ false = h lo (omega arith) (omega arith) in rw none (listed t n (lo + 1) [] tt tt (λ r l u. h r (omega arith) (omega arith)))
listed t (suc n) lo (x ∷ xs) c b h = by (x == lo) refl (listed t n (lo + 1) xs) (listed t n (lo + 1) (x ∷ xs))
  where
    sum : (lo + 1) + n ≡ lo + suc n
    sum = omega arith

    by : (b : Bool) → (x == lo) ≡ b
        → (Climbs (lo + 1) xs → AreBelow ((lo + 1) + n) xs → ((r : ℕ) → lo + 1 ≤ r → r < (lo + 1) + n → t r ≡ has r xs) → filter t (each_of (λ i. i) n (lo + 1)) ≡ xs)
        → (Climbs (lo + 1) (x ∷ xs) → AreBelow ((lo + 1) + n) (x ∷ xs) → ((r : ℕ) → lo + 1 ≤ r → r < (lo + 1) + n → t r ≡ has r (x ∷ xs)) → filter t (each_of (λ i. i) n (lo + 1)) ≡ x ∷ xs)
        → cond (t lo) (lo ∷ filter t (each_of (λ i. i) n (lo + 1))) (filter t (each_of (λ i. i) n (lo + 1))) ≡ x ∷ xs
    by true e first later =
        let is : x ≡ lo = grind (arith, nat_tests) in
        let there : t lo ≡ true = h lo (omega arith) (omega arith) ∙ ap (λ (a : Bool). a || has lo xs) e in
        let next : suc x ≡ lo + 1 = omega arith in
        let rest : filter t (each_of (λ i. i) n (lo + 1)) ≡ xs = first (subst (λ (a : ℕ). Climbs a xs) next c.1) (subst (λ (a : ℕ). AreBelow a xs) (sym sum) b.1)
        (λ r l u. h r (omega arith) (omega arith) ∙ ap (λ (a : Bool). a || has r xs) (ne_eqb x r (λ s. absurd (omega arith)))) in
        ap (λ (a : Bool). cond a (lo ∷ filter t (each_of (λ i. i) n (lo + 1))) (filter t (each_of (λ i. i) n (lo + 1)))) there ∙ (λ i. sym is i ∷ rest i)
    by false e first later =
        let above : lo < x = grind (arith, nat_tests, c.0) in
        let none : t lo ≡ false = h lo (omega arith) (omega arith) ∙ not_low lo x (x ∷ xs) above (omega arith, c.1) in
        ap (λ (a : Bool). cond a (lo ∷ filter t (each_of (λ i. i) n (lo + 1))) (filter t (each_of (λ i. i) n (lo + 1)))) none
        ∙ later (omega arith, c.1) (subst (λ (a : ℕ). AreBelow a (x ∷ xs)) (sym sum) b) (λ r l u. h r (omega arith) (omega arith))

-- the numbers of an ascending list, each once, are the numbers below n that pass a test, if the list has
-- exactly these
pub each_once : (t : ℕ → Bool) (n : ℕ) (xs : List ℕ) → IsNonDecreasing xs → ((r : ℕ) → has r xs ≡ true → r < n) → ((r : ℕ) → r < n → t r ≡ has r xs) → dedup nat_eq xs ≡ filter t (each_of (λ i. i) n 0)
each_once t n xs up b h = sym (listed t n 0 (dedup nat_eq xs) (dedup_climbs xs (rises_of 0 xs (λ d some. omega arith) up)) (subst (λ (a : ℕ). AreBelow a (dedup nat_eq xs)) zeros (below_dedup n xs (below_of n xs b))) (λ r l u. h r (omega arith) ∙ sym (has_dedup r xs)))
  where
    zeros : n ≡ 0 + n
    zeros = omega arith

-- ## Runs

dedup_run_from : (k : ℕ) (xs : List ℕ) (n : ℕ) → n ≤ length xs → ((j : ℕ) → j < n → get_or xs j 0 ≡ k) → (n < length xs → get_or xs n 0 ≢ k) → dedup_from nat_eq k xs ≡ k ∷ dedup nat_eq (drop n xs)
dedup_run_from k [] zero l same other = refl
dedup_run_from k [] (suc n) l same other = absurd (omega arith)
dedup_run_from k (x ∷ xs) zero l same other = let new : (x == k) ≡ false = ne_eqb x k (other (omega arith)) in rw new refl
dedup_run_from k (x ∷ xs) (suc n) l same other = let old : (x == k) ≡ true = eq-eqb x k (same 0 (omega arith)) in rw old (dedup_run_from k xs n (omega arith) (λ j b. same (suc j) (omega arith)) (λ b. other (omega arith)))

-- a run at the front
dedup_run : (xs : List ℕ) (x n : ℕ) → 0 < n → n ≤ length xs → ((j : ℕ) → j < n → get_or xs j 0 ≡ x) → (n < length xs → get_or xs n 0 ≢ x) → dedup nat_eq xs ≡ x ∷ dedup nat_eq (drop n xs)
dedup_run [] x n some l same other = absurd (omega arith)
dedup_run (y ∷ xs) x zero some l same other = absurd (omega arith)
dedup_run (y ∷ xs) x (suc n) some l same other = ap (λ (k : ℕ). dedup_from nat_eq k xs) (same 0 (omega arith)) ∙ dedup_run_from x xs n (omega arith) (λ j b. same (suc j) (omega arith)) (λ b. other (omega arith))

get_drop_at : (xs : List ℕ) (s j d : ℕ) → get_or (drop s xs) j d ≡ get_or xs (s + j) d
get_drop_at xs zero j d = let at : 0 + j ≡ j = omega arith in ap (λ (i : ℕ). get_or xs i d) (sym at)
get_drop_at [] (suc s) j d = empty (s + j) ∙ ap (λ (i : ℕ). get_or [] i d) at
  where
    at : suc (s + j) ≡ suc s + j
    at = omega arith

    empty : (i : ℕ) → get_or [] j d ≡ get_or [] (suc i) d
    empty i = by j
      where
        by : (k : ℕ) → get_or [] k d ≡ d
        by zero = refl
        by (suc k) = refl
get_drop_at (x ∷ xs) (suc s) j d = let at : suc (s + j) ≡ suc s + j = omega arith in get_drop_at xs s j d ∙ ap (λ (i : ℕ). get_or (x ∷ xs) i d) at

length_drop_at : (xs : List ℕ) (s : ℕ) → length (drop s xs) ≡ length xs - s
length_drop_at xs zero = omega arith
length_drop_at [] (suc s) = omega arith
length_drop_at (x ∷ xs) (suc s) = let rest : length (drop s xs) ≡ length xs - s = length_drop_at xs s in rest ∙ omega arith

drop_twice : (xs : List ℕ) (s n e : ℕ) → s + n ≡ e → drop n (drop s xs) ≡ drop e xs
drop_twice xs zero n e is = let at : n ≡ e = omega arith in ap (λ (i : ℕ). drop i xs) at
drop_twice [] (suc s) n e is = none n ∙ sym (none e)
  where
    none : (i : ℕ) → drop {A = ℕ} i [] ≡ []
    none zero = refl
    none (suc i) = refl
drop_twice (x ∷ xs) (suc s) n zero is = absurd (omega arith)
drop_twice (x ∷ xs) (suc s) n (suc e) is = drop_twice xs s n e (omega arith)

-- the run that begins at a place
pub run_next : (xs : List ℕ) (s e x : ℕ) → s < e → e ≤ length xs → ((j : ℕ) → s ≤ j → j < e → get_or xs j 0 ≡ x) → (e < length xs → get_or xs e 0 ≢ x) → dedup nat_eq (drop s xs) ≡ x ∷ dedup nat_eq (drop e xs)
run_next xs s e x some l same other = dedup_run (drop s xs) x (e - s) (omega arith) (omega (arith, length_drop_at xs s)) inside outside ∙ ap (λ (ys : List ℕ). x ∷ dedup nat_eq ys) (drop_twice xs s (e - s) e (omega arith))
  where
    inside : (j : ℕ) → j < e - s → get_or (drop s xs) j 0 ≡ x
    inside j b = get_drop_at xs s j 0 ∙ same (s + j) (omega arith) (omega arith)

    outside : e - s < length (drop s xs) → get_or (drop s xs) (e - s) 0 ≢ x
    outside b at = let there : s + (e - s) ≡ e = omega arith in other (omega (arith, length_drop_at xs s)) (ap (λ (i : ℕ). get_or xs i 0) (sym there) ∙ sym (get_drop_at xs s (e - s) 0) ∙ at)

pub run_is : (xs : List ℕ) (s e : ℕ) → IsNonDecreasing xs → s < length xs → (0 < s → s < length xs → get_or xs (s - 1) 0 < get_or xs s 0) → Ends xs s e → IsRun xs (record { number = get_or xs s 0; start = s; end = e })
run_is xs s e up inside apart ends = record {
  some = ends.some;
  within = ends.within;
  inside = λ j a b. ends.same j a b;
  outside = λ j l is. (at_least j is, lt_of_not-le (λ (a : e ≤ j). let more : get_or xs s 0 < get_or xs j 0 = behind j a l in omega arith));
}
  where
    before : (j : ℕ) → j < s → get_or xs j 0 < get_or xs s 0
    before j b =
        let low : get_or xs j 0 ≤ get_or xs (s - 1) 0 = up j (s - 1) 0 (omega arith) (omega arith) in
        let step : get_or xs (s - 1) 0 < get_or xs s 0 = apart (omega arith) inside in omega arith

    at_least : (j : ℕ) → get_or xs j 0 ≡ get_or xs s 0 → s ≤ j
    at_least j is = let next : s < j + 1 = lt_of_not-le (λ (a : j + 1 ≤ s). let less : get_or xs j 0 < get_or xs s 0 = before j (omega arith) in omega arith) in omega arith

    behind : (j : ℕ) → e ≤ j → j < length xs → get_or xs s 0 < get_or xs j 0
    behind j b l =
        let far : get_or xs e 0 ≤ get_or xs j 0 = up e j 0 b l in
        let near : get_or xs s 0 ≤ get_or xs e 0 = up s e 0 (omega (arith, ends.some)) (omega arith) in
        let new : get_or xs e 0 ≢ get_or xs s 0 = ends.other (omega arith) in omega arith

-- between two runs the numbers are apart
pub runs_apart : (xs : List ℕ) (s e : ℕ) → IsNonDecreasing xs → Ends xs s e → 0 < e → e < length xs → get_or xs (e - 1) 0 < get_or xs e 0
runs_apart xs s e up ends some inside =
    let same : get_or xs (e - 1) 0 ≡ get_or xs s 0 = ends.same (e - 1) (omega (arith, ends.some)) (omega arith) in
    let step : get_or xs (e - 1) 0 ≤ get_or xs e 0 = up (e - 1) e 0 (omega arith) inside in
    let new : get_or xs e 0 ≢ get_or xs s 0 = ends.other inside in omega arith
