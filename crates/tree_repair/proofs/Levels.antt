-- The levels of a tree, each from the nodes of the level below that are there.
use Rattle.std.proofs.Common.{◌≡◌, ℕ, zero, suc, ◌+◌, ◌-◌, ◌*◌, ◌/◌, ◌%◌, ◌<◌, ◌≤◌, ◌^◌, Bool, true, false, cond, List, [], ◌∷◌, Option, None, Some, length, get_or, set, take, drop, map, replicate, refl, ap, sym, ◌∙◌, subst, arith, le-div_iff_mul-le, div-mul-le_self, mod-lt, length-take, length-drop, ◌++◌, add-one}
use Rattle.std.specs.Prelude.{◌==◌, ◌||◌, nat_eq, filter}
use Rattle.std.specs.Option.{is_some}
use Rattle.std.specs.List.{All, dedup}
use Rattle.std.specs.List.Sorted.{IsNonDecreasing}
use Rattle.std.proofs.Math.Nat.{div-add-mod}
use Rattle.std.proofs.lemmas.List.Elements.{All-from_get_or}
use Rattle.std.proofs.lemmas.Bool.Decides.{nat_tests}
use Rattle.std.proofs.lemmas.Bool.{ne_eqb, eq-eqb, or_right}
use native.Mathlib.Nat.{pow-suc, pow-zero}
use Rattle.md5.specs.Md5.{md5}
use Rattle.ens_base.specs.declared.entry.Entry.{Entry}
use Rattle.ens_base.proofs.Tests.{same_test}
use Rattle.tree_node.specs.declared.version.TreeVersion.{TreeVersion}
use Rattle.tree_node.specs.TreeVersions.{levels}
use Rattle.synctree.specs.Forms.{Form, Laws, root, child}
use Rattle.synctree.specs.Maps.{each_of, within, named, text, children}
use Rattle.synctree.specs.Paths.{under, present, node_of}
use Rattle.synctree.specs.Sixteen.{form_of}
use Rattle.synctree.proofs.Parts.{set-each, each-none}
use Rattle.synctree.proofs.Below.{under_child, every, some_width}
use Rattle.synctree.proofs.Formats.{form_laws}
use Rattle.synctree.proofs.Places.{width_is, depth_is}
use Rattle.tree_repair.specs.Hashers.{digest_if}
use Rattle.tree_repair.specs.Builds.{place, somes, level_of}
use Rattle.tree_repair.specs.Inner.{indexes_above, filled, filled_at, children_of}
use Rattle.tree_repair.specs.RepairLevels.{is_there, indexes_of, texts_of, names_of}
use Rattle.tree_repair.specs.Runs.{IsRun}
use Rattle.tree_repair.specs.declared.runs.Run.{Run}
use Rattle.tree_repair.proofs.Lists.{each_from, map_map, length_of_map}
use Rattle.tree_repair.proofs.Numbers.{Rises, has, has_at, each_once, non_decreasing_of}
use Rattle.tree_repair.proofs.Indexes.{quotient, remainder, child_below, parent_below}
use Rattle.tree_repair.proofs.Buckets.{has_items, shown_items, shown_text}

-- ## The numbers from lo on that pass a test

listed_low : (t : ℕ → Bool) (n lo r : ℕ) → r < lo → has r (filter t (each_of (λ i. i) n lo)) ≡ false
listed_low t zero lo r l = refl
listed_low t (suc n) lo r l = by (t lo) (listed_low t n (lo + 1) r (omega arith))
  where
    by : (b : Bool) → has r (filter t (each_of (λ i. i) n (lo + 1))) ≡ false → has r (cond b (lo ∷ filter t (each_of (λ i. i) n (lo + 1))) (filter t (each_of (λ i. i) n (lo + 1)))) ≡ false
    by true h = ap (λ (a : Bool). a || has r (filter t (each_of (λ i. i) n (lo + 1)))) (ne_eqb lo r (λ e. absurd (omega arith))) ∙ h
    by false h = h

has_listed : (t : ℕ → Bool) (n lo r : ℕ) → lo ≤ r → r < lo + n → has r (filter t (each_of (λ i. i) n lo)) ≡ t r
has_listed t zero lo r a b = absurd (omega arith)
has_listed t (suc n) lo r a b = by (lo == r) refl (t lo) refl (has_listed t n (lo + 1) r)
  where
    by : (e : Bool) → (lo == r) ≡ e → (b : Bool) → t lo ≡ b → (lo + 1 ≤ r → r < (lo + 1) + n → has r (filter t (each_of (λ i. i) n (lo + 1))) ≡ t r) → has r (cond b (lo ∷ filter t (each_of (λ i. i) n (lo + 1))) (filter t (each_of (λ i. i) n (lo + 1)))) ≡ t r
    by true is true at rest = let here : lo ≡ r = grind (arith, nat_tests) in ap (λ (x : Bool). x || has r (filter t (each_of (λ i. i) n (lo + 1)))) is ∙ sym at ∙ ap t here
    by true is false at rest = let here : lo ≡ r = grind (arith, nat_tests) in listed_low t n (lo + 1) r (omega arith) ∙ sym at ∙ ap t here
    by false is true at rest = let above : lo < r = grind (arith, nat_tests) in ap (λ (x : Bool). x || has r (filter t (each_of (λ i. i) n (lo + 1)))) is ∙ rest (omega arith) (omega arith)
    by false is false at rest = let above : lo < r = grind (arith, nat_tests) in rest (omega arith) (omega arith)

listed_below : (t : ℕ → Bool) (n lo r : ℕ) → has r (filter t (each_of (λ i. i) n lo)) ≡ true → r < lo + n
listed_below t zero lo r h = absurd cc
listed_below t (suc n) lo r h = by (t lo) (lo == r) refl (listed_below t n (lo + 1) r) h
  where
    by : (b e : Bool) → (lo == r) ≡ e → (has r (filter t (each_of (λ i. i) n (lo + 1))) ≡ true → r < (lo + 1) + n) → has r (cond b (lo ∷ filter t (each_of (λ i. i) n (lo + 1))) (filter t (each_of (λ i. i) n (lo + 1)))) ≡ true → r < lo + suc n
    by true true is rest k = let here : lo ≡ r = grind (arith, nat_tests) in omega arith
    by true false is rest k = let more : r < (lo + 1) + n = rest (sym (ap (λ (x : Bool). x || has r (filter t (each_of (λ i. i) n (lo + 1)))) is) ∙ k) in omega arith
    by false e is rest k = let more : r < (lo + 1) + n = rest k in omega arith

map_listed : {B : Type 0} (f g : ℕ → B) (t : ℕ → Bool) (n lo : ℕ) → ((r : ℕ) → lo ≤ r → r < lo + n → t r ≡ true → f r ≡ g r) → map f (filter t (each_of (λ i. i) n lo)) ≡ map g (filter t (each_of (λ i. i) n lo))
map_listed f g t zero lo h = refl
map_listed f g t (suc n) lo h = by (t lo) refl (map_listed f g t n (lo + 1) (λ r a b e. h r (omega arith) (omega arith) e))
  where
    by : (b : Bool) → t lo ≡ b → map f (filter t (each_of (λ i. i) n (lo + 1))) ≡ map g (filter t (each_of (λ i. i) n (lo + 1))) → map f (cond b (lo ∷ filter t (each_of (λ i. i) n (lo + 1))) (filter t (each_of (λ i. i) n (lo + 1)))) ≡ map g (cond b (lo ∷ filter t (each_of (λ i. i) n (lo + 1))) (filter t (each_of (λ i. i) n (lo + 1))))
    by true e rest = λ i. h lo (omega arith) (omega arith) e i ∷ rest i
    by false e rest = rest

div_rises : (w a b : ℕ) → 0 < w → a ≤ b → a / w ≤ b / w
div_rises w a b some l = (le-div_iff_mul-le {k = w} {x = a / w} {y = b} some).1 (omega (arith, div-mul-le_self a w))

rises_listed : (w : ℕ) → 0 < w → (t : ℕ → Bool) (n lo a : ℕ) → a ≤ lo → Rises (a / w) (map (λ i. i / w) (filter t (each_of (λ i. i) n lo)))
rises_listed w some t zero lo a l = tt
rises_listed w some t (suc n) lo a l = by (t lo) (rises_listed w some t n (lo + 1) lo (omega arith)) (rises_listed w some t n (lo + 1) a (omega arith))
  where
    by : (b : Bool) → Rises (lo / w) (map (λ i. i / w) (filter t (each_of (λ i. i) n (lo + 1)))) → Rises (a / w) (map (λ i. i / w) (filter t (each_of (λ i. i) n (lo + 1)))) → Rises (a / w) (map (λ i. i / w) (cond b (lo ∷ filter t (each_of (λ i. i) n (lo + 1))) (filter t (each_of (λ i. i) n (lo + 1)))))
    by true x y = (div_rises w a lo some l, x)
    by false x y = y

up_listed : (t : ℕ → Bool) (n lo a : ℕ) → a ≤ lo → Rises a (filter t (each_of (λ i. i) n lo))
up_listed t zero lo a l = tt
up_listed t (suc n) lo a l = by (t lo) (up_listed t n (lo + 1) lo (omega arith)) (up_listed t n (lo + 1) a (omega arith))
  where
    by : (b : Bool) → Rises lo (filter t (each_of (λ i. i) n (lo + 1))) → Rises a (filter t (each_of (λ i. i) n (lo + 1))) → Rises a (cond b (lo ∷ filter t (each_of (λ i. i) n (lo + 1))) (filter t (each_of (λ i. i) n (lo + 1))))
    by true x y = (l, x)
    by false x y = y

somes_listed : {A : Type 0} (f : ℕ → Option A) (n lo : ℕ) → somes (map f (filter (λ i. is_some (f i)) (each_of (λ i. i) n lo))) ≡ somes (each_of f n lo)
somes_listed f zero lo = refl
somes_listed {A = A} f (suc n) lo = by (f lo) refl (somes_listed f n (lo + 1))
  where
    rest : List ℕ
    rest = filter (λ i. is_some (f i)) (each_of (λ i. i) n (lo + 1))

    by : (o : Option A) → f lo ≡ o → somes (map f (filter (λ i. is_some (f i)) (each_of (λ i. i) n (lo + 1)))) ≡ somes (each_of f n (lo + 1))
        → somes (map f (cond (is_some (f lo)) (lo ∷ filter (λ i. is_some (f i)) (each_of (λ i. i) n (lo + 1))) (filter (λ i. is_some (f i)) (each_of (λ i. i) n (lo + 1))))) ≡ somes (f lo ∷ each_of f n (lo + 1))
    by None e h =
        ap (λ (o : Option A). somes (map f (cond (is_some o) (lo ∷ filter (λ i. is_some (f i)) (each_of (λ i. i) n (lo + 1))) (filter (λ i. is_some (f i)) (each_of (λ i. i) n (lo + 1)))))) e
        ∙ h ∙ sym (ap (λ (o : Option A). somes (o ∷ each_of f n (lo + 1))) e)
    by (Some x) e h =
        ap (λ (o : Option A). somes (map f (cond (is_some o) (lo ∷ filter (λ i. is_some (f i)) (each_of (λ i. i) n (lo + 1))) (filter (λ i. is_some (f i)) (each_of (λ i. i) n (lo + 1)))))) e
        ∙ ap (λ (o : Option A). somes (o ∷ map f (filter (λ i. is_some (f i)) (each_of (λ i. i) n (lo + 1))))) e
        ∙ ap (λ (xs : List A). x ∷ xs) h ∙ sym (ap (λ (o : Option A). somes (o ∷ each_of f n (lo + 1))) e)

-- ## Nodes and the nodes above them

has_above : (w : ℕ) (js : List ℕ) (j : ℕ) → has j js ≡ true → has (j / w) (map (λ i. i / w) js) ≡ true
has_above w [] j h = absurd cc
has_above w (k ∷ js) j h = by (k == j) refl (has_above w js j) h
  where
    by : (b : Bool) → (k == j) ≡ b → (has j js ≡ true → has (j / w) (map (λ i. i / w) js) ≡ true) → (b || has j js) ≡ true → has (j / w) (map (λ i. i / w) (k ∷ js)) ≡ true
    by true e rest x = let is : k ≡ j = grind (arith, nat_tests) in ap (λ (a : Bool). a || has (j / w) (map (λ i. i / w) js)) (eq-eqb (k / w) (j / w) (ap (λ (i : ℕ). i / w) is))
    by false e rest x = or_right (k / w == j / w) (has (j / w) (map (λ i. i / w) js)) (rest x)

from_above : (w : ℕ) (js : List ℕ) (p : ℕ) → has p (map (λ i. i / w) js) ≡ true → (j : ℕ) × (has j js ≡ true) × (j / w ≡ p)
from_above w [] p h = absurd cc
from_above w (k ∷ js) p h = by (k / w == p) refl (from_above w js p) h
  where
    by : (b : Bool) → (k / w == p) ≡ b → (has p (map (λ i. i / w) js) ≡ true → (j : ℕ) × (has j js ≡ true) × (j / w ≡ p)) → (b || has p (map (λ i. i / w) js)) ≡ true → (j : ℕ) × (has j (k ∷ js) ≡ true) × (j / w ≡ p)
    by true e rest x = (k, ap (λ (a : Bool). a || has k js) (eq-eqb k k refl), grind (arith, nat_tests))
    by false e rest x = let at = rest x in (at.0, or_right (k == at.0) (has at.0 js) at.1, at.2)

-- the nodes of a run are the children of one node
run_part : (w p : ℕ) (is : List ℕ) (names cs : List (Option (List ℕ))) (s n : ℕ) → length names ≡ length is → s + n ≤ length is → ((j : ℕ) → s ≤ j → j < s + n → get_or (map (λ i. i / w) is) j 0 ≡ p) → ((j : ℕ) → j < length is → get_or (map (λ i. i / w) is) j 0 ≡ p → (s ≤ j) × (j < s + n))
    → filled w cs (take n (drop s is)) (take n (drop s names)) ≡ filled_at w p cs is names
run_part w p [] [] cs zero zero long b inside outside = refl
run_part w p [] [] cs zero (suc n) long b inside outside = absurd (omega arith)
run_part w p [] [] cs (suc s) n long b inside outside = absurd (omega arith)
run_part w p [] (x ∷ names) cs s n long b inside outside = absurd (omega arith)
run_part w p (i ∷ is) [] cs s n long b inside outside = absurd (omega arith)
run_part w p (i ∷ is) (x ∷ names) cs zero zero long b inside outside =
    let new : (i / w == p) ≡ false = ne_eqb (i / w) p (λ e. let at = outside 0 (omega arith) e in absurd (omega (arith, at.1))) in
    rw new (run_part w p is names cs zero zero (omega arith) (omega arith) (λ j u v. absurd (omega arith)) (λ j l e. let at = outside (suc j) (omega arith) e in absurd (omega (arith, at.1))))
run_part w p (i ∷ is) (x ∷ names) cs zero (suc n) long b inside outside =
    let old : (i / w == p) ≡ true = eq-eqb (i / w) p (inside 0 (omega arith) (omega arith)) in
    rw old (run_part w p is names (set cs (i % w) x) zero n (omega arith) (omega arith) (λ j u v. inside (suc j) (omega arith) (omega arith)) (λ j l e. let at = outside (suc j) (omega arith) e in (omega arith, omega (arith, at.1))))
run_part w p (i ∷ is) (x ∷ names) cs (suc s) n long b inside outside =
    let new : (i / w == p) ≡ false = ne_eqb (i / w) p (λ e. let at = outside 0 (omega arith) e in absurd (omega (arith, at.0))) in
    rw new (run_part w p is names cs s n (omega arith) (omega arith) (λ j u v. inside (suc j) (omega arith) (omega arith)) (λ j l e. let at = outside (suc j) (omega arith) e in (omega (arith, at.0), omega (arith, at.1))))

pub run_children : (w : ℕ) (is : List ℕ) (names : List (Option (List ℕ))) (r : Run) → length names ≡ length is → IsRun (map (λ i. i / w) is) r → filled w (replicate w None) (take (r.end - r.start) (drop r.start is)) (take (r.end - r.start) (drop r.start names)) ≡ children_of w r.number is names
run_children w is names r long run = run_part w r.number is names (replicate w None) r.start (r.end - r.start) long (omega (arith, sum, run.within, length_of_map (λ i. i / w) is)) (λ j a b. run.inside j a (omega (arith, sum))) (λ j l e. let at = run.outside j (omega (arith, length_of_map (λ i. i / w) is)) e in (at.0, omega (arith, sum, at.1)))
  where
    sum : r.start + (r.end - r.start) ≡ r.end
    sum = omega (arith, run.some)

-- all nodes of level 1 are children of the root
pub root_children : (is : List ℕ) (names cs : List (Option (List ℕ))) → length names ≡ length is → All (λ (i : ℕ). i < 16) is → filled 16 cs is names ≡ filled_at 16 0 cs is names
root_children [] names cs long h = refl
root_children (i ∷ is) [] cs long h = absurd (omega arith)
root_children (i ∷ is) (x ∷ names) cs long h = let old : (i / 16 == 0) ≡ true = eq-eqb (i / 16) 0 (low i (h 0 0 (omega arith))) in rw old (root_children is names (set cs (i % 16) x) (omega arith) (λ k d l. h (suc k) d (omega arith)))
  where
    low : (y : ℕ) → y < 16 → y / 16 ≡ 0
    low y l = omega arith

filled_listed : (w p : ℕ) → 0 < w → (g f : ℕ → Option (List ℕ)) (js : List ℕ) → filled_at w p (each_of f w 0) js (map g js) ≡ each_of (λ c. cond (has (w * p + c) js) (g (w * p + c)) (f c)) w 0
filled_listed w p some g f [] = refl
filled_listed w p some g f (j ∷ js) = by (j / w == p) refl (λ h. filled_listed w p some g h js)
  where
    sum : j / w ≡ p → w * p + j % w ≡ j
    sum e = ap (λ (q : ℕ). w * q + j % w) (sym e) ∙ div-add-mod j w

    first : set (each_of f w 0) (j % w) (g j) ≡ each_of (λ c. cond (c == j % w) (g j) (f c)) w 0
    first = set-each f (λ c. cond (c == j % w) (g j) (f c)) w 0 (j % w) (g j)
        (ap (λ (b : Bool). cond b (g j) (f (0 + j % w))) (eq-eqb (0 + j % w) (j % w) (omega arith)))
        (λ c a ne. sym (ap (λ (b : Bool). cond b (g j) (f c)) (ne_eqb c (j % w) (λ e. ne (omega arith)))))
        (mod-lt j some)

    agree : (e : j / w ≡ p) (c : ℕ) → cond (has (w * p + c) js) (g (w * p + c)) (cond (c == j % w) (g j) (f c)) ≡ cond ((j == w * p + c) || has (w * p + c) js) (g (w * p + c)) (f c)
    agree e c = pick (has (w * p + c) js) (c == j % w) refl
      where
        pick : (h b : Bool) → (c == j % w) ≡ b → cond h (g (w * p + c)) (cond b (g j) (f c)) ≡ cond ((j == w * p + c) || h) (g (w * p + c)) (f c)
        pick true b is = sym (ap (λ (a : Bool). cond a (g (w * p + c)) (f c)) (or_right (j == w * p + c) true refl))
        pick false true is =
            let at : c ≡ j % w = grind (arith, nat_tests) in
            let here : j ≡ w * p + c = sym (sum e) ∙ ap (λ (d : ℕ). w * p + d) (sym at) in
            ap g here ∙ sym (ap (λ (a : Bool). cond (a || false) (g (w * p + c)) (f c)) (eq-eqb j (w * p + c) here))
        pick false false is =
            sym (ap (λ (a : Bool). cond (a || false) (g (w * p + c)) (f c)) (ne_eqb j (w * p + c) (λ here. let same : w * p + c ≡ w * p + j % w = sym here ∙ sym (sum e) in let at : c ≡ j % w = omega (arith, same) in let bad : true ≡ false = sym (eq-eqb c (j % w) at) ∙ is in absurd cc)))

    apart : (j / w == p) ≡ false → (c : ℕ) → c < w → (j == w * p + c) ≡ false
    apart e c l = ne_eqb j (w * p + c) (λ here. let is : j / w ≡ p = ap (λ (i : ℕ). i / w) here ∙ quotient w p c l in let bad : true ≡ false = sym (eq-eqb (j / w) p is) ∙ e in absurd cc)

    by : (b : Bool) → (j / w == p) ≡ b → ((h : ℕ → Option (List ℕ)) → filled_at w p (each_of h w 0) js (map g js) ≡ each_of (λ c. cond (has (w * p + c) js) (g (w * p + c)) (h c)) w 0) → filled_at w p (cond b (set (each_of f w 0) (j % w) (g j)) (each_of f w 0)) js (map g js) ≡ each_of (λ c. cond ((j == w * p + c) || has (w * p + c) js) (g (w * p + c)) (f c)) w 0
    by true e rest =
        let is : j / w ≡ p = grind (arith, nat_tests) in
        ap (λ cs. filled_at w p cs js (map g js)) first
        ∙ rest (λ c. cond (c == j % w) (g j) (f c))
        ∙ each_from (λ c. cond (has (w * p + c) js) (g (w * p + c)) (cond (c == j % w) (g j) (f c))) (λ c. cond ((j == w * p + c) || has (w * p + c) js) (g (w * p + c)) (f c)) w 0 0
        (λ a b low high same. let one : a ≡ b = omega arith in agree is a ∙ ap (λ (c : ℕ). cond ((j == w * p + c) || has (w * p + c) js) (g (w * p + c)) (f c)) one)
    by false e rest =
        rest f
        ∙ each_from (λ c. cond (has (w * p + c) js) (g (w * p + c)) (f c)) (λ c. cond ((j == w * p + c) || has (w * p + c) js) (g (w * p + c)) (f c)) w 0 0
        (λ a b low high same. let one : a ≡ b = omega arith in sym (ap (λ (x : Bool). cond (x || has (w * p + a) js) (g (w * p + a)) (f a)) (apart e a (omega arith))) ∙ ap (λ (c : ℕ). cond ((j == w * p + c) || has (w * p + c) js) (g (w * p + c)) (f c)) one)

-- the children of a node, from all nodes of the level below that are there
children_listed : (w p n : ℕ) → 0 < w → (g : ℕ → Option (List ℕ)) (t : ℕ → Bool) → ((r : ℕ) → t r ≡ false → g r ≡ None) → ((c : ℕ) → c < w → w * p + c < n)
    → children_of w p (filter t (each_of (λ i. i) n 0)) (map g (filter t (each_of (λ i. i) n 0))) ≡ each_of (λ c. g (w * p + c)) w 0
children_listed w p n some g t none room =
    ap (λ cs. filled_at w p cs (filter t (each_of (λ i. i) n 0)) (map g (filter t (each_of (λ i. i) n 0)))) (sym (each-none w 0))
    ∙ filled_listed w p some g (λ _. None) (filter t (each_of (λ i. i) n 0))
    ∙ each_from (λ c. cond (has (w * p + c) (filter t (each_of (λ i. i) n 0))) (g (w * p + c)) None) (λ c. g (w * p + c)) w 0 0
    (λ a b low high same. let one : a ≡ b = omega arith in agree a (room a (omega arith)) ∙ ap (λ (c : ℕ). g (w * p + c)) one)
  where
    agree : (c : ℕ) → w * p + c < n → cond (has (w * p + c) (filter t (each_of (λ i. i) n 0))) (g (w * p + c)) None ≡ g (w * p + c)
    agree c l = ap (λ (b : Bool). cond b (g (w * p + c)) None) (has_listed t n 0 (w * p + c) (omega arith) (omega arith)) ∙ pick (t (w * p + c)) refl
      where
        pick : (b : Bool) → t (w * p + c) ≡ b → cond b (g (w * p + c)) None ≡ g (w * p + c)
        pick true e = refl
        pick false e = sym (none (w * p + c) e)

filter_items : (p : Entry → Bool) (es : List Entry) → has_items (filter p es) ≡ true → has_items es ≡ true
filter_items p [] h = h
filter_items p (e ∷ es) h = refl

not_shown : (o : Option (List ℕ)) → is_some o ≡ false → digest_if o ≡ None
not_shown None h = refl
not_shown (Some x) h = absurd cc

child_name : (l : ℕ) (es : List Entry) (t : List ℕ) → digest_if (present (suc l) es t) ≡ named es t
child_name l [] t = refl
child_name l (x ∷ es) t = refl

module _ (F : Form) (laws : Laws F) where
  under_up : (l i c : ℕ) (m : List Entry) → c < F.width → under F (place (suc l) (F.width * i + c)) m ≡ within F (place l i) c (under F (place l i) m)
  under_up l i c m a = under_child F l (F.width * i + c) m ∙ (λ j. within F (place l (quotient F.width i c a j)) (remainder F.width i c a j) (under F (place l (quotient F.width i c a j)) m))

  shown : (l i : ℕ) (m : List Entry) → is_there F (suc l) m i ≡ has_items (under F (place (suc l) i) m)
  shown l i m = shown_items l (under F (place (suc l) i) m) (text F (F.depth - suc l) (place (suc l) i) (under F (place (suc l) i) m))

  -- a node with entries has a child with entries
  child_there : (l i : ℕ) (m : List Entry) → has_items (under F (place l i) m) ≡ true → (c : ℕ) × (c < F.width) × (has_items (under F (place (suc l) (F.width * i + c)) m) ≡ true)
  child_there l i m h = by (under F (place l i) m) refl h
    where
      by : (u : List Entry) → under F (place l i) m ≡ u → has_items u ≡ true → (c : ℕ) × (c < F.width) × (has_items (under F (place (suc l) (F.width * i + c)) m) ≡ true)
      by [] e k = absurd cc
      by (x ∷ xs) e k = (F.digit x.key l, laws.in_width x.key l, ap has_items (under_up l i (F.digit x.key l) m (laws.in_width x.key l)) ∙ ap (λ u. has_items (within F (place l i) (F.digit x.key l) u)) e ∙ first)
        where
          first : has_items (within F (place l i) (F.digit x.key l) (x ∷ xs)) ≡ true
          first = ap (λ (b : Bool). has_items (cond b (x ∷ within F (place l i) (F.digit x.key l) xs) (within F (place l i) (F.digit x.key l) xs))) (eq-eqb (F.digit x.key l) (F.digit x.key l) refl)

  parent_there : (l j : ℕ) (m : List Entry) → has_items (under F (place (suc l) j) m) ≡ true → has_items (under F (place l (j / F.width)) m) ≡ true
  parent_there l j m h = filter_items (λ e. F.digit e.key l == j % F.width) (under F (place l (j / F.width)) m) (sym (ap has_items (under_child F l j m)) ∙ h)

  up_there : (l i : ℕ) (m : List Entry) → i < F.width ^ suc l → is_there F (suc l) m i ≡ true → has i (map (λ j. j / F.width) (indexes_of F (suc (suc l)) m)) ≡ true
  up_there l i m b h =
      let found = child_there (suc l) i m (sym (shown l i m) ∙ h) in
      let low : F.width * i + found.0 < F.width ^ suc (suc l) = child_below F laws (suc l) i found.0 b found.1 in
      subst (λ (n : ℕ). has n (map (λ j. j / F.width) (indexes_of F (suc (suc l)) m)) ≡ true) (quotient F.width i found.0 found.1)
      (has_above F.width (indexes_of F (suc (suc l)) m) (F.width * i + found.0)
      (has_listed (is_there F (suc (suc l)) m) (F.width ^ suc (suc l)) 0 (F.width * i + found.0) (omega arith) (omega arith) ∙ shown (suc l) (F.width * i + found.0) m ∙ found.2))

  -- a node that is there is a node of its level
  there_below : (l j : ℕ) (m : List Entry) → has j (indexes_of F l m) ≡ true → j < F.width ^ l
  there_below l j m h = let low = listed_below (is_there F l m) (F.width ^ l) 0 j h in omega (arith, low)

  above_below : (l i : ℕ) (m : List Entry) → has i (map (λ j. j / F.width) (indexes_of F (suc l) m)) ≡ true → i < F.width ^ l
  above_below l i m h = let at = from_above F.width (indexes_of F (suc l) m) i h in subst (λ (n : ℕ). n < F.width ^ l) at.2 (parent_below F laws l at.0 (there_below (suc l) at.0 m at.1))

  down_there : (l i : ℕ) (m : List Entry) → has i (map (λ j. j / F.width) (indexes_of F (suc (suc l)) m)) ≡ true → is_there F (suc l) m i ≡ true
  down_there l i m h =
      let at = from_above F.width (indexes_of F (suc (suc l)) m) i h in
      let low : at.0 < F.width ^ suc (suc l) = there_below (suc (suc l)) at.0 m at.1 in
      let is : is_there F (suc (suc l)) m at.0 ≡ true = sym (has_listed (is_there F (suc (suc l)) m) (F.width ^ suc (suc l)) 0 at.0 (omega arith) (omega arith)) ∙ at.1 in
      shown l i m ∙ subst (λ (n : ℕ). has_items (under F (place (suc l) n) m) ≡ true) at.2 (parent_there (suc l) at.0 m (sym (shown (suc l) at.0 m) ∙ is))

  -- the indexes of a level from those of the level below
  indexes_up : (l : ℕ) (m : List Entry) → indexes_above F.width l (indexes_of F (suc l) m) ≡ indexes_of F l m
  indexes_up zero m = sym (ap (λ (n : ℕ). filter (is_there F 0 m) (each_of (λ i. i) n 0)) (pow-zero F.width))
  indexes_up (suc l) m = each_once (is_there F (suc l) m) (F.width ^ suc l) (map (λ j. j / F.width) (indexes_of F (suc (suc l)) m))
      (non_decreasing_of (0 / F.width) (map (λ j. j / F.width) (indexes_of F (suc (suc l)) m)) (rises_listed F.width (some_width F laws) (is_there F (suc (suc l)) m) (F.width ^ suc (suc l)) 0 0 (omega arith)))
      (λ i h. above_below (suc l) i m h)
      (λ i b. same_test (is_there F (suc l) m i) (has i (map (λ j. j / F.width) (indexes_of F (suc (suc l)) m))) (up_there l i m b) (down_there l i m))

  name_below : (l i c : ℕ) (m : List Entry) → c < F.width → digest_if (node_of F (place (suc l) (F.width * i + c)) m)
      ≡ named (within F (place l i) c (under F (place l i) m)) (text F (F.depth - suc l) (child F (place l i) c) (within F (place l i) c (under F (place l i) m)))
  name_below l i c m a = child_name l (under F (place (suc l) (F.width * i + c)) m) (text F (F.depth - suc l) (place (suc l) (F.width * i + c)) (under F (place (suc l) (F.width * i + c)) m))
      ∙ (λ j. named (under_up l i c m a j) (text F (F.depth - suc l) (at j) (under_up l i c m a j)))
    where
      at : place (suc l) (F.width * i + c) ≡ child F (place l i) c
      at = let next : suc l ≡ l + 1 = omega arith in ap (λ (n : ℕ). place n (F.width * i + c)) next

  children_up : (l i : ℕ) (m : List Entry) → i < F.width ^ l → children_of F.width i (indexes_of F (suc l) m) (names_of F (suc l) m) ≡ children F (F.depth - suc l) (place l i) (under F (place l i) m)
  children_up l i m b =
      ap (λ ns. children_of F.width i (indexes_of F (suc l) m) ns) (map_map digest_if (λ j. node_of F (place (suc l) j) m) (indexes_of F (suc l) m))
      ∙ children_listed F.width i (F.width ^ suc l) (some_width F laws) (λ j. digest_if (node_of F (place (suc l) j) m)) (is_there F (suc l) m) (λ r e. not_shown (node_of F (place (suc l) r) m) e) (λ c a. child_below F laws l i c b a)
      ∙ each_from (λ c. digest_if (node_of F (place (suc l) (F.width * i + c)) m)) (λ c. named (within F (place l i) c (under F (place l i) m)) (text F (F.depth - suc l) (child F (place l i) c) (within F (place l i) c (under F (place l i) m)))) F.width 0 0
      (λ p q low high same. let one : p ≡ q = omega arith in name_below l i p m (omega arith) ∙ ap (λ (c : ℕ). named (within F (place l i) c (under F (place l i) m)) (text F (F.depth - suc l) (child F (place l i) c) (within F (place l i) c (under F (place l i) m)))) one)

  -- the nodes of a level from the digests of the level below
  texts_up : (l : ℕ) (m : List Entry) → l < F.depth → map (λ i. Some (F.inner_text (place l i) (children_of F.width i (indexes_of F (suc l) m) (names_of F (suc l) m)))) (indexes_of F l m) ≡ texts_of F l m
  texts_up l m deep = map_listed (λ i. Some (F.inner_text (place l i) (children_of F.width i (indexes_of F (suc l) m) (names_of F (suc l) m)))) (λ i. node_of F (place l i) m) (is_there F l m) (F.width ^ l) 0
      (λ r a b there. ap (λ cs. Some (F.inner_text (place l r) cs)) (children_up l r m (omega arith))
      ∙ ap (λ (h : ℕ). Some (text F h (place l r) (under F (place l r) m))) higher
      ∙ sym (shown_text l (under F (place l r) m) (text F (F.depth - l) (place l r) (under F (place l r) m)) there))
    where
      higher : suc (F.depth - suc l) ≡ F.depth - l
      higher = omega (arith, deep)

-- ## The nodes of a level that are there are its nodes

pub somes_texts : (F : Form) (l : ℕ) (m : List Entry) → somes (texts_of F l m) ≡ somes (level_of F l m)
somes_texts F l m = somes_listed (λ i. node_of F (place l i) m) (F.width ^ l) 0

-- the root
pub root_name : (v : TreeVersion) (m : List Entry) → names_of (form_of v) 0 m ≡ Some (md5 (text (form_of v) (form_of v).depth root m)) ∷ []
root_name v m = ap (λ (n : ℕ). map digest_if (map (λ i. node_of (form_of v) (place 0 i) m) (filter (is_there (form_of v) 0 m) (each_of (λ i. i) n 0)))) (pow-zero (form_of v).width)
    ∙ (λ j. Some (md5 (text (form_of v) (height j) root (every m j))) ∷ [])
  where
    height : (form_of v).depth - 0 ≡ (form_of v).depth
    height = omega arith

-- ## In the tree of a version

wide : (v : TreeVersion) (l : ℕ) → (form_of v).width ^ suc l ≡ 16 * 16 ^ l
wide v l = ap (λ (w : ℕ). w ^ suc l) (width_is v) ∙ omega (arith, pow-suc 16 l)

pub indexes_rise : (v : TreeVersion) (l : ℕ) (m : List Entry) (is : List ℕ) → is ≡ indexes_of (form_of v) (l + 1) m → IsNonDecreasing is
indexes_rise v l m is e = subst (λ (xs : List ℕ). IsNonDecreasing xs) (sym e) (non_decreasing_of 0 (indexes_of (form_of v) (l + 1) m) (up_listed (is_there (form_of v) (l + 1) m) ((form_of v).width ^ (l + 1)) 0 0 (omega arith)))

pub indexes_within : (v : TreeVersion) (l : ℕ) (m : List Entry) (is : List ℕ) → is ≡ indexes_of (form_of v) (l + 1) m → All (λ (i : ℕ). i < 16 * 16 ^ l) is
indexes_within v l m is e = All-from_get_or (λ (i : ℕ). i < 16 * 16 ^ l) is 0 (λ i b. let low = there_below (form_of v) (form_laws v) (suc l) (get_or is i 0) m (subst (λ (xs : List ℕ). has (get_or is i 0) xs ≡ true) (e ∙ ap (λ (n : ℕ). indexes_of (form_of v) n m) (add-one l)) (has_at is i b)) in rw (wide v l) at low)

pub names_beside : (v : TreeVersion) (l : ℕ) (m : List Entry) (is : List ℕ) (names : List (Option (List ℕ))) → is ≡ indexes_of (form_of v) (l + 1) m → names ≡ names_of (form_of v) (l + 1) m → length names ≡ length is
names_beside v l m is names e f = ap length f ∙ length_of_map digest_if (texts_of (form_of v) (l + 1) m) ∙ length_of_map (λ i. node_of (form_of v) (place (l + 1) i) m) (indexes_of (form_of v) (l + 1) m) ∙ ap length (sym e)

pub level_indexes : (v : TreeVersion) (l : ℕ) (m : List Entry) (is above : List ℕ) → is ≡ indexes_of (form_of v) (l + 1) m → above ≡ indexes_above 16 l is → above ≡ indexes_of (form_of v) l m
level_indexes v l m is above e f = f ∙ ap (indexes_above 16 l) (e ∙ ap (λ (n : ℕ). indexes_of (form_of v) n m) (add-one l)) ∙ ap (λ (w : ℕ). indexes_above w l (indexes_of (form_of v) (suc l) m)) (sym (width_is v)) ∙ indexes_up (form_of v) (form_laws v) l m

pub level_texts : (v : TreeVersion) (l : ℕ) (m : List Entry) (is above : List ℕ) (names texts : List (Option (List ℕ))) → l < levels v → is ≡ indexes_of (form_of v) (l + 1) m → names ≡ names_of (form_of v) (l + 1) m → above ≡ indexes_of (form_of v) l m
    → texts ≡ map (λ i. Some ((form_of v).inner_text (place l i) (children_of 16 i is names))) above → texts ≡ texts_of (form_of v) l m
level_texts v l m is above names texts deep e f g h = h
    ∙ (λ j. map (λ i. Some ((form_of v).inner_text (place l i) (children_of (sym (width_is v) j) i (below j) (beside j)))) (g j))
    ∙ texts_up (form_of v) (form_laws v) l m (omega (arith, deep, depth_is v))
  where
    below : is ≡ indexes_of (form_of v) (suc l) m
    below = e ∙ ap (λ (n : ℕ). indexes_of (form_of v) n m) (add-one l)

    beside : names ≡ names_of (form_of v) (suc l) m
    beside = f ∙ ap (λ (n : ℕ). names_of (form_of v) n m) (add-one l)

-- the indexes of a run's node
pub run_low : (l : ℕ) (is : List ℕ) (r : Run) → All (λ (i : ℕ). i < 16 * 16 ^ l) is → IsRun (map (λ i. i / 16) is) r → r.number < 16 ^ l
run_low l is r low run = subst (λ (n : ℕ). n < 16 ^ l) (run.inside r.start (omega arith) run.some) (at is r.start (omega (arith, run.some, run.within, length_of_map (λ i. i / 16) is)) low)
  where
    at : (xs : List ℕ) (j : ℕ) → j < length xs → All (λ (i : ℕ). i < 16 * 16 ^ l) xs → get_or (map (λ i. i / 16) xs) j 0 < 16 ^ l
    at [] j b h = absurd (omega arith)
    at (x ∷ xs) zero b h = part x (16 ^ l) (h 0 0 (omega arith))
      where
        part : (y w : ℕ) → y < 16 * w → y / 16 < w
        part y w k = omega arith
    at (x ∷ xs) (suc j) b h = at xs j (omega arith) (λ k d c. h (suc k) d (omega arith))

pub runs_rise : (is : List ℕ) → IsNonDecreasing is → IsNonDecreasing (map (λ i. i / 16) is)
runs_rise is up i j d a b = rw (at is i (omega (arith, length_of_map (λ i. i / 16) is)), at is j (omega (arith, length_of_map (λ i. i / 16) is))) (low (get_or is i 0) (get_or is j 0) (up i j 0 a (omega (arith, length_of_map (λ i. i / 16) is))))
  where
    at : (xs : List ℕ) (k : ℕ) → k < length xs → get_or (map (λ i. i / 16) xs) k d ≡ get_or xs k 0 / 16
    at [] k l = absurd (omega arith)
    at (x ∷ xs) zero l = refl
    at (x ∷ xs) (suc k) l = at xs k (omega arith)

    low : (x y : ℕ) → x ≤ y → x / 16 ≤ y / 16
    low x y l = omega arith

-- the root from the nodes of level 1
pub root_filled : (v : TreeVersion) (is more : List ℕ) (names rest : List (Option (List ℕ))) (above : List ℕ) (old new : List (Option (List ℕ))) (t : List ℕ) → more ≡ is → rest ≡ names → length names ≡ length is → All (λ (i : ℕ). i < 16) is → above ≡ [] ++ 0 ∷ [] → old ≡ [] → new ≡ old ++ Some t ∷ []
    → t ≡ (form_of v).inner_text (place 0 0) (filled 16 (replicate 16 None) more rest) → new ≡ map (λ i. Some ((form_of v).inner_text (place 0 i) (children_of 16 i is names))) above
root_filled v is more names rest above old new t e f long low a none grown text =
    grown ∙ ap (λ ts. ts ++ Some t ∷ []) none
    ∙ ap (λ (x : List ℕ). Some x ∷ []) (text ∙ (λ j. (form_of v).inner_text (place 0 0) (filled 16 (replicate 16 None) (e j) (f j))) ∙ ap ((form_of v).inner_text (place 0 0)) (root_children is names (replicate 16 None) long low))
    ∙ ap (λ (xs : List ℕ). map (λ i. Some ((form_of v).inner_text (place 0 i) (children_of 16 i is names))) xs) (sym a)

pub run_beside : (is more : List ℕ) (names rest : List (Option (List ℕ))) (s n : ℕ) → more ≡ is → rest ≡ names → length names ≡ length is → length (take n (drop s rest)) ≡ length (take n (drop s more))
run_beside is more names rest s n e f long = (λ j. length (take n (drop s (f j)))) ∙ by is names s n long ∙ sym (λ j. length (take n (drop s (e j))))
  where
    by : (xs : List ℕ) (ys : List (Option (List ℕ))) (a b : ℕ) → length ys ≡ length xs → length (take b (drop a ys)) ≡ length (take b (drop a xs))
    by xs ys a b l = omega (arith, length-take {A = ℕ} b (drop a xs), length-take {A = Option (List ℕ)} b (drop a ys), length-drop {A = ℕ} a xs, length-drop {A = Option (List ℕ)} a ys)

pub above_of : (l : ℕ) (is above : List ℕ) → 0 < l → above ≡ dedup nat_eq (map (λ i. i / 16) is) → above ≡ indexes_above 16 l is
above_of zero is above some e = absurd (omega arith)
above_of (suc l) is above some e = e

pub run_filled : (is more : List ℕ) (names rest : List (Option (List ℕ))) (r : Run) → more ≡ is → rest ≡ names → length names ≡ length is → IsRun (map (λ i. i / 16) is) r
    → filled 16 (replicate 16 None) (take (r.end - r.start) (drop r.start more)) (take (r.end - r.start) (drop r.start rest)) ≡ children_of 16 r.number is names
run_filled is more names rest r e f long run = (λ j. filled 16 (replicate 16 None) (take (r.end - r.start) (drop r.start (e j))) (take (r.end - r.start) (drop r.start (f j)))) ∙ run_children 16 is names r long run
