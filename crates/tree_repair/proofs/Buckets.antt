-- The segments of a map, each from the places of its entries.
use Rattle.std.proofs.Common.{◌≡◌, ℕ, zero, suc, ◌+◌, ◌-◌, ◌<◌, ◌≤◌, ◌^◌, Bool, true, false, cond, List, [], ◌∷◌, ◌++◌, Option, None, Some, length, get_or, take, drop, map, refl, ap, sym, ◌∙◌, subst, arith}
use Rattle.std.specs.Prelude.{◌==◌, ◌||◌, nat_eq, filter, slice_get}
use Rattle.std.specs.Option.{is_some}
use Rattle.std.specs.List.{dedup, cons_option}
use Rattle.std.specs.List.Sorted.{IsNonDecreasing, IsNonDecreasingBy}
use Rattle.std.proofs.lemmas.Bool.Decides.{nat_tests}
use Rattle.std.proofs.lemmas.Bool.{ne_eqb, eq-eqb}
use Rattle.ens_base.specs.declared.entry.Entry.{Entry}
use Rattle.tree_node.specs.Entries.{is_less, is_above, AreAbove}
use Rattle.synctree.specs.Forms.{Form, Laws}
use Rattle.synctree.specs.Maps.{text}
use Rattle.synctree.specs.Paths.{passes, under, present, node_of}
use Rattle.synctree.proofs.Orders.{less_trans}
use Rattle.synctree.proofs.Slices.{take_at}
use Rattle.synctree.proofs.TreeNode.{less_above as above_less}
use Rattle.tree_repair.specs.Builds.{place}
use Rattle.tree_repair.specs.RepairLevels.{index_of, is_there, indexes_of}
use Rattle.tree_repair.specs.Runs.{IsRun}
use Rattle.tree_repair.specs.Segments.{placed, taken}
use Rattle.tree_repair.specs.declared.order.Placed.{Placed}
use Rattle.tree_repair.specs.declared.runs.Run.{Run}
use Rattle.tree_repair.proofs.Numbers.{has, has_at, each_once}
use Rattle.tree_repair.proofs.Indexes.{index_below, under_index}

-- ## Parts of ascending entries ascend

above_further : (low k : List ℕ) (es : List Entry) → is_above low k ≡ true → AreAbove k es → AreAbove low es
above_further low k [] l a = tt
above_further low k (e ∷ es) l a = (ap is_less (less_trans low k e.key (above_less low k l) (above_less k e.key a.0)), a.1)

pub above_part : (p : Entry → Bool) (low : List ℕ) (es : List Entry) → AreAbove low es → AreAbove low (filter p es)
above_part p low [] a = tt
above_part p low (e ∷ es) a = by (p e) (above_part p e.key es a.1)
  where
    by : (b : Bool) → AreAbove e.key (filter p es) → AreAbove low (cond b (e ∷ filter p es) (filter p es))
    by true r = (a.0, r)
    by false r = above_further low e.key (filter p es) a.0 r

-- ## What passes a test

abbrev pub has_items : {X : Type 0} → List X → Bool
has_items [] = false
has_items (x ∷ xs) = true

-- a node is there if it has entries
pub shown_items : (l : ℕ) (es : List Entry) (t : List ℕ) → is_some (present (suc l) es t) ≡ has_items es
shown_items l [] t = refl
shown_items l (e ∷ es) t = refl

-- below the root
pub shown_deep : (d : ℕ) → 0 < d → (es : List Entry) (t : List ℕ) → is_some (present d es t) ≡ has_items es
shown_deep zero some es t = absurd (omega arith)
shown_deep (suc l) some es t = shown_items l es t

pub shown_text : (l : ℕ) (es : List Entry) (t : List ℕ) → is_some (present l es t) ≡ true → present l es t ≡ Some t
shown_text zero es t h = refl
shown_text (suc l) [] t h = absurd cc
shown_text (suc l) (e ∷ es) t h = refl

map_length : {X : Type 0} (k : X → ℕ) (xs : List X) → length (map k xs) ≡ length xs
map_length k [] = refl
map_length k (x ∷ xs) = ap suc (map_length k xs)

map_at : {X : Type 0} (k : X → ℕ) (xs : List X) (i d : ℕ) (e : X) → i < length xs → get_or (map k xs) i d ≡ k (get_or xs i e)
map_at k [] i d e l = absurd (omega arith)
map_at k (x ∷ xs) zero d e l = refl
map_at k (x ∷ xs) (suc i) d e l = map_at k xs i d e (omega arith)

pub map_rises : {X : Type 0} (k : X → ℕ) (e : X) (xs : List X) → IsNonDecreasingBy k xs → IsNonDecreasing (map k xs)
map_rises k e xs up i j d a b = rw (map_at k xs i d e (omega (arith, map_length k xs)), map_at k xs j d e (omega (arith, map_length k xs))) (up i j e a (omega (arith, map_length k xs)))

has_number : {X : Type 0} (k : X → ℕ) (r : ℕ) (xs : List X) → has r (map k xs) ≡ has_items (filter (λ x. k x == r) xs)
has_number k r [] = refl
has_number {X = X} k r (x ∷ xs) = by (k x == r) (has_number k r xs)
  where
    by : (b : Bool) → has r (map k xs) ≡ has_items (filter (λ y. k y == r) xs) → (b || has r (map k xs)) ≡ has_items (cond b (x ∷ filter (λ y. k y == r) xs) (filter (λ y. k y == r) xs))
    by true h = refl
    by false h = h

-- what stands at the places of a number is all that has it
run_part : {X : Type 0} (k : X → ℕ) (i : ℕ) (xs : List X) (s n : ℕ) → s + n ≤ length xs → ((j : ℕ) → s ≤ j → j < s + n → get_or (map k xs) j 0 ≡ i) → ((j : ℕ) → j < length xs → get_or (map k xs) j 0 ≡ i → (s ≤ j) × (j < s + n)) → take n (drop s xs) ≡ filter (λ x. k x == i) xs
run_part k i [] zero zero b inside outside = refl
run_part k i [] zero (suc n) b inside outside = absurd (omega arith)
run_part k i [] (suc s) n b inside outside = absurd (omega arith)
run_part k i (x ∷ xs) zero zero b inside outside =
    let new : (k x == i) ≡ false = ne_eqb (k x) i (λ is. let at = outside 0 (omega arith) is in absurd (omega (arith, at.1))) in
    rw new (run_part k i xs zero zero (omega arith) (λ j u v. absurd (omega arith)) (λ j l is. let at = outside (suc j) (omega arith) is in absurd (omega (arith, at.1))))
run_part k i (x ∷ xs) zero (suc n) b inside outside =
    let old : (k x == i) ≡ true = eq-eqb (k x) i (inside 0 (omega arith) (omega arith)) in
    rw old (ap (λ ys. x ∷ ys) (run_part k i xs zero n (omega arith) (λ j u v. inside (suc j) (omega arith) (omega arith)) (λ j l is. let at = outside (suc j) (omega arith) is in (omega arith, omega (arith, at.1)))))
run_part k i (x ∷ xs) (suc s) n b inside outside =
    let new : (k x == i) ≡ false = ne_eqb (k x) i (λ is. let at = outside 0 (omega arith) is in absurd (omega (arith, at.0))) in
    rw new (run_part k i xs s n (omega arith) (λ j u v. inside (suc j) (omega arith) (omega arith)) (λ j l is. let at = outside (suc j) (omega arith) is in (omega (arith, at.0), omega (arith, at.1))))

pub run_items : {X : Type 0} (k : X → ℕ) (xs : List X) (r : Run) → IsRun (map k xs) r → take (r.end - r.start) (drop r.start xs) ≡ filter (λ x. k x == r.number) xs
run_items k xs r run = run_part k r.number xs r.start (r.end - r.start) (omega (arith, sum, run.within, map_length k xs)) (λ j a b. run.inside j a (omega (arith, sum))) (λ j l is. let at = run.outside j (omega (arith, map_length k xs)) is in (at.0, omega (arith, sum, at.1)))
  where
    sum : r.start + (r.end - r.start) ≡ r.end
    sum = omega (arith, run.some)

pub run_number : (ns : List ℕ) (r : Run) → IsRun ns r → has r.number ns ≡ true
run_number ns r run = subst (λ (n : ℕ). has n ns ≡ true) (run.inside r.start (omega arith) run.some) (has_at ns r.start (omega (arith, run.some, run.within)))

-- ## Entries and their places

got_at : (all : List Entry) (j : ℕ) (x : Entry) (rest : List Entry) → drop j all ≡ x ∷ rest → (slice_get all j ≡ Some x) × (drop (j + 1) all ≡ rest)
got_at all j x rest e = let next : j + 1 ≡ suc j = omega arith in rw next (by all j e)
  where
    by : (ys : List Entry) (i : ℕ) → drop i ys ≡ x ∷ rest → (slice_get ys i ≡ Some x) × (drop (suc i) ys ≡ rest)
    by [] zero h = absurd cc
    by [] (suc i) h = absurd cc
    by (y ∷ ys) zero h = let is : y ≡ x = cc in let more : ys ≡ rest = cc in (ap Some is, more)
    by (y ∷ ys) (suc i) h = by ys i h

taken_from : (f : Entry → ℕ) (i : ℕ) (all es : List Entry) (j : ℕ) → drop j all ≡ es → taken all (filter (λ p. p.segment == i) (placed (map f es) j)) ≡ filter (λ e. f e == i) es
taken_from f i all [] j h = refl
taken_from f i all (e ∷ es) j h = by (f e == i) (taken_from f i all es (j + 1) (got_at all j e es h).1)
  where
    by : (b : Bool) → taken all (filter (λ p. p.segment == i) (placed (map f es) (j + 1))) ≡ filter (λ x. f x == i) es
        → taken all (cond b (record { segment = f e; entry = j } ∷ filter (λ p. p.segment == i) (placed (map f es) (j + 1))) (filter (λ p. p.segment == i) (placed (map f es) (j + 1)))) ≡ cond b (e ∷ filter (λ x. f x == i) es) (filter (λ x. f x == i) es)
    by true r = rw ((got_at all j e es h).0) (ap (λ xs. e ∷ xs) r)
    by false r = r

got_or : (es : List Entry) (i : ℕ) (e : Entry) → i < length es → e ≡ get_or es i e → slice_get es i ≡ Some e
got_or [] i e l is = absurd (omega arith)
got_or (x ∷ es) zero e l is = ap Some (sym is)
got_or (x ∷ es) (suc i) e l is = got_or es i e (omega arith) is

taken_push : (es : List Entry) (ps : List Placed) (p : Placed) (e : Entry) → slice_get es p.entry ≡ Some e → taken es (ps ++ p ∷ []) ≡ taken es ps ++ e ∷ []
taken_push es [] p e h = ap (λ (o : Option Entry). cons_option o []) h
taken_push es (q ∷ ps) p e h = by (slice_get es q.entry) (taken_push es ps p e h)
  where
    by : (o : Option Entry) → taken es (ps ++ p ∷ []) ≡ taken es ps ++ e ∷ [] → cons_option o (taken es (ps ++ p ∷ [])) ≡ cons_option o (taken es ps) ++ e ∷ []
    by None r = r
    by (Some x) r = ap (λ xs. x ∷ xs) r

-- one more entry is copied
pub taken_more : (es : List Entry) (ps : List Placed) (k : ℕ) (d : Placed) (e copy : Entry) (old new : List Entry) → k < length ps → (get_or ps k d).entry < length es → e ≡ get_or es (get_or ps k d).entry e → copy ≡ e → old ≡ taken es (take k ps) → new ≡ old ++ copy ∷ [] → new ≡ taken es (take (k + 1) ps)
taken_more es ps k d e copy old new l within at same was grown =
    grown ∙ (λ j. was j ++ same j ∷ []) ∙ sym (taken_push es (take k ps) (get_or ps k d) e (got_or es (get_or ps k d).entry e within at)) ∙ ap (taken es) (sym (take_at ps k (get_or ps k d) d l refl))

placed_items : (f : Entry → ℕ) (i : ℕ) (es : List Entry) (j : ℕ) → has_items {X = Placed} (filter (λ p. p.segment == i) (placed (map f es) j)) ≡ has_items {X = Entry} (filter (λ e. f e == i) es)
placed_items f i [] j = refl
placed_items f i (e ∷ es) j = by (f e == i) (placed_items f i es (j + 1))
  where
    by : (b : Bool) → has_items {X = Placed} (filter (λ p. p.segment == i) (placed (map f es) (j + 1))) ≡ has_items {X = Entry} (filter (λ x. f x == i) es)
        → has_items {X = Placed} (cond b (record { segment = f e; entry = j } ∷ filter (λ p. p.segment == i) (placed (map f es) (j + 1))) (filter (λ p. p.segment == i) (placed (map f es) (j + 1)))) ≡ has_items {X = Entry} (cond b (e ∷ filter (λ x. f x == i) es) (filter (λ x. f x == i) es))
    by true r = refl
    by false r = r

item_below : (n : ℕ) (f : Entry → ℕ) (r : ℕ) → ((e : Entry) → f e < n) → (es : List Entry) → has_items (filter (λ e. f e == r) es) ≡ true → r < n
item_below n f r low [] h = absurd cc
item_below n f r low (x ∷ es) h = by (f x == r) refl (item_below n f r low es) h
  where
    by : (b : Bool) → (f x == r) ≡ b → (has_items (filter (λ e. f e == r) es) ≡ true → r < n) → has_items (cond b (x ∷ filter (λ e. f e == r) es) (filter (λ e. f e == r) es)) ≡ true → r < n
    by true e rest k = let is : f x ≡ r = grind (arith, nat_tests) in subst (λ (i : ℕ). i < n) is (low x)
    by false e rest k = rest k

-- the entries of a list are placed in the order of their segments
abbrev pub AreParts : List ℕ → List Placed → Type 0
AreParts segments order = (i : ℕ) → filter (λ p. p.segment == i) order ≡ filter (λ p. p.segment == i) (placed segments 0)

module _ (F : Form) (laws : Laws F) (d : ℕ) (some : 0 < d) (m : List Entry) (order : List Placed) (parts : AreParts (map (λ e. index_of F d e.key) m) order) where
  has_segment : (i : ℕ) → has i (map {A = Placed} (λ p. p.segment) order) ≡ has_items (filter (λ e. index_of F d e.key == i) m)
  has_segment i = has_number {X = Placed} (λ p. p.segment) i order ∙ ap has_items (parts i) ∙ placed_items (λ e. index_of F d e.key) i m 0

  segment_below : (i : ℕ) → has i (map {A = Placed} (λ p. p.segment) order) ≡ true → i < F.width ^ d
  segment_below i h = item_below (F.width ^ d) (λ e. index_of F d e.key) i (λ e. index_below F laws d e.key) m (sym (has_segment i) ∙ h)

  -- the segments that are there
  pub segments_there : IsNonDecreasingBy {X = Placed} (λ p. p.segment) order → dedup nat_eq (map {A = Placed} (λ p. p.segment) order) ≡ indexes_of F d m
  segments_there up = each_once (is_there F d m) (F.width ^ d) (map {A = Placed} (λ p. p.segment) order) (map_rises {X = Placed} (λ p. p.segment) (record { segment = 0; entry = 0 }) order up) segment_below
      (λ i b. shown_deep d some (under F (place d i) m) (text F (F.depth - d) (place d i) (under F (place d i) m)) ∙ ap has_items (under_index F laws d i m b) ∙ sym (has_segment i))

  module _ (r : Run) (run : IsRun (map {A = Placed} (λ p. p.segment) order) r) where
    pub number_below : r.number < F.width ^ d
    number_below = segment_below r.number (run_number (map {A = Placed} (λ p. p.segment) order) r run)

    -- the entries of a segment
    pub run_entries : taken m (take (r.end - r.start) (drop r.start order)) ≡ under F (place d r.number) m
    run_entries = ap (taken m) (run_items {X = Placed} (λ p. p.segment) order r run ∙ parts r.number) ∙ taken_from (λ e. index_of F d e.key) r.number m m 0 refl ∙ sym (under_index F laws d r.number m number_below)

    pub run_ascends : AreAbove [] m → AreAbove [] (taken m (take (r.end - r.start) (drop r.start order)))
    run_ascends a = subst (λ (es : List Entry). AreAbove [] es) (sym run_entries) (above_part (λ e. passes F e.key d r.number) [] m a)

    has_entries : has_items (under F (place d r.number) m) ≡ true
    has_entries = ap has_items (under_index F laws d r.number m number_below) ∙ sym (has_segment r.number) ∙ run_number (map {A = Placed} (λ p. p.segment) order) r run

    -- the segment
    pub run_text : F.depth ≡ d → (t : List ℕ) → t ≡ F.segment_text (place d r.number) (taken m (take (r.end - r.start) (drop r.start order))) → Some t ≡ node_of F (place d r.number) m
    run_text deep t is =
        ap Some (is ∙ ap (F.segment_text (place d r.number)) run_entries)
        ∙ ap (λ (h : ℕ). Some (text F h (place d r.number) (under F (place d r.number) m))) (sym none)
        ∙ sym (shown_text d (under F (place d r.number) m) (text F (F.depth - d) (place d r.number) (under F (place d r.number) m)) (shown_deep d some (under F (place d r.number) m) (text F (F.depth - d) (place d r.number) (under F (place d r.number) m)) ∙ has_entries))
      where
        none : F.depth - d ≡ 0
        none = omega (arith, deep)
