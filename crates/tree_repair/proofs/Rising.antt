-- A stable sort by key gives the entries in order, and there is one such order.
use Rattle.std.proofs.Common.{◌≡◌, ◌⊎◌, ℕ, suc, ◌<◌, ◌≤◌, Bool, true, false, cond, List, [], ◌∷◌, length, get_or, refl, ap, sym, ◌∙◌, subst, arith, inl, inr}
use Rattle.std.specs.Prelude.{filter}
use Rattle.std.specs.List.Sorted.{IsSortedBy, IsStableBy, ties}
use Rattle.std.specs.Ordering.{is_lt}
use Rattle.std.specs.Cmp.{IsStrictWeakOrder}
use Rattle.std.specs.Cmp.Lexicographic.{nat_list_cmp_total}
use Rattle.std.specs.declared.cmp.Ordering.{Ordering}
use Rattle.std.specs.declared.cmp.Ordering.TheVariants.{Less, Equal, Greater}
use Rattle.std.proofs.lemmas.List.Sorted.{ranks_by, sorted_far}
use Rattle.std.specs.Fn.{Called, ComparesAs}
use Rattle.std.proofs.lemmas.Fn.{always_returns_same}
use denote.Param.Members.{Mut}
use denote.Ref.{Bor}
use Rattle.ens_base.specs.declared.entry.Entry.{Entry}
use Rattle.ens_base.specs.Lists.{bytes_cmp}
use Rattle.synctree.specs.Entries.{IsBelowAll}
use Rattle.synctree.proofs.Orders.{cmp_same, cmp_back, less_back, less_trans, cmp_equal}
use Rattle.tree_repair.specs.Sorted.{stepped, place, sorted}

abbrev pub before : Entry → Entry → Bool
before x y = is_lt (bytes_cmp x.key y.key)

pub before_order : IsStrictWeakOrder before
before_order = ranks_by nat_list_cmp_total (λ (e : Entry). e.key)

-- no key of the list is less
abbrev Least : Entry → List Entry → Type 0
Least e [] = Unit {0}
Least e (x ∷ xs) = (before x e ≡ false) × Least e xs

abbrev Up : List Entry → Type 0
Up [] = Unit {0}
Up (x ∷ xs) = Least x xs × Up xs

least_of : (e : Entry) (xs : List Entry) → ((k : ℕ) → k < length xs → before (get_or xs k e) e ≡ false) → Least e xs
least_of e [] h = tt
least_of e (x ∷ xs) h = (h 0 (omega arith), least_of e xs (λ k b. h (suc k) (omega arith)))

up_of : (xs : List Entry) → ((i j : ℕ) (d : Entry) → i ≤ j → j < length xs → before (get_or xs j d) (get_or xs i d) ≡ false) → Up xs
up_of [] h = tt
up_of (x ∷ xs) h = (least_of x xs (λ k b. h 0 (suc k) x (omega arith) (omega arith)), up_of xs (λ i j d a b. h (suc i) (suc j) d (omega arith) (omega arith)))

not_before : (w z : Entry) → before w z ≡ false → (bytes_cmp z.key w.key ≡ Less) ⊎ (z.key ≡ w.key)
not_before w z h = by (bytes_cmp w.key z.key) refl
  where
    by : (o : Ordering) → bytes_cmp w.key z.key ≡ o → (bytes_cmp z.key w.key ≡ Less) ⊎ (z.key ≡ w.key)
    by Less e = let no : true ≡ false = sym (ap is_lt e) ∙ h in absurd cc
    by Equal e = inr (sym (cmp_equal w.key z.key e))
    by Greater e = inl (less_back w.key z.key e)

less_than : (y z w : Entry) → bytes_cmp y.key z.key ≡ Less → before w z ≡ false → bytes_cmp y.key w.key ≡ Less
less_than y z w l h = by (not_before w z h)
  where
    by : (bytes_cmp z.key w.key ≡ Less) ⊎ (z.key ≡ w.key) → bytes_cmp y.key w.key ≡ Less
    by (inl m) = less_trans y.key z.key w.key l m
    by (inr e) = subst (λ (k : List ℕ). bytes_cmp y.key k ≡ Less) e l

below_all : (y z : Entry) (zs : List Entry) → bytes_cmp y.key z.key ≡ Less → Least z zs → IsBelowAll y.key zs
below_all y z [] l a = tt
below_all y z (w ∷ zs) l a = (less_than y z w l a.0, below_all y z zs l a.1)

none_tie : (y : Entry) (zs : List Entry) → IsBelowAll y.key zs → filter (ties before y) zs ≡ []
none_tie y [] a = refl
none_tie y (z ∷ zs) a = rw a.0 (none_tie y zs a.1)

tie_itself : (y : Entry) → ties before y y ≡ true
tie_itself y = rw (cmp_same y.key) refl

tie_equal : (y z : Entry) → bytes_cmp y.key z.key ≡ Equal → ties before y z ≡ true
tie_equal y z e = rw (cmp_back z.key y.key) (rw e refl)

first_of : (a b : Entry) (ls bs : List Entry) → a ∷ ls ≡ b ∷ bs → a ≡ b
first_of a b ls bs e = cc

rest_of : (a b : Entry) (ls bs : List Entry) → a ∷ ls ≡ b ∷ bs → ls ≡ bs
rest_of a b ls bs e = cc

kept_first : (q : Entry → Bool) (y : Entry) (ys : List Entry) → q y ≡ true → filter q (y ∷ ys) ≡ y ∷ filter q ys
kept_first q y ys e = rw e refl

one_order : (ys zs : List Entry) → Up ys → Up zs → ((x : Entry) → filter (ties before x) ys ≡ filter (ties before x) zs) → ys ≡ zs
one_order [] [] a b same = refl
one_order [] (z ∷ zs) a b same = let no = same z ∙ kept_first (ties before z) z zs (tie_itself z) in absurd cc
one_order (y ∷ ys) [] a b same = let no = sym (kept_first (ties before y) y ys (tie_itself y)) ∙ same y in absurd cc
one_order (y ∷ ys) (z ∷ zs) a b same = by (bytes_cmp y.key z.key) refl (λ k. one_order ys zs a.1 b.1 k)
  where
    by : (o : Ordering) → bytes_cmp y.key z.key ≡ o → (((x : Entry) → filter (ties before x) ys ≡ filter (ties before x) zs) → ys ≡ zs) → y ∷ ys ≡ z ∷ zs
    by Less e rest = let no = sym (kept_first (ties before y) y ys (tie_itself y)) ∙ same y ∙ none_tie y (z ∷ zs) (e, below_all y z zs e b.0) in absurd cc
    by Greater e rest = let no = sym (none_tie z (y ∷ ys) (less_back y.key z.key e, below_all z y ys (less_back y.key z.key e) a.0)) ∙ same z ∙ kept_first (ties before z) z zs (tie_itself z) in absurd cc
    by Equal e rest = λ i. one i ∷ rest tails i
      where
        one : y ≡ z
        one = first_of y z (filter (ties before y) ys) (filter (ties before y) zs) (sym (kept_first (ties before y) y ys (tie_itself y)) ∙ same y ∙ kept_first (ties before y) z zs (tie_equal y z e))

        tails : (x : Entry) → filter (ties before x) ys ≡ filter (ties before x) zs
        tails x = pick (ties before x y) refl
          where
            pick : (t : Bool) → ties before x y ≡ t → filter (ties before x) ys ≡ filter (ties before x) zs
            pick true h = rest_of y z (filter (ties before x) ys) (filter (ties before x) zs) (sym (kept_first (ties before x) y ys h) ∙ same x ∙ kept_first (ties before x) z zs (subst (λ (w : Entry). ties before x w ≡ true) one h))
            pick false h = sym (dropped y ys h) ∙ same x ∙ dropped z zs (subst (λ (w : Entry). ties before x w ≡ false) one h)
              where
                dropped : (w : Entry) (ws : List Entry) → ties before x w ≡ false → filter (ties before x) (w ∷ ws) ≡ filter (ties before x) ws
                dropped w ws h = rw h refl

-- ## The sorted list

least_place : (x e : Entry) (zs : List Entry) → before e x ≡ false → Least x zs → Least x (place e zs)
least_place x e [] h a = (h, tt)
least_place x e (z ∷ zs) h a = by (bytes_cmp e.key z.key) (least_place x e zs h a.1)
  where
    by : (o : Ordering) → Least x (place e zs) → Least x (stepped o e z zs (place e zs))
    by Less r = (h, a)
    by Equal r = (h, a)
    by Greater r = (a.0, r)

not_less_back : (a b : Entry) → bytes_cmp a.key b.key ≡ Less → before b a ≡ false
not_less_back a b e = rw (cmp_back b.key a.key) (rw e refl)

not_equal_back : (a b : Entry) → bytes_cmp a.key b.key ≡ Equal → before b a ≡ false
not_equal_back a b e = rw (cmp_back b.key a.key) (rw e refl)

least_below : (e z : Entry) (zs : List Entry) → bytes_cmp e.key z.key ≡ Less → Least z zs → Least e zs
least_below e z [] l a = tt
least_below e z (w ∷ zs) l a = (not_less_back e w (less_than e z w l a.0), least_below e z zs l a.1)

least_same : (e z : Entry) (zs : List Entry) → e.key ≡ z.key → Least z zs → Least e zs
least_same e z [] l a = tt
least_same e z (w ∷ zs) l a = (subst (λ (k : List ℕ). is_lt (bytes_cmp w.key k) ≡ false) (sym l) a.0, least_same e z zs l a.1)

up_place : (e : Entry) (zs : List Entry) → Up zs → Up (place e zs)
up_place e [] a = (tt, tt)
up_place e (z ∷ zs) a = by (bytes_cmp e.key z.key) refl (up_place e zs a.1)
  where
    by : (o : Ordering) → bytes_cmp e.key z.key ≡ o → Up (place e zs) → Up (stepped o e z zs (place e zs))
    by Less h r = ((not_less_back e z h, least_below e z zs h a.0), a)
    by Equal h r = ((not_equal_back e z h, least_same e z zs (cmp_equal e.key z.key h) a.0), a)
    by Greater h r = (least_place z e zs (ap is_lt h) a.0, r)

up_sorted : (xs : List Entry) → Up (sorted xs)
up_sorted [] = tt
up_sorted (x ∷ xs) = up_place x (sorted xs) (up_sorted xs)

tie_key : (x e : Entry) → ties before x e ≡ true → x.key ≡ e.key
tie_key x e h = by (bytes_cmp x.key e.key) refl
  where
    by : (o : Ordering) → bytes_cmp x.key e.key ≡ o → x.key ≡ e.key
    by Less k = let no : ties before x e ≡ false = rw k refl in let bad : true ≡ false = sym h ∙ no in absurd cc
    by Equal k = cmp_equal x.key e.key k
    by Greater k = let no : ties before x e ≡ false = rw (k, less_back x.key e.key k) refl in let bad : true ≡ false = sym h ∙ no in absurd cc

tie_place : (x e : Entry) (zs : List Entry) → filter (ties before x) (place e zs) ≡ filter (ties before x) (e ∷ zs)
tie_place x e [] = refl
tie_place x e (z ∷ zs) = by (bytes_cmp e.key z.key) refl (tie_place x e zs)
  where
    by : (o : Ordering) → bytes_cmp e.key z.key ≡ o → filter (ties before x) (place e zs) ≡ filter (ties before x) (e ∷ zs) → filter (ties before x) (stepped o e z zs (place e zs)) ≡ filter (ties before x) (e ∷ z ∷ zs)
    by Less h r = refl
    by Equal h r = refl
    by Greater h r = pick (ties before x e) (ties before x z) refl refl
      where
        pick : (t u : Bool) → ties before x e ≡ t → ties before x z ≡ u → filter (ties before x) (z ∷ place e zs) ≡ filter (ties before x) (e ∷ z ∷ zs)
        pick true true p q =
            let same : e.key ≡ z.key = sym (tie_key x e p) ∙ tie_key x z q in
            let no : Greater ≡ Equal = sym h ∙ ap (λ (k : List ℕ). bytes_cmp k z.key) same ∙ cmp_same z.key in absurd cc
        pick true false p q = dropped z (place e zs) q ∙ r ∙ kept_first (ties before x) e zs p ∙ ap (λ ws. e ∷ ws) (sym (dropped z zs q)) ∙ sym (kept_first (ties before x) e (z ∷ zs) p)
          where
            dropped : (w : Entry) (ws : List Entry) → ties before x w ≡ false → filter (ties before x) (w ∷ ws) ≡ filter (ties before x) ws
            dropped w ws h = rw h refl
        pick false u p q = step z (place e zs) (e ∷ zs) r ∙ step z (e ∷ zs) zs (dropped e zs p) ∙ sym (dropped e (z ∷ zs) p)
          where
            dropped : (w : Entry) (ws : List Entry) → ties before x w ≡ false → filter (ties before x) (w ∷ ws) ≡ filter (ties before x) ws
            dropped w ws h = rw h refl

            step : (w : Entry) (ls bs : List Entry) → filter (ties before x) ls ≡ filter (ties before x) bs → filter (ties before x) (w ∷ ls) ≡ filter (ties before x) (w ∷ bs)
            step w ls bs e = ap (λ ys. cond (ties before x w) (w ∷ ys) ys) e

tie_sorted : (x : Entry) (xs : List Entry) → filter (ties before x) (sorted xs) ≡ filter (ties before x) xs
tie_sorted x [] = refl
tie_sorted x (y ∷ xs) = tie_place x y (sorted xs) ∙ ap (λ ys. cond (ties before x y) (y ∷ ys) ys) (tie_sorted x xs)

-- a stable sort gives this list
pub stable_sort : (xs ys : List Entry) → IsSortedBy before ys → IsStableBy before xs ys → ys ≡ sorted xs
stable_sort xs ys up stable = one_order ys (sorted xs) (up_of ys (λ i j d a b. sorted_far before before_order ys up i j d a b)) (up_sorted xs) (λ x. stable x ∙ sym (tie_sorted x xs))

-- what `sort_by` leaves, where each call compares the keys
pub sorted_by_keys : {F : Type 0} {g : Mut F (Bor Entry × (Bor Entry × Unit {0})) Ordering} {f : F} (xs ys : List Entry)
    → ((lt : Entry → Entry → Bool) → IsStrictWeakOrder lt → ComparesAs g lt f → IsSortedBy lt ys)
    → ((lt : Entry → Entry → Bool) → IsStrictWeakOrder lt → ComparesAs g lt f → IsStableBy lt xs ys)
    → ((a : Bor Entry × (Bor Entry × Unit {0})) (r : Ordering) (f' : F) → Called g f a r f' → (r ≡ bytes_cmp a.0.now.key a.1.0.now.key) × (f' ≡ f)) → ys ≡ sorted xs
sorted_by_keys {g = g} {f = f} xs ys up stable h =
    let answers = always_returns_same g (λ a r. is_lt r ≡ before a.0.now a.1.0.now) f (λ a r f' k. (ap is_lt (h a r f' k).0, (h a r f' k).1)) in
    stable_sort xs ys (up before before_order answers) (stable before before_order answers)
