-- The parts of a map selected by a test on keys, look-ups and puts.
use Rattle.std.proofs.Common.{◌≡◌, ◌≢◌, ℕ, zero, suc, ◌+◌, ◌<◌, ◌≤◌, ◌^◌, Bool, true, false, cond, List, [], ◌∷◌, Option, None, Some, length, get_or, set, replicate, refl, ap, sym, ◌∙◌, subst, arith, add-zero}
use Rattle.ens_base.proofs.Lists.{bytes_same, bytes_itself}
use Rattle.std.specs.Prelude.{filter}
use Rattle.std.specs.List.{AllByRecursion}
use Rattle.std.specs.declared.cmp.Ordering.{Ordering}
use Rattle.std.specs.declared.cmp.Ordering.TheVariants.{Less, Equal, Greater}
use Rattle.ens_base.specs.declared.entry.Entry.{Entry}
use Rattle.ens_base.specs.Lists.{bytes_cmp, same_bytes}
use Rattle.fields.specs.Entries.{IsEntry}
use Rattle.synctree.specs.Entries.{IsBelowAll, Ascends, IsMap, placed, put, lookup}
use Rattle.synctree.specs.Maps.{each_of, named}
use Rattle.synctree.proofs.Orders.{less_back, less_trans, cmp_equal, not_same, less_not_same}

pub get-each : {A : Type 0} (f : ℕ → A) (n i j : ℕ) (d : A) → j < n → get_or (each_of f n i) j d ≡ f (i + j)
get-each f zero i j d h = absurd (omega arith)
get-each f (suc n) i zero d h = ap f (omega arith)
get-each f (suc n) i (suc j) d h = get-each f n (i + 1) j d (omega arith) ∙ ap f (omega arith)

pub length-each : {A : Type 0} (f : ℕ → A) (n i : ℕ) → length (each_of f n i) ≡ n
length-each f zero i = refl
length-each f (suc n) i = ap suc (length-each f n (i + 1))

pub each_agree : {A : Type 0} (f g : ℕ → A) (n i : ℕ) → ((j : ℕ) → i ≤ j → f j ≡ g j) → each_of f n i ≡ each_of g n i
each_agree f g zero i h = refl
each_agree f g (suc n) i h = rw (h i (omega arith), each_agree f g n (i + 1) (λ j b. h j (omega arith))) refl

pub set-each : {A : Type 0} (f g : ℕ → A) (n i c : ℕ) (v : A) → g (i + c) ≡ v → ((j : ℕ) → i ≤ j → j ≢ i + c → f j ≡ g j) → c < n → set (each_of f n i) c v ≡ each_of g n i
set-each f g zero i c v at others h = absurd (omega arith)
set-each f g (suc n) i zero v at others h =
    let first : g i ≡ v = rw add-zero at at in
    rw (first, each_agree f g n (i + 1) (λ j b. others j (omega arith) (omega arith))) refl
set-each f g (suc n) i (suc c) v at others h =
    let eq : i + suc c ≡ (i + 1) + c = omega arith in
    rw (others i (omega arith) (omega arith), set-each f g n (i + 1) c v (rw eq at at) (λ j b ne. others j (omega arith) (λ k. ne (omega arith))) (omega arith)) refl

pub each-none : {A : Type 0} (n i : ℕ) → each_of {A = Option A} (λ _. None) n i ≡ replicate n None
each-none zero i = refl
each-none (suc n) i = ap (λ xs. None ∷ xs) (each-none n (i + 1))

-- an element within a list does not depend on the default
pub get_or-any : {A : Type 0} (xs : List A) (i : ℕ) (d e : A) → i < length xs → get_or xs i d ≡ get_or xs i e
get_or-any [] i d e h = absurd (omega arith)
get_or-any (x ∷ xs) zero d e h = refl
get_or-any (x ∷ xs) (suc i) d e h = get_or-any xs i d e (omega arith)

pub below_trans : (j k : List ℕ) (m : List Entry) → bytes_cmp j k ≡ Less → IsBelowAll k m → IsBelowAll j m
below_trans j k [] l a = tt
below_trans j k (x ∷ m) l a = (less_trans j k x.key l a.0, below_trans j k m l a.1)

-- an entry below all others goes to the front
put-prefix : (e : Entry) (m : List Entry) → IsBelowAll e.key m → put e m ≡ e ∷ m
put-prefix e [] a = refl
put-prefix e (x ∷ m) a = rw a.0 refl

module _ (p : List ℕ → Bool) where
  abbrev pub part : List Entry → List Entry
  part m = filter (λ e. p e.key) m

  pub find-part : (k : List ℕ) → p k ≡ true → (m : List Entry) → lookup k m ≡ lookup k (part m)
  find-part k h [] = refl
  find-part k h (x ∷ m) = by (same_bytes x.key k) (p x.key) refl refl (find-part k h m)
    where
      by : (a b : Bool) → same_bytes x.key k ≡ a → p x.key ≡ b → lookup k m ≡ lookup k (part m) → cond (same_bytes x.key k) (Some x) (lookup k m) ≡ lookup k (cond (p x.key) (x ∷ part m) (part m))
      by true true ea eb rest = rw (ea, eb) (rw ea refl)
      by false true ea eb rest = rw (ea, eb) (rw ea rest)
      by false false ea eb rest = rw (ea, eb) rest
      by true false ea eb rest = let no : true ≡ false = sym h ∙ ap p (sym (bytes_same x.key k ea)) ∙ eb in absurd cc

  below-part : (k : List ℕ) (m : List Entry) → IsBelowAll k m → IsBelowAll k (part m)
  below-part k [] a = tt
  below-part k (x ∷ m) a = by (p x.key) (below-part k m a.1)
    where
      by : (b : Bool) → IsBelowAll k (part m) → IsBelowAll k (cond b (x ∷ part m) (part m))
      by true r = (a.0, r)
      by false r = r

  pub ascends-part : (m : List Entry) → Ascends m → Ascends (part m)
  ascends-part [] a = tt
  ascends-part (x ∷ m) a = by (p x.key) (ascends-part m a.1)
    where
      by : (b : Bool) → Ascends (part m) → Ascends (cond b (x ∷ part m) (part m))
      by true r = (below-part x.key m a.0, r)
      by false r = r

  entries-part : (m : List Entry) → AllByRecursion IsEntry m → AllByRecursion IsEntry (part m)
  entries-part [] a = tt
  entries-part (x ∷ m) a = by (p x.key) (entries-part m a.1)
    where
      by : (b : Bool) → AllByRecursion IsEntry (part m) → AllByRecursion IsEntry (cond b (x ∷ part m) (part m))
      by true r = (a.0, r)
      by false r = r

  length-part : (m : List Entry) → length (part m) ≤ length m
  length-part [] = omega arith
  length-part (x ∷ m) = by (p x.key) (length-part m)
    where
      by : (b : Bool) → length (part m) ≤ length m → length (cond b (x ∷ part m) (part m)) ≤ length (x ∷ m)
      by true r = omega arith
      by false r = omega arith

  pub map_part : (m : List Entry) → IsMap m → IsMap (part m)
  map_part m a = record { ascends = ascends-part m a.ascends; entries = entries-part m a.entries; few = le_lt (length (part m)) (length m) (2 ^ 32) (length-part m) a.few }
    where
      le_lt : (a b c : ℕ) → a ≤ b → b < c → a < c
      le_lt a b c h k = omega arith

  pub put-part : (e : Entry) → p e.key ≡ true → (m : List Entry) → Ascends m → part (put e m) ≡ put e (part m)
  put-part e h [] a = rw h refl
  put-part e h (x ∷ m) a = by (bytes_cmp e.key x.key) (p x.key) refl refl (put-part e h m a.1)
    where
      by : (o : Ordering) (w : Bool) → bytes_cmp e.key x.key ≡ o → p x.key ≡ w → part (put e m) ≡ put e (part m) → part (put e (x ∷ m)) ≡ put e (part (x ∷ m))
      by Equal true eo ew rest = rw (eo, ew) (rw (eo, h) refl)
      by Equal false eo ew rest = let no : true ≡ false = sym h ∙ ap p (cmp_equal e.key x.key eo) ∙ ew in absurd cc
      by Less true eo ew rest = rw (eo, ew) (rw (eo, h) refl)
      by Less false eo ew rest = rw (eo, ew) (rw h (sym (put-prefix e (part m) (below-part e.key m (below_trans e.key x.key m eo a.0)))))
      by Greater true eo ew rest = rw (eo, ew) (rw eo (ap (λ xs. x ∷ xs) rest))
      by Greater false eo ew rest = rw (eo, ew) rest

  pub put-other : (e : Entry) → p e.key ≡ false → (m : List Entry) → part (put e m) ≡ part m
  put-other e h [] = rw h refl
  put-other e h (x ∷ m) = by (bytes_cmp e.key x.key) (p x.key) refl refl (put-other e h m)
    where
      by : (o : Ordering) (w : Bool) → bytes_cmp e.key x.key ≡ o → p x.key ≡ w → part (put e m) ≡ part m → part (put e (x ∷ m)) ≡ part (x ∷ m)
      by Equal true eo ew rest = let no : false ≡ true = sym h ∙ ap p (cmp_equal e.key x.key eo) ∙ ew in absurd cc
      by Equal false eo ew rest = rw (eo, ew) (rw h refl)
      by Less w eo ew rest = rw eo (rw h refl)
      by Greater true eo ew rest = rw (eo, ew) (ap (λ xs. x ∷ xs) rest)
      by Greater false eo ew rest = rw (eo, ew) rest

pub below-put : (k : List ℕ) (e : Entry) (m : List Entry) → bytes_cmp k e.key ≡ Less → IsBelowAll k m → IsBelowAll k (put e m)
below-put k e [] l a = (l, tt)
below-put k e (x ∷ m) l a = by (bytes_cmp e.key x.key) (below-put k e m l a.1)
  where
    by : (o : Ordering) → IsBelowAll k (put e m) → IsBelowAll k (placed o e x m (put e m))
    by Equal r = (l, a.1)
    by Less r = (l, a)
    by Greater r = (a.0, r)

pub ascends-put : (e : Entry) (m : List Entry) → Ascends m → Ascends (put e m)
ascends-put e [] a = (tt, tt)
ascends-put e (x ∷ m) a = by (bytes_cmp e.key x.key) refl (ascends-put e m a.1)
  where
    by : (o : Ordering) → bytes_cmp e.key x.key ≡ o → Ascends (put e m) → Ascends (placed o e x m (put e m))
    by Equal eo r = (subst (λ k. IsBelowAll k m) (sym (cmp_equal e.key x.key eo)) a.0, a.1)
    by Less eo r = ((eo, below_trans e.key x.key m eo a.0), a)
    by Greater eo r = (below-put x.key e m (less_back e.key x.key eo) a.0, r)

entries-put : (e : Entry) (m : List Entry) → IsEntry e → AllByRecursion IsEntry m → AllByRecursion IsEntry (put e m)
entries-put e [] f a = (f, tt)
entries-put e (x ∷ m) f a = by (bytes_cmp e.key x.key) (entries-put e m f a.1)
  where
    by : (o : Ordering) → AllByRecursion IsEntry (put e m) → AllByRecursion IsEntry (placed o e x m (put e m))
    by Equal r = (f, a.1)
    by Less r = (f, a)
    by Greater r = (a.0, r)

pub map_put : (e : Entry) (m : List Entry) → IsEntry e → length (put e m) < 2 ^ 32 → IsMap m → IsMap (put e m)
map_put e m f l a = record { ascends = ascends-put e m a.ascends; entries = entries-put e m f a.entries; few = l }

pub named-put : (e : Entry) (m : List Entry) (t : List ℕ) → named (put e m) t ≡ named (e ∷ []) t
named-put e [] t = refl
named-put e (x ∷ m) t = by (bytes_cmp e.key x.key)
  where
    by : (o : Ordering) → named (placed o e x m (put e m)) t ≡ named (e ∷ []) t
    by Equal = refl
    by Less = refl
    by Greater = refl

-- ## Sorted entries are determined by their look-ups

lookup_below : (k : List ℕ) (m : List Entry) → IsBelowAll k m → lookup k m ≡ None
lookup_below k [] a = refl
lookup_below k (x ∷ m) a = rw (not_same x.key k (λ e. less_not_same k x.key a.0 (sym e))) (lookup_below k m a.1)

found_first : (x : Entry) (m : List Entry) → lookup x.key (x ∷ m) ≡ Some x
found_first x m = rw (bytes_itself x.key) refl

lower_first : (x y : Entry) (m n : List Entry) → bytes_cmp x.key y.key ≡ Less → Ascends (y ∷ n) → ((k : List ℕ) → lookup k (x ∷ m) ≡ lookup k (y ∷ n)) → ⊥
lower_first x y m n l a same =
    let none : lookup x.key (y ∷ n) ≡ None = lookup_below x.key (y ∷ n) (l, below_trans x.key y.key n l a.0) in
    let bad : Some x ≡ None = sym (found_first x m) ∙ same x.key ∙ none in absurd cc

tails : (x y : Entry) (m n : List Entry) → x ≡ y → IsBelowAll x.key m → IsBelowAll y.key n → ((k : List ℕ) → lookup k (x ∷ m) ≡ lookup k (y ∷ n)) → (k : List ℕ) → lookup k m ≡ lookup k n
tails x y m n is a b same k = by (same_bytes x.key k) refl
  where
    keys : x.key ≡ y.key
    keys = ap (λ (e : Entry). e.key) is

    by : (t : Bool) → same_bytes x.key k ≡ t → lookup k m ≡ lookup k n
    by true e =
        let at : x.key ≡ k = bytes_same x.key k e in
        lookup_below k m (subst (λ j. IsBelowAll j m) at a) ∙ sym (lookup_below k n (subst (λ j. IsBelowAll j n) (sym keys ∙ at) b))
    by false e =
        let f : same_bytes y.key k ≡ false = rw keys at e in
        sym (ap (λ c. cond c (Some x) (lookup k m)) e) ∙ same k ∙ ap (λ c. cond c (Some y) (lookup k n)) f

pub same_entries : (m n : List Entry) → Ascends m → Ascends n → ((k : List ℕ) → lookup k m ≡ lookup k n) → m ≡ n
same_entries [] [] a b same = refl
same_entries [] (y ∷ n) a b same = let bad : None ≡ Some y = same y.key ∙ found_first y n in absurd cc
same_entries (x ∷ m) [] a b same = let bad : Some x ≡ None = sym (found_first x m) ∙ same x.key in absurd cc
same_entries (x ∷ m) (y ∷ n) a b same = by (bytes_cmp x.key y.key) refl (λ is. same_entries m n a.1 b.1 (tails x y m n is a.0 b.0 same))
  where
    by : (o : Ordering) → bytes_cmp x.key y.key ≡ o → (x ≡ y → m ≡ n) → x ∷ m ≡ y ∷ n
    by Less e rest = absurd (lower_first x y m n e b same)
    by Greater e rest = absurd (lower_first y x n m (less_back x.key y.key e) a (λ k. sym (same k)))
    by Equal e rest =
        let keys : x.key ≡ y.key = cmp_equal x.key y.key e in
        let one : Some x ≡ Some y = sym (found_first x m) ∙ same x.key ∙ ap (λ q. lookup q (y ∷ n)) keys ∙ found_first y n in
        let is : x ≡ y = cc in rw (is, rest is) refl
