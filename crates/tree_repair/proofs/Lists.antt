-- Lists of what a function gives at each place, and lists that grow.
use Rattle.std.proofs.Common.{◌≡◌, ℕ, zero, suc, ◌+◌, ◌<◌, ◌≤◌, List, [], ◌∷◌, ◌++◌, Option, None, Some, length, get_or, set, drop, map, refl, ap, sym, ◌∙◌, arith}
use Rattle.synctree.specs.Maps.{each_of}
use Rattle.tree_repair.specs.Builds.{somes}

-- what was set lies before the rest
pub drop_set : {A : Type 0} (xs : List A) (i : ℕ) (v : A) → drop (i + 1) (set xs i v) ≡ drop (i + 1) xs
drop_set {A = A} xs i v = let next : i + 1 ≡ suc i = omega arith in rw next (by xs i)
  where
    by : (ys : List A) (j : ℕ) → drop (suc j) (set ys j v) ≡ drop (suc j) ys
    by [] zero = refl
    by [] (suc j) = refl
    by (y ∷ ys) zero = refl
    by (y ∷ ys) (suc j) = by ys j

drop_one : {A : Type 0} (xs : List A) (i : ℕ) → drop (i + 1) xs ≡ drop 1 (drop i xs)
drop_one {A = A} xs i = let next : i + 1 ≡ suc i = omega arith in rw next (by xs i)
  where
    by : (ys : List A) (j : ℕ) → drop (suc j) ys ≡ drop 1 (drop j ys)
    by [] zero = refl
    by [] (suc j) = refl
    by (y ∷ ys) zero = refl
    by (y ∷ ys) (suc j) = by ys j

pub drop_further : {A : Type 0} (xs ys : List A) (i : ℕ) → drop i xs ≡ drop i ys → drop (i + 1) xs ≡ drop (i + 1) ys
drop_further xs ys i e = drop_one xs i ∙ ap (λ zs. drop 1 zs) e ∙ sym (drop_one ys i)

get_drop : {A : Type 0} (xs : List A) (i : ℕ) (d : A) → get_or (drop i xs) 0 d ≡ get_or xs i d
get_drop [] zero d = refl
get_drop [] (suc i) d = refl
get_drop (x ∷ xs) zero d = refl
get_drop (x ∷ xs) (suc i) d = get_drop xs i d

-- the item where two lists begin to be the same
pub get_same : {A : Type 0} (xs ys : List A) (i : ℕ) (x : A) → drop i xs ≡ drop i ys → x ≡ get_or xs i x → x ≡ get_or ys i x
get_same xs ys i x e is = is ∙ sym (get_drop xs i x) ∙ ap (λ zs. get_or zs 0 x) e ∙ get_drop ys i x

pub get_map_or : {A B : Type 0} (f : A → B) (xs : List A) (i : ℕ) (x : A) (d : B) → i < length xs → x ≡ get_or xs i x → get_or (map f xs) i d ≡ f x
get_map_or f [] i x d l e = absurd (omega arith)
get_map_or f (y ∷ ys) zero x d l e = ap f (sym e)
get_map_or f (y ∷ ys) (suc i) x d l e = get_map_or f ys i x d (omega arith) e

pub length_set : {A : Type 0} (xs : List A) (i : ℕ) (v : A) → length (set xs i v) ≡ length xs
length_set [] i v = refl
length_set (x ∷ xs) zero v = refl
length_set (x ∷ xs) (suc i) v = ap suc (length_set xs i v)

pub append_nil : {A : Type 0} (xs : List A) → xs ++ [] ≡ xs
append_nil [] = refl
append_nil (x ∷ xs) = ap (λ ys. x ∷ ys) (append_nil xs)

pub somes_cons : {A : Type 0} (x : Option A) (xs : List (Option A)) → somes (x ∷ xs) ≡ somes (x ∷ []) ++ somes xs
somes_cons None xs = refl
somes_cons (Some x) xs = refl

pub each_from : {A : Type 0} (f g : ℕ → A) (n i j : ℕ) → ((p q : ℕ) → i ≤ p → p < i + n → p + j ≡ q + i → f p ≡ g q) → each_of f n i ≡ each_of g n j
each_from f g zero i j h = refl
each_from f g (suc n) i j h = rw (h i j (omega arith) (omega arith) (omega arith), each_from f g n (i + 1) (j + 1) (λ p q a b e. h p q (omega arith) (omega arith) (omega arith))) refl

pub map_map : {A B C : Type 0} (f : B → C) (g : A → B) (xs : List A) → map f (map g xs) ≡ map (λ x. f (g x)) xs
map_map f g [] = refl
map_map f g (x ∷ xs) = ap (λ ys. f (g x) ∷ ys) (map_map f g xs)

pub length_of_map : {A B : Type 0} (f : A → B) (xs : List A) → length (map f xs) ≡ length xs
length_of_map f [] = refl
length_of_map f (x ∷ xs) = ap suc (length_of_map f xs)
