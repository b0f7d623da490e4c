-- Equal bytes, and members of mapped lists and of concatenations.
use Rattle.std.proofs.Common.{◌≡◌, ◌≤◌, ◌⊎◌, ◌==◌, ℕ, zero, suc, Bool, true, false, List, [], ◌∷◌, ◌++◌, eqb, length, map, take, inl, inr, refl, ap, arith}
use Rattle.std.specs.Prelude.{◌||◌}
use Rattle.std.proofs.lemmas.Bool.{false≢true, eqb-true, eq-eqb}
use Rattle.std.proofs.lemmas.Slice.Eq.{bytes_eq-Decides}
use Rattle.ens_base.specs.Lists.{◌∈◌, is_in, same_bytes}

-- equal bytes are equal lists
pub bytes_same : (xs ys : List ℕ) → same_bytes xs ys ≡ true → xs ≡ ys
bytes_same xs ys h = (bytes_eq-Decides xs ys).0 h

pub bytes_itself : (xs : List ℕ) → same_bytes xs xs ≡ true
bytes_itself xs = (bytes_eq-Decides xs xs).1 refl

pub in-map : {A B : Type 0} (f : A → B) (xs : List A) (x : A) → x ∈ xs → f x ∈ map f xs
in-map f [] x h = absurd h
in-map f (y ∷ ys) x (inl e) = inl (ap f e)
in-map f (y ∷ ys) x (inr h) = inr (in-map f ys x h)

pub from_map : {A B : Type 0} (f : A → B) (xs : List A) (y : B) → y ∈ map f xs → (x : A) × (x ∈ xs) × (y ≡ f x)
from_map f [] y h = absurd h
from_map f (x ∷ xs) y (inl e) = (x, inl refl, e)
from_map f (x ∷ xs) y (inr h) = let later = from_map f xs y h in (later.0, inr later.1, later.2)

pub in_append : {A : Type 0} (xs ys : List A) (z : A) → z ∈ (xs ++ ys) → (z ∈ xs) ⊎ (z ∈ ys)
in_append [] ys z h = inr h
in_append (x ∷ xs) ys z (inl e) = inl (inl e)
in_append (x ∷ xs) ys z (inr h) = more (in_append xs ys z h)
  where
    more : (z ∈ xs) ⊎ (z ∈ ys) → ((z ≡ x) ⊎ (z ∈ xs)) ⊎ (z ∈ ys)
    more (inl p) = inl (inr p)
    more (inr p) = inr p

pub in_left : {A : Type 0} (xs ys : List A) (z : A) → z ∈ xs → z ∈ (xs ++ ys)
in_left [] ys z h = absurd h
in_left (x ∷ xs) ys z (inl e) = inl e
in_left (x ∷ xs) ys z (inr h) = inr (in_left xs ys z h)

pub in_right : {A : Type 0} (xs ys : List A) (z : A) → z ∈ ys → z ∈ (xs ++ ys)
in_right [] ys z h = h
in_right (x ∷ xs) ys z h = inr (in_right xs ys z h)

-- the test of membership decides it
pub in_tested : (xs : List ℕ) (q : ℕ) → is_in xs q ≡ true → q ∈ xs
in_tested [] q h = absurd (false≢true h)
in_tested (x ∷ xs) q h = by_cases (in_tested xs q) (eqb q x) refl h
  where
    by_cases : (is_in xs q ≡ true → q ∈ xs) → (b : Bool) → eqb q x ≡ b → (b || is_in xs q) ≡ true → (q ≡ x) ⊎ (q ∈ xs)
    by_cases rest true t h = inl (eqb-true q x t)
    by_cases rest false t h = inr (rest h)

pub tested_in : (xs : List ℕ) (q : ℕ) → q ∈ xs → is_in xs q ≡ true
tested_in [] q h = absurd h
tested_in (x ∷ xs) q (inl e) = rw (eq-eqb q x e) refl
tested_in (x ∷ xs) q (inr h) = by_cases (tested_in xs q h) (eqb q x)
  where
    by_cases : is_in xs q ≡ true → (b : Bool) → (b || is_in xs q) ≡ true
    by_cases rest true = refl
    by_cases rest false = rest

-- one more number
pub is_in-push : (ns : List ℕ) (m n : ℕ) → is_in (ns ++ m ∷ []) n ≡ (is_in ns n || n == m)
is_in-push [] m n = grind arith
is_in-push (k ∷ ns) m n = let rest = is_in-push ns m n in grind arith

-- a prefix has at most its length
pub take_few : {A : Type 0} (n : ℕ) (xs : List A) → length (take n xs) ≤ n
take_few zero xs = omega arith
take_few (suc n) [] = omega arith
take_few (suc n) (x ∷ xs) = omega (arith, take_few n xs)
