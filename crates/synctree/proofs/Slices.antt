-- The parts of a list before a place and behind it.
use Rattle.std.proofs.Common.{◌≡◌, ℕ, zero, suc, ◌+◌, ◌<◌, ◌≤◌, List, [], ◌∷◌, ◌++◌, length, get_or, take, drop, refl, ap, sym, arith}

pub drop_at : {A : Type 0} (xs : List A) (i : ℕ) (x d : A) → i < length xs → x ≡ get_or xs i d → drop i xs ≡ x ∷ drop (i + 1) xs
drop_at {A = A} xs i x d l e = let next : i + 1 ≡ suc i = omega arith in rw next (by xs i l e)
  where
    by : (ys : List A) (j : ℕ) → j < length ys → x ≡ get_or ys j d → drop j ys ≡ x ∷ drop (suc j) ys
    by [] j l e = absurd (omega arith)
    by (y ∷ ys) zero l e = ap (λ z. z ∷ ys) (sym e)
    by (y ∷ ys) (suc j) l e = by ys j (omega arith) e

pub drop_all : {A : Type 0} (xs : List A) (i : ℕ) → length xs ≤ i → drop i xs ≡ []
drop_all [] zero h = refl
drop_all [] (suc i) h = refl
drop_all (x ∷ xs) zero h = absurd (omega arith)
drop_all (x ∷ xs) (suc i) h = drop_all xs i (omega arith)

pub take_at : {A : Type 0} (xs : List A) (i : ℕ) (x d : A) → i < length xs → x ≡ get_or xs i d → take (i + 1) xs ≡ take i xs ++ x ∷ []
take_at {A = A} xs i x d l e = let next : i + 1 ≡ suc i = omega arith in rw next (by xs i l e)
  where
    by : (ys : List A) (j : ℕ) → j < length ys → x ≡ get_or ys j d → take (suc j) ys ≡ take j ys ++ x ∷ []
    by [] j l e = absurd (omega arith)
    by (y ∷ ys) zero l e = ap (λ z. z ∷ []) (sym e)
    by (y ∷ ys) (suc j) l e = ap (λ zs. y ∷ zs) (by ys j (omega arith) e)

pub take_all : {A : Type 0} (xs : List A) (i : ℕ) → length xs ≤ i → take i xs ≡ xs
take_all [] zero h = refl
take_all [] (suc i) h = refl
take_all (x ∷ xs) zero h = absurd (omega arith)
take_all (x ∷ xs) (suc i) h = ap (λ zs. x ∷ zs) (take_all xs i (omega arith))
