-- A loop that writes what a list gives into the places of another, one by one.
use Rattle.std.proofs.Common.{◌≡◌, ℕ, zero, suc, ◌+◌, ◌<◌, List, [], ◌∷◌, ◌++◌, length, get_or, set, take, drop, map, refl, ap, arith}

fills : {A B : Type 0} (f : A → B) (xs : List A) (ys : List B) (i : ℕ) (d : A) → i < length xs → length ys ≡ length xs → set (map f (take i xs) ++ drop i ys) i (f (get_or xs i d)) ≡ map f (take (suc i) xs) ++ drop (suc i) ys
fills f [] ys i d l same = absurd (omega arith)
fills f (x ∷ xs) [] i d l same = absurd (omega (arith, same))
fills f (x ∷ xs) (y ∷ ys) zero d l same = refl
fills f (x ∷ xs) (y ∷ ys) (suc i) d l same = ap (λ zs. f x ∷ zs) (fills f xs ys i d (omega arith) (omega (arith, same)))

pub fills_more : {A B : Type 0} (f : A → B) (xs : List A) (ys zs : List B) (i : ℕ) (x : A) (r : B) → i < length xs → length ys ≡ length xs → zs ≡ map f (take i xs) ++ drop i ys → x ≡ get_or xs i x → r ≡ f x → set zs i r ≡ map f (take (i + 1) xs) ++ drop (i + 1) ys
fills_more f xs ys zs i x r l same before at is =
    let next : i + 1 ≡ suc i = omega arith in
    rw (before, is, next, at) (fills f xs ys i x l same)
