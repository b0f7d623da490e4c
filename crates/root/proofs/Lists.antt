-- Lists: prefixes and rests, and maps that are functions of numbers.
use Rattle.std.proofs.Common.{◌≡◌, ℕ, zero, suc, ◌+◌, ◌<◌, ◌≤◌, List, [], ◌∷◌, ◌++◌, length, drop, take, get_or, slice_get, Option, Some, None, inl, inr, refl, sym, ap, ◌∙◌, arith, add-one}
use Rattle.std.proofs.lemmas.Option.{same_Some, none-some}
use Rattle.ens_base.specs.Lists.{◌∈◌}

pub drop_prefix : {A : Type 0} (xs ys : List A) → drop (length xs) (xs ++ ys) ≡ ys
drop_prefix [] ys = refl
drop_prefix (x ∷ xs) ys = drop_prefix xs ys

pub drop_past : {A : Type 0} (n : ℕ) (xs : List A) → length xs ≤ n → drop n xs ≡ []
drop_past zero [] h = refl
drop_past zero (x ∷ xs) h = absurd (omega arith)
drop_past (suc n) [] h = refl
drop_past (suc n) (x ∷ xs) h = drop_past n xs (omega arith)

-- what is at a place is in the list, and what is in a list has a place
pub in_place : {A : Type 0} (all : List A) (place : ℕ) (x : A) → slice_get all place ≡ Some x → x ∈ all
in_place [] place x here = absurd (none-some x here)
in_place (e ∷ es) zero x here = inl (sym (same_Some e x here))
in_place (e ∷ es) (suc place) x here = inr (in_place es place x here)

pub place_of : {A : Type 0} (all : List A) (x : A) → x ∈ all → (place : ℕ) × (slice_get all place ≡ Some x)
place_of [] x m = absurd m
place_of {A = A} (e ∷ es) x (inl is) = (0, ap (λ (y : A). Some y) (sym is))
place_of (e ∷ es) x (inr m) = let rest = place_of es x m in (suc rest.0, rest.1)

pub found_at : {A : Type 0} (all : List A) (place : ℕ) (x : A) → place < length all → x ≡ get_or all place x → slice_get all place ≡ Some x
found_at [] place x lt is = absurd (omega (arith, lt))
found_at {A = A} (e ∷ es) zero x lt is = ap (λ (y : A). Some y) (sym is)
found_at (e ∷ es) (suc place) x lt is = found_at es place x (omega (arith, lt)) is

-- one answer is the other
pub same_found : {A : Type 0} (o p : Option A) (x y : A) → p ≡ Some x → o ≡ Some y → o ≡ p → x ≡ y
same_found o p x y one other is = same_Some x y (sym one ∙ sym is ∙ other)

pub none_found : {A : Type 0} (o p : Option A) (x : A) → p ≡ Some x → o ≡ None → o ≡ p → ⊥
none_found o p x one none is = none-some x (sym none ∙ is ∙ one)

-- the first elements, and one more
pub take_one : {A : Type 0} (all : List A) (place : ℕ) (x : A) → slice_get all place ≡ Some x → take (place + 1) all ≡ take place all ++ x ∷ []
take_one {A = A} all place x here = ap (λ (k : ℕ). take k all) (add-one place) ∙ at all place x here
  where
    at : (all : List A) (place : ℕ) (x : A) → slice_get all place ≡ Some x → take (suc place) all ≡ take place all ++ x ∷ []
    at [] place x here = absurd (none-some x here)
    at (e ∷ es) zero x here = ap (λ (y : A). y ∷ []) (same_Some e x here)
    at (e ∷ es) (suc place) x here = ap (λ (l : List A). e ∷ l) (at es place x here)

pub drop_one : {A : Type 0} (all : List A) (place : ℕ) (x : A) → slice_get all place ≡ Some x → drop place all ≡ x ∷ drop (place + 1) all
drop_one {A = A} all place x here = at all place x here ∙ ap (λ (k : ℕ). x ∷ drop k all) (sym (add-one place))
  where
    at : (all : List A) (place : ℕ) (x : A) → slice_get all place ≡ Some x → drop place all ≡ x ∷ drop (suc place) all
    at [] place x here = absurd (none-some x here)
    at (e ∷ es) zero x here = ap (λ (y : A). y ∷ es) (same_Some e x here)
    at (e ∷ es) (suc place) x here = at es place x here

pub parted : {A : Type 0} (all : List A) (place : ℕ) → all ≡ take place all ++ drop place all
parted [] zero = refl
parted [] (suc place) = refl
parted (e ∷ es) zero = refl
parted {A = A} (e ∷ es) (suc place) = ap (λ (l : List A). e ∷ l) (parted es place)

pub split_at : {A : Type 0} (all : List A) (place : ℕ) (x : A) → slice_get all place ≡ Some x → all ≡ take place all ++ x ∷ drop (place + 1) all
split_at {A = A} all place x here = parted all place ∙ ap (λ (l : List A). take place all ++ l) (drop_one all place x here)
