-- What tests of flags and numbers come to, and what holds of an option or a result.
use Rattle.std.proofs.Common.{◌≡◌, ◌++◌, ◌==◌, ℕ, Bool, true, false, cond, not, nat_cmp, List, [], ◌∷◌, Option, None, Some, Result, Ok, Err, refl, ap, arith}
use Rattle.std.specs.Prelude.{IsSome, OnErr}
use Rattle.std.specs.BTreeMap.{is_at}
use Rattle.std.proofs.lemmas.Bool.{both_ways, eq-eqb, false_from_ne_true, not_from_false}
use Rattle.std.proofs.lemmas.Bool.Decides.{nat_tests}

-- a number is tested as equal to itself
pub itself : (n : ℕ) → (n == n) ≡ true
itself n = eq-eqb n n refl

-- a key that is a number is looked up by its equality
pub at_number : (a b : ℕ) → is_at (nat_cmp a) b ≡ (a == b)
at_number a b = grind (arith, nat_tests)

pub apart : (b : Bool) → b ≡ true → b ≡ false → ⊥
apart b h k = both_ways b k h

pub true_of_not : (b : Bool) → (b ≡ true → ⊥) → not b ≡ true
true_of_not b h = not_from_false b (false_from_ne_true b h)

-- two tests that agree are equal
pub same_test : (a b : Bool) → (a ≡ true → b ≡ true) → (b ≡ true → a ≡ true) → a ≡ b
same_test a b there back = grind (arith, nat_tests)

pub either_way : (b : Bool) (xs : List ℕ) → cond b xs xs ≡ xs
either_way true xs = refl
either_way false xs = refl

pub last_or_none : {A : Type 0} (b : Bool) (xs : List A) (x : A) → xs ++ cond b (x ∷ []) [] ≡ cond b (xs ++ x ∷ []) xs
last_or_none true xs x = refl
last_or_none false [] x = refl
last_or_none false (y ∷ ys) x = ap (λ zs. y ∷ zs) (last_or_none false ys x)

pub some_of : {A : Type 0} (o : Option A) (x : A) → Some x ≡ o → IsSome o
some_of None x h = absurd cc
some_of (Some y) x h = refl

-- what holds in any case holds after an error
pub on_err : {T E : Type 0} (r : Result T E) (P : Type 0) → P → OnErr r P
on_err (Ok x) P p = tt
on_err (Err e) P p = p
