-- Membership in a list, by recursion and by position.
use Rattle.std.proofs.Common.{◌≡◌, ℕ, zero, suc, ◌<◌, List, [], ◌∷◌, length, get_or, sym, inl, inr, arith}
use Rattle.std.specs.Prelude.{Contains}
use Rattle.ens_base.specs.Lists.{◌∈◌}

at_place : {A : Type 0} (xs : List A) (x : A) (k : ℕ) → k < length xs → get_or xs k x ≡ x → x ∈ xs
at_place [] x k lt e = absurd (omega arith)
at_place (y ∷ ys) x zero lt e = inl (sym e)
at_place (y ∷ ys) x (suc k) lt e = inr (at_place ys x k (omega arith) e)

pub in_from_Contains : {A : Type 0} (xs : List A) (x : A) → Contains xs x → x ∈ xs
in_from_Contains xs x h = at_place xs x h.0 h.1 h.2

pub Contains_from_in : {A : Type 0} (xs : List A) (x : A) → x ∈ xs → Contains xs x
Contains_from_in [] x h = absurd h
Contains_from_in (y ∷ ys) x (inl e) = (0, omega arith, sym e)
Contains_from_in (y ∷ ys) x (inr h) = let there = Contains_from_in ys x h in (suc there.0, omega (arith, there.1), there.2)
