-- All members of a view are a majority of it, if it has a member.
use Rattle.std.proofs.Common.{◌≡◌, ℕ, ◌<◌, Bool, true, List, [], ◌∷◌, length, count_by, arith, refl}
use Rattle.std.specs.List.{AllByRecursion}
use Rattle.std.proofs.lemmas.Bool.Decides.{nat_tests}
use Rattle.std.proofs.lemmas.List.Elements.{recursion_from_All}
use Rattle.ens_base.specs.View.{IsView}
use Rattle.quorums.proofs.Majorities.{count-cons}
use Rattle.quorums.specs.Quorums.{is_majority, HasAll}

all_count : (s : ℕ → Bool) (v : List ℕ) → AllByRecursion (λ m. s m ≡ true) v → count_by s v ≡ length v
all_count s [] h = refl
all_count s (x ∷ v) h = rw (count-cons s x v, h.0, all_count s v h.1) (omega arith)

majority_of_filled : (s : ℕ → Bool) (v : List ℕ) → 0 < length v → HasAll s v → is_majority s v ≡ true
majority_of_filled s v n h = grind (arith, nat_tests, all_count s v (recursion_from_All (λ m. s m ≡ true) v h))

pub majority_of_all : (s : ℕ → Bool) (v : List ℕ) → IsView v → HasAll s v → is_majority s v ≡ true
majority_of_all s v h all = majority_of_filled s v (omega (arith, h.size.0)) all
