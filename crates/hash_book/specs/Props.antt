-- Strings are free of clashes in one way, so that a ghost field may hold it.
use Rattle.std.specs.Prelude.{ℕ, List, [], ◌∷◌, Contains}
use Rattle.ens_base.specs.Lists.{◌∈◌, AreDistinct}
use Rattle.hash_book.specs.Hashing.{IsClash, IsClashFree}
use denote.Struct.Props.{props}

AreDistinct-prop : {A : Type 0} (xs : List A) → IsProp (AreDistinct xs)
AreDistinct-prop [] = hlevel props
AreDistinct-prop (x ∷ xs) =
    let here : IsProp (¬ (x ∈ xs)) = hlevel props in
    let later : IsProp (AreDistinct xs) = AreDistinct-prop xs in
    λ p q i. (here p.0 q.0 i, later p.1 q.1 i)

pub IsClashFree-prop : (kept : List (List ℕ)) → IsProp (IsClashFree kept)
IsClashFree-prop kept x y =
    let distinct_prop : IsProp (AreDistinct kept) = AreDistinct-prop kept in
    let apart_prop : IsProp ((first second : List ℕ) → Contains kept first → Contains kept second → ¬ IsClash first second) = hlevel props in
    λ i. record {
      distinct = distinct_prop x.distinct y.distinct i;
      apart = apart_prop x.apart y.apart i;
    }
