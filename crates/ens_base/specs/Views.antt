-- The views of an epoch: one view, or two, the new one first.
use Rattle.std.specs.Prelude.{◌≡◌, ℕ, List, [], ◌∷◌, Option, None, Some}
use Rattle.std.proofs.Common.{refl}
use Rattle.ens_base.specs.declared.views.Views.TheInside.{Inside}

-- the new view, or the only one
abbrev pub first_view : List (List ℕ) → List ℕ
first_view [] = []
first_view (view ∷ rest) = view

-- the old view, or the only one
abbrev pub last_view : List (List ℕ) → List ℕ
last_view [] = []
last_view (view ∷ []) = view
last_view (view ∷ old ∷ rest) = old

abbrev views_of : List ℕ → Option (List ℕ) → List (List ℕ)
views_of first None = first ∷ []
views_of first (Some last) = first ∷ last ∷ []

-- the list of views that the fields stand for
abbrev pub views_list : Inside → List (List ℕ)
views_list v = views_of v.first v.second

abbrev pub views_from : List (List ℕ) → Inside
views_from [] = record { first = []; second = None }
views_from (first ∷ []) = record { first = first; second = None }
views_from (first ∷ last ∷ rest) = record { first = first; second = Some last }

again : (first : List ℕ) (second : Option (List ℕ)) → let v : Inside = record { first = first; second = second } in views_from (views_list v) ≡ v
again first None = refl
again first (Some last) = refl

pub views_again : (v : Inside) → Unit {0} → views_from (views_list v) ≡ v
views_again v _ = again v.first v.second
