-- Queues of places.
use Rattle.std.specs.Prelude.{ℕ, ◌==◌, Bool, false, Option, Some, None, List, [], ◌∷◌}

abbrev pub list_or_empty : Option (List ℕ) → List ℕ
list_or_empty None = []
list_or_empty (Some xs) = xs

abbrev pub first_of : List ℕ → Option ℕ
first_of [] = None
first_of (n ∷ ns) = Some n

abbrev pub rest_of : List ℕ → List ℕ
rest_of [] = []
rest_of (n ∷ ns) = ns

-- whether this is the first place
abbrev pub first_is : ℕ → Option ℕ → Bool
first_is n None = false
first_is n (Some m) = m == n
