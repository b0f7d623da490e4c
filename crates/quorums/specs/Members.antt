-- The members of views, as a set. A set is one flag for each number from 0 to 31.
use Rattle.std.specs.Prelude.{ℕ, Bool, false, List, ◌∷◌, map}
use Rattle.std.specs.List.{range_with_len}
use Rattle.quorums.specs.Quorums.{is_member}

-- the peers, 1 to 31, that pass the test
abbrev pub those : (ℕ → Bool) → List Bool
those test = false ∷ map test (range_with_len 1 31)

-- the members of all the views
abbrev pub members : List (List ℕ) → List Bool
members views = those (is_member views)
