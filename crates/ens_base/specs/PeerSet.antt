-- A set of peers, as one flag for each number from 0 to 31.
use Rattle.std.specs.Prelude.{ℕ, Bool, false, List, slice_index_or}

-- whether the set contains the number
abbrev pub holds : List Bool → ℕ → Bool
holds flags peer = slice_index_or flags peer false
