-- The words of the program.
use Rattle.std.specs.Prelude.{ℕ, Bool, true, false, List, [], ◌∷◌, codes, Option, Some, None, if◌then◌else◌}
use Rattle.ens_base.specs.Lists.{same_bytes}

-- Whether the words ask for names, if they ask for anything. The first one is the name of the program; after
-- it comes none, or `names`.
abbrev pub names_of : List (List ℕ) → Option Bool
names_of [] = Some false
names_of (program ∷ []) = Some false
names_of (program ∷ word ∷ []) = if same_bytes word (codes "names") then Some true else None
names_of (program ∷ word ∷ other ∷ more) = None
