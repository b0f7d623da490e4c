-- Finite maps from bytes to bytes that lose entries, and the map of the entries of a table.
use Rattle.std.specs.Prelude.{ℕ, List, [], ◌∷◌}
use Rattle.std.specs.BTreeMap.{is_at}
use Rattle.std.specs.Map.{remove_entry}
use Rattle.ens_base.specs.Lists.{bytes_cmp}
use Rattle.environment.specs.Maps.{Entries, with_value}

-- the map without the entry of this key
abbrev pub without : List ℕ → Entries → Entries
without key es = remove_entry (is_at (bytes_cmp key)) es

-- the map with these entries, no two of which have one key
abbrev pub map_of : Entries → Entries
map_of [] = []
map_of (e ∷ es) = with_value e.0 e.1 (map_of es)
