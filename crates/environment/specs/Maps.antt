-- Finite maps from bytes to bytes, as lists of entries whose keys ascend.
use Rattle.std.specs.Prelude.{ℕ, List, Option}
use Rattle.std.specs.BTreeMap.{is_at, insert_entry}
use Rattle.std.specs.Map.{lookup}
use Rattle.ens_base.specs.Lists.{bytes_cmp}

-- the entries of a map: pairs of a key and the bytes under it
abbrev pub Entries : Type 0
Entries = List (List ℕ × List ℕ)

-- the bytes under the key, if there are any
abbrev pub value_at : List ℕ → Entries → Option (List ℕ)
value_at key es = lookup (is_at (bytes_cmp key)) es

-- the map with these bytes stored under the key
abbrev pub with_value : List ℕ → List ℕ → Entries → Entries
with_value key bytes es = insert_entry bytes_cmp es key bytes
