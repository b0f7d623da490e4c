-- The nodes and the top record of a peer, as entries of a map. A node stands under its digest, and the
-- top record, of 16 bytes, under the empty name.
use Rattle.std.specs.Prelude.{ℕ, List, [], ◌∷◌, length, Option, None, Some, ◌==◌, if◌then◌else◌}
use Rattle.environment.specs.Maps.{Entries, value_at}
use Rattle.environment.specs.MemStores.{Held}
use Rattle.disk_stores.specs.Records.{entries_of}

-- the entries without that of the empty name, which comes before all others
abbrev pub named : Entries → Entries
named [] = []
named (([], bytes) ∷ es) = es
named ((byte ∷ name, bytes) ∷ es) = (byte ∷ name, bytes) ∷ es

-- the digest in these bytes, if they are 16
abbrev pub digest_in : Option (List ℕ) → Option (List ℕ)
digest_in None = None
digest_in (Some bytes) = if length bytes == 16 then Some bytes else None

-- the nodes and the top record in these entries
abbrev pub nodes_in : Entries → Held
nodes_in es = record { entries = named es; top = digest_in (value_at [] es) }

-- the nodes and the top record that a file holds
abbrev pub nodes_of : List ℕ → Held
nodes_of file = nodes_in (entries_of file)
