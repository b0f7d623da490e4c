-- The contents of a log that are kept in memory.
use Rattle.std.specs.Prelude.{◌≡◌, ℕ, ◌+◌, ◌*◌, ◌%◌, List, [], ◌∷◌, Option, None, Some, slice_index_or}
use Rattle.environment.specs.Maps.{Entries, value_at}
use Rattle.disk_stores.specs.declared.recent.Kept.{Kept}

-- the slot of a name, of whose prefix this is the slot
abbrev pub slot_from : ℕ → List ℕ → ℕ
slot_from slot [] = slot
slot_from slot (byte ∷ name) = slot_from ((slot * 31 + byte) % 4096) name

-- a content that is kept stands in the slot of its name, and is what the name has in this map
abbrev pub Remembers : List (Option Kept) → Entries → Type 0
Remembers slots es = (i : ℕ) (kept : Kept) → slice_index_or slots i None ≡ Some kept → (slot_from 0 kept.name ≡ i) × (value_at kept.name es ≡ Some kept.content)
