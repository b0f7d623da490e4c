-- A backup as bytes: how it is spelled. An item is an entry, with the object of the entry if there is
-- one.
use Rattle.std.specs.Prelude.{◌≡◌, ◌<◌, ◌^◌, ℕ, true, List, [], ◌∷◌, ◌++◌, length, map, filter_map, Option, None, Some}
use Rattle.std.specs.List.{flat_map}
use Rattle.byteorder.specs.Endian.{big_bytes}
use Rattle.ens_base.specs.declared.entry.Entry.{Entry}
use Rattle.fields.specs.Numbers.{IsRun}
use Rattle.fields.specs.Entries.{IsEntry, entry_spelling}
use Rattle.stored_formats.specs.Objects.{IsObject, object_spelling}
use Rattle.stored_formats.specs.declared.object.Object.{Object}
use Rattle.tree_node.specs.Entries.{is_above}
use Rattle.tree_node.specs.Repeats.{AreListed}
use Rattle.tree_backup.specs.declared.item.Backup.{Backup}
use Rattle.tree_backup.specs.declared.item.Content.{Content}
use Rattle.tree_backup.specs.declared.item.Item.{Item}

-- an object keeps its limits, if there is one
abbrev pub IsHeld : Option Object → Type 0
IsHeld None = Unit {0}
IsHeld (Some o) = IsObject o

-- the parts of the item keep their limits
pub record IsItem (x : Item) : Type 0 where
  pub entry : IsEntry x.entry
  pub object : IsHeld x.object

-- a flag of one byte, 0 for no object, 1 before an object
abbrev pub held_spelling : Option Object → List ℕ
held_spelling None = 0 ∷ []
held_spelling (Some o) = 1 ∷ object_spelling o

-- the entry, and then the object
abbrev pub item_spelling : Item → List ℕ
item_spelling x = entry_spelling x.entry ++ held_spelling x.object

-- an item that may follow one with the key `low`
abbrev pub IsNext : List ℕ → Item → Type 0
IsNext low x = (is_above low x.entry.key ≡ true) × IsItem x

-- items whose keys ascend strictly
abbrev pub AreItems : List Item → Type 0
AreItems xs = AreListed IsNext (λ x. x.entry.key) [] xs

abbrev pub items_spelling : List Item → List ℕ
items_spelling xs = flat_map item_spelling xs

-- a digest of 16 bytes, and fewer than 2^32 items whose keys ascend strictly
pub record IsBackup (b : Backup) : Type 0 where
  pub top : IsRun 16 b.top
  pub few : length b.items < 2 ^ 32
  pub items : AreItems b.items

-- the magic number 52 42, the version 1 of the format, the version 2 of the tree, the digest of the
-- top record, four bytes for how many items, and the items
abbrev pub backup_spelling : Backup → List ℕ
backup_spelling b = 82 ∷ 66 ∷ 1 ∷ 2 ∷ [] ++ (b.top ++ (big_bytes 4 (length b.items) ++ items_spelling b.items))

abbrev pub entries_of : List Item → List Entry
entries_of xs = map (λ x. x.entry) xs

abbrev pub objects_of : List Item → List Object
objects_of xs = filter_map (λ x. x.object) xs

-- the entries, and the objects that are there
abbrev pub content_of : List Item → Content
content_of xs = record { entries = entries_of xs; objects = objects_of xs }

-- the keys ascend strictly, the first above `low`
abbrev pub KeysAbove : List ℕ → List (List ℕ) → Type 0
KeysAbove low [] = Unit {0}
KeysAbove low (k ∷ ks) = (is_above low k ≡ true) × KeysAbove k ks
