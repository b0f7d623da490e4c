-- What passes as a backup, and why other bytes do not.
use Rattle.std.specs.Prelude.{◌≡◌, ◌<◌, ◌^◌, ℕ, Bool, true, List, [], ◌∷◌, ◌++◌, length, map, Option, None, Some, Result, Ok, Err, if◌then◌else◌}
use Rattle.std.specs.List.{AllByRecursion}
use Rattle.md5.specs.Md5.{md5}
use Rattle.ens_base.specs.Lists.{same_bytes}
use Rattle.ens_base.specs.Results.{◌>>=◌}
use Rattle.ens_base.specs.declared.entry.Entry.{Entry}
use Rattle.stored_formats.specs.Objects.{object_spelling}
use Rattle.stored_formats.specs.declared.object.Object.{Object}
use Rattle.object_commands.specs.Kept.{is_named}
use Rattle.synctree.specs.Sixteen.{form_of}
use Rattle.tree_node.specs.declared.version.TreeVersion.TheVariants.{Two}
use Rattle.tree_repair.specs.Builds.{somes, build_nodes, build_of}
use Rattle.tree_backup.specs.Items.{AreItems, backup_spelling, entries_of, content_of}
use Rattle.tree_backup.specs.Readings.{backup_of}
use Rattle.tree_backup.specs.declared.error.BackupError.{BackupError}
use Rattle.tree_backup.specs.declared.error.BackupError.TheVariants.{Mismatch, Top, Clash, BookFull, Memory}
use Rattle.tree_backup.specs.declared.item.Backup.{Backup}
use Rattle.tree_backup.specs.declared.item.Content.{Content}
use Rattle.tree_backup.specs.declared.item.Item.{Item}

-- the digest of the root of the plain build in version two
abbrev pub top_of : List Entry → List ℕ
top_of es = (build_of (form_of Two) es).top

-- whether the entry names the object, by its key, its version, and the MD5 of its spelling
abbrev pub names : Entry → Option Object → Bool
names e None = true
names e (Some o) = is_named e o (md5 (object_spelling o))

-- whether the object of the item, if there is one, matches the entry
abbrev pub matches : Item → Bool
matches x = names x.entry x.object

-- the backup of these items
abbrev pub backup_with : List ℕ → List Item → Backup
backup_with top xs = record { top = top; items = xs }

-- The bytes are the spelling of these items, of which each object matches its entry, and of the digest
-- of the plain build.
pub record Spells (bytes : List ℕ) (xs : List Item) : Type 0 where
  pub items : AreItems xs
  pub few : length xs < 2 ^ 32
  pub matching : AllByRecursion (λ x. matches x ≡ true) xs
  pub spelled : bytes ≡ backup_spelling (backup_with (top_of (entries_of xs)) xs)

-- the key of the first item whose object does not match its entry
abbrev pub mismatch : List Item → Option (List ℕ)
mismatch [] = None
mismatch (x ∷ xs) = if matches x then mismatch xs else Some x.entry.key

-- the content, if the digest named is that of the build
abbrev pub under : List ℕ → List ℕ → Content → Result Content BackupError
under named built content = if same_bytes named built then Ok content else Err (Top named built)

abbrev pub unless : Option (List ℕ) → Result Content BackupError → Result Content BackupError
unless None judged = judged
unless (Some key) judged = Err (Mismatch key)

-- what is said of a backup that was read: the first object that does not match, and then the digest
abbrev pub judged : Backup → Result Content BackupError
judged b = unless (mismatch b.items) (under b.top (top_of (entries_of b.items)) (content_of b.items))

-- the content of the bytes, or why they do not pass
abbrev pub check_of : List ℕ → Result Content BackupError
check_of bytes = backup_of bytes >>= judged

abbrev pub Refuses : BackupError → Result Content BackupError → Type 0
Refuses (Clash first second) checked = Unit {0}
Refuses (BookFull n) checked = Unit {0}
Refuses Memory checked = Unit {0}
Refuses e checked = checked ≡ Err e

-- a call answered so, unless the hasher refused a string or memory ran out
abbrev pub Passes : Result Content BackupError → Result Content BackupError → Type 0
Passes (Ok content) checked = checked ≡ Ok content
Passes (Err e) checked = Refuses e checked

-- the spelling of an object, if there is one
abbrev pub text_of : Option Object → Option (List ℕ)
text_of None = None
text_of (Some o) = Some (object_spelling o)

-- the spelling of the object of an item, if it has one
abbrev pub text_at : Item → Option (List ℕ)
text_at x = text_of x.object

-- the spellings of the objects that are there
abbrev pub texts_of : List Item → List (List ℕ)
texts_of xs = somes (map text_at xs)

-- the nodes of the build, unless an object does not match
abbrev pub nodes_unless : Option (List ℕ) → List Entry → List (List ℕ)
nodes_unless None es = build_nodes (form_of Two) es
nodes_unless (Some key) es = []

-- the strings that are hashed for a backup that was read: the objects, and then the nodes
abbrev pub judged_strings : Backup → List (List ℕ)
judged_strings b = texts_of b.items ++ nodes_unless (mismatch b.items) (entries_of b.items)

abbrev pub strings_if : Result Backup BackupError → List (List ℕ)
strings_if (Ok b) = judged_strings b
strings_if (Err e) = []

-- the strings that a check of these bytes hashes
abbrev pub checked_strings : List ℕ → List (List ℕ)
checked_strings bytes = strings_if (backup_of bytes)
