-- A backup read from its bytes, down to the first fault from the left.
use Rattle.std.specs.Prelude.{◌≡◌, ◌-◌, ℕ, List, [], length, Option, None, Some, slice_get, Result, Ok, Err, ◌==◌, if◌then◌else◌}
use Rattle.ens_base.specs.Results.{◌>>=◌}
use Rattle.ens_base.specs.declared.entry.Entry.{Entry}
use Rattle.fields.specs.Numbers.{byte_at, number_at, run_at}
use Rattle.fields.specs.Strings.{key_at}
use Rattle.fields.specs.declared.fault.Fault.{Fault}
use Rattle.fields.specs.declared.fault.Fault.TheVariants as faults
use Rattle.fields.specs.declared.field_error.FieldError.{FieldError}
use Rattle.fields.specs.declared.field_error.FieldError.TheVariants as fields
use Rattle.stored_formats.specs.Objects.{object_at}
use Rattle.stored_formats.specs.declared.object_error.ObjectError.{ObjectError}
use Rattle.stored_formats.specs.declared.object_error.ObjectError.TheVariants as objects
use Rattle.stored_formats.specs.declared.object_error.ObjectRule.{ObjectRule}
use Rattle.stored_formats.specs.declared.object_error.ObjectRule.TheVariants as rules
use Rattle.stored_formats.specs.declared.object.Object.{Object}
use Rattle.tree_node.specs.Entries.{is_above, rest_at}
use Rattle.tree_node.specs.Repeats.{list_at}
use Rattle.tree_backup.specs.declared.error.BackupError.{BackupError}
use Rattle.tree_backup.specs.declared.error.BackupError.TheVariants.{Short, Trailing, BadTag, Order, Length, BadObject, Memory}
use Rattle.tree_backup.specs.declared.item.Backup.{Backup}
use Rattle.tree_backup.specs.declared.item.Item.{Item}

-- the same answer of a field that has no rule of its own
abbrev pub ended : {X : Type 0} → Result X FieldError → Result X BackupError
ended (Ok x) = Ok x
ended (Err (fields.Short at)) = Err Short
ended (Err (fields.Rule at)) = Err Short
ended (Err fields.Memory) = Err Memory

-- the same answer of a key, whose rule is that of its length
abbrev pub keyed : {X : Type 0} → Result X FieldError → Result X BackupError
keyed (Ok x) = Ok x
keyed (Err (fields.Short at)) = Err Short
keyed (Err (fields.Rule at)) = Err Length
keyed (Err fields.Memory) = Err Memory

-- the error of an object that breaks this rule
abbrev pub rule_error : ObjectRule → ObjectError
rule_error rules.Tag = objects.BadTag
rule_error rules.KeyLength = objects.KeyLength
rule_error rules.ValueLength = objects.ValueLength

-- the same answer of an object
abbrev pub held : {X : Type 0} → Result X (Fault ObjectRule) → Result X BackupError
held (Ok x) = Ok x
held (Err (faults.Ended at)) = Err Short
held (Err (faults.Broken rule at)) = Err (BadObject (rule_error rule))
held (Err faults.NoMemory) = Err Memory

-- the two bytes of the magic number, which are read first and then compared
unfoldable pub magic_at : List ℕ → ℕ → Result (ℕ × ℕ) BackupError
magic_at bytes at = do
  magic ← ended (number_at 2 bytes at)
  if magic.0 == 21058 then Ok magic else Err BadTag

-- a byte that has this value
unfoldable pub tag_at : ℕ → List ℕ → ℕ → Result (ℕ × ℕ) BackupError
tag_at tag bytes at = do
  byte ← ended (byte_at bytes at)
  if byte.0 == tag then Ok byte else Err BadTag

-- the magic number, the version of the format, and the version of the tree
unfoldable pub tags_at : List ℕ → ℕ → Result (ℕ × ℕ) BackupError
tags_at bytes at = do
  magic ← magic_at bytes at
  version ← tag_at 1 bytes magic.1
  tag_at 2 bytes version.1

-- an entry whose key is above `low`; the key is tested before the rest is read
unfoldable pub entry_at : List ℕ → List ℕ → ℕ → Result (Entry × ℕ) BackupError
entry_at low bytes at = do
  key ← keyed (key_at bytes at)
  if is_above low key.0 then ended (rest_at key.0 bytes key.1) else Err Order

unfoldable pub object_behind : List ℕ → ℕ → Result (Option Object × ℕ) BackupError
object_behind bytes at = do
  object ← held (object_at bytes at)
  Ok (Some object.0, object.1)

-- the flag, and the object behind it
unfoldable pub held_at : List ℕ → ℕ → Result (Option Object × ℕ) BackupError
held_at bytes at = do
  flag ← ended (byte_at bytes at)
  if flag.0 == 0 then Ok (None, flag.1) else (if flag.0 == 1 then object_behind bytes flag.1 else Err BadTag)

-- an item whose key is above `low`
unfoldable pub item_at : List ℕ → List ℕ → ℕ → Result (Item × ℕ) BackupError
item_at low bytes at = do
  entry ← entry_at low bytes at
  object ← held_at bytes entry.1
  Ok (record { entry = entry.0; object = object.0 }, object.1)

-- n items whose keys ascend strictly
abbrev pub items_at : ℕ → List ℕ → ℕ → Result (List Item × ℕ) BackupError
items_at n bytes at = list_at item_at (λ x. x.entry.key) n [] bytes at

unfoldable pub backup_at : List ℕ → ℕ → Result (Backup × ℕ) BackupError
backup_at bytes at = do
  tags ← tags_at bytes at
  top ← ended (run_at 16 bytes tags.1)
  count ← ended (number_at 4 bytes top.1)
  items ← items_at count.0 bytes count.1
  Ok (record { top = top.0; items = items.0 }, items.1)

-- what was read, if it is all there is
abbrev pub all_of : Result (Backup × ℕ) BackupError → ℕ → Result Backup BackupError
all_of (Ok x) size = if x.1 == size then Ok x.0 else Err Trailing
all_of (Err e) size = Err e

-- the backup that the bytes spell, or the first fault from the left, bytes left over last
abbrev pub backup_of : List ℕ → Result Backup BackupError
backup_of bytes = all_of (backup_at bytes 0) (length bytes)

-- the key of an item, and no bytes where there is none
abbrev pub key_or_none : Option Item → List ℕ
key_or_none None = []
key_or_none (Some x) = x.entry.key

-- the key of the last item, and no bytes where there is none
abbrev pub last_key : List Item → List ℕ
last_key xs = key_or_none (slice_get xs (length xs - 1))

abbrev pub Fails : {X : Type 0} → BackupError → Result X BackupError → Type 0
Fails Memory read = Unit {0}
Fails e read = read ≡ Err e

-- a call answered what reading gives, unless memory ran out
abbrev pub Answers : {X : Type 0} → Result X BackupError → Result X BackupError → Type 0
Answers (Ok x) read = read ≡ Ok x
Answers (Err e) read = Fails e read
