-- Which errors reading and checking give.
use Rattle.std.proofs.Common.{◌≡◌, ℕ, zero, suc, Bool, true, false, cond, eqb, List, [], Option, None, Some, Result, Ok, Err, subst}
use Rattle.std.specs.Prelude.{IfErr, length}
use Rattle.ens_base.specs.Lists.{same_bytes}
use Rattle.ens_base.specs.Results.{◌>>=◌}
use Rattle.fields.specs.Numbers.{byte_at, number_at, run_at}
use Rattle.fields.specs.Strings.{key_at}
use Rattle.fields.specs.declared.fault.Fault.{Fault}
use Rattle.fields.specs.declared.fault.Fault.TheVariants as faults
use Rattle.fields.specs.declared.field_error.FieldError.{FieldError}
use Rattle.fields.specs.declared.field_error.FieldError.TheVariants as fields
use Rattle.stored_formats.specs.Objects.{object_at}
use Rattle.stored_formats.specs.declared.object_error.ObjectRule.{ObjectRule}
use Rattle.tree_node.specs.Entries.{is_above, rest_at}
use Rattle.tree_node.specs.Repeats.{list_at}
use Rattle.tree_backup.specs.declared.error.BackupError.{BackupError}
use Rattle.tree_backup.specs.declared.error.BackupError.TheVariants.{Short, Trailing, BadTag, Order, Length, BadObject, Top, Damaged, Failed, Memory}
use Rattle.tree_backup.specs.declared.item.Backup.{Backup}
use Rattle.tree_backup.specs.declared.item.Content.{Content}
use Rattle.tree_backup.specs.declared.item.Item.{Item}
use Rattle.tree_backup.specs.Causes.{IsOfFormat, IsOfCheck}
use Rattle.tree_backup.specs.Checks.{under, unless, mismatch, judged, check_of, top_of, Passes}
use Rattle.tree_backup.specs.Items.{entries_of, content_of}
use Rattle.tree_backup.specs.Readings.{ended, keyed, held, magic_at, tag_at, tags_at, entry_at, object_behind, held_at, item_at, items_at, backup_at, all_of, backup_of}

then_err : {A B : Type 0} (P : BackupError → Type 0) (r : Result A BackupError) (f : A → Result B BackupError) → IfErr r P → ((x : A) → IfErr (f x) P) → IfErr (r >>= f) P
then_err P (Ok x) f h k = k x
then_err P (Err e) f h k = h

test_err : {A : Type 0} (b : Bool) (r s : Result A BackupError) → IfErr r IsOfFormat → IfErr s IsOfFormat → IfErr (cond b r s) IsOfFormat
test_err true r s h k = h
test_err false r s h k = k

ended_err : {X : Type 0} (r : Result X FieldError) → IfErr (ended r) IsOfFormat
ended_err (Ok x) = tt
ended_err (Err (fields.Short at)) = tt
ended_err (Err (fields.Rule at)) = tt
ended_err (Err fields.Memory) = tt

keyed_err : {X : Type 0} (r : Result X FieldError) → IfErr (keyed r) IsOfFormat
keyed_err (Ok x) = tt
keyed_err (Err (fields.Short at)) = tt
keyed_err (Err (fields.Rule at)) = tt
keyed_err (Err fields.Memory) = tt

object_err : {X : Type 0} (r : Result X (Fault ObjectRule)) → IfErr (held r) IsOfFormat
object_err (Ok x) = tt
object_err (Err (faults.Ended at)) = tt
object_err (Err (faults.Broken rule at)) = tt
object_err (Err faults.NoMemory) = tt

magic_err : (bytes : List ℕ) (at : ℕ) → IfErr (magic_at bytes at) IsOfFormat
unfolding magic_at
magic_err bytes at = then_err IsOfFormat (ended (number_at 2 bytes at)) _ (ended_err (number_at 2 bytes at)) (λ x. test_err (eqb x.0 21058) (Ok x) (Err BadTag) tt tt)

tag_err : (tag : ℕ) (bytes : List ℕ) (at : ℕ) → IfErr (tag_at tag bytes at) IsOfFormat
unfolding tag_at
tag_err tag bytes at = then_err IsOfFormat (ended (byte_at bytes at)) _ (ended_err (byte_at bytes at)) (λ x. test_err (eqb x.0 tag) (Ok x) (Err BadTag) tt tt)

tags_err : (bytes : List ℕ) (at : ℕ) → IfErr (tags_at bytes at) IsOfFormat
unfolding tags_at
tags_err bytes at = then_err IsOfFormat (magic_at bytes at) _ (magic_err bytes at) (λ x. then_err IsOfFormat (tag_at 1 bytes x.1) _ (tag_err 1 bytes x.1) (λ y. tag_err 2 bytes y.1))

entry_err : (low bytes : List ℕ) (at : ℕ) → IfErr (entry_at low bytes at) IsOfFormat
unfolding entry_at
entry_err low bytes at = then_err IsOfFormat (keyed (key_at bytes at)) _ (keyed_err (key_at bytes at)) (λ x. test_err (is_above low x.0) (ended (rest_at x.0 bytes x.1)) (Err Order) (ended_err (rest_at x.0 bytes x.1)) tt)

behind_err : (bytes : List ℕ) (at : ℕ) → IfErr (object_behind bytes at) IsOfFormat
unfolding object_behind
behind_err bytes at = then_err IsOfFormat (held (object_at bytes at)) _ (object_err (object_at bytes at)) (λ x. tt)

held_err : (bytes : List ℕ) (at : ℕ) → IfErr (held_at bytes at) IsOfFormat
unfolding held_at
held_err bytes at = then_err IsOfFormat (ended (byte_at bytes at)) _ (ended_err (byte_at bytes at))
    (λ x. test_err (eqb x.0 0) (Ok (None, x.1)) _ tt (test_err (eqb x.0 1) (object_behind bytes x.1) (Err BadTag) (behind_err bytes x.1) tt))

item_err : (low bytes : List ℕ) (at : ℕ) → IfErr (item_at low bytes at) IsOfFormat
unfolding item_at
item_err low bytes at = then_err IsOfFormat (entry_at low bytes at) _ (entry_err low bytes at) (λ x. then_err IsOfFormat (held_at bytes x.1) _ (held_err bytes x.1) (λ y. tt))

list_err : (n : ℕ) (low bytes : List ℕ) (at : ℕ) → IfErr (list_at item_at (λ (x : Item). x.entry.key) n low bytes at) IsOfFormat
unfolding list_at
list_err zero low bytes at = tt
list_err (suc n) low bytes at = then_err IsOfFormat (item_at low bytes at) _ (item_err low bytes at) (λ x. then_err IsOfFormat (list_at item_at (λ (y : Item). y.entry.key) n x.0.entry.key bytes x.1) _ (list_err n x.0.entry.key bytes x.1) (λ y. tt))

backup_err : (bytes : List ℕ) (at : ℕ) → IfErr (backup_at bytes at) IsOfFormat
unfolding backup_at
backup_err bytes at = then_err IsOfFormat (tags_at bytes at) _ (tags_err bytes at)
    (λ x. then_err IsOfFormat (ended (run_at 16 bytes x.1)) _ (ended_err (run_at 16 bytes x.1))
    (λ top. then_err IsOfFormat (ended (number_at 4 bytes top.1)) _ (ended_err (number_at 4 bytes top.1))
    (λ count. then_err IsOfFormat (items_at count.0 bytes count.1) _ (list_err count.0 [] bytes count.1) (λ items. tt))))

all_err : (r : Result (Backup × ℕ) BackupError) (size : ℕ) → IfErr r IsOfFormat → IfErr (all_of r size) IsOfFormat
all_err (Ok x) size h = test_err (eqb x.1 size) (Ok x.0) (Err Trailing) tt tt
all_err (Err e) size h = h

pub read_err : (bytes : List ℕ) → IfErr (backup_of bytes) IsOfFormat
read_err bytes = all_err (backup_at bytes 0) (length bytes) (backup_err bytes 0)

-- an error that reading gave is one of the format
pub of_format : (bytes : List ℕ) (e : BackupError) → backup_of bytes ≡ Err e → IsOfFormat e
of_format bytes e is = subst (λ (r : Result Backup BackupError). IfErr r IsOfFormat) is (read_err bytes)

format_checks : (e : BackupError) → IsOfFormat e → IsOfCheck e
format_checks Short h = tt
format_checks Trailing h = tt
format_checks BadTag h = tt
format_checks Order h = tt
format_checks Length h = tt
format_checks (BadObject e) h = tt
format_checks Memory h = tt
format_checks e h = absurd h

under_err : (named built : List ℕ) (c : Content) → IfErr (under named built c) IsOfCheck
under_err named built c = by (same_bytes named built)
  where
    by : (b : Bool) → IfErr (cond b (let r : Result Content BackupError = Ok c in r) (Err (Top named built))) IsOfCheck
    by true = tt
    by false = tt

unless_err : (o : Option (List ℕ)) (r : Result Content BackupError) → IfErr r IsOfCheck → IfErr (unless o r) IsOfCheck
unless_err None r h = h
unless_err (Some key) r h = tt

weaker : (r : Result Backup BackupError) → IfErr r IsOfFormat → IfErr r IsOfCheck
weaker (Ok b) h = tt
weaker (Err e) h = format_checks e h

check_err : (bytes : List ℕ) → IfErr (check_of bytes) IsOfCheck
check_err bytes = then_err IsOfCheck (backup_of bytes) judged (weaker (backup_of bytes) (read_err bytes)) (λ b. unless_err (mismatch b.items) (under b.top (top_of (entries_of b.items)) (content_of b.items)) (under_err b.top (top_of (entries_of b.items)) (content_of b.items)))

-- a check answers no error of a tree or of a store
pub of_check : (r : Result Content BackupError) (bytes : List ℕ) → Passes r (check_of bytes) → IfErr r IsOfCheck
of_check (Ok c) bytes h = tt
of_check (Err (Damaged at)) bytes h = subst (λ (r : Result Content BackupError). IfErr r IsOfCheck) h (check_err bytes)
of_check (Err Failed) bytes h = subst (λ (r : Result Content BackupError). IfErr r IsOfCheck) h (check_err bytes)
of_check (Err e) bytes h = tt
