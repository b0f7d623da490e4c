-- The errors of backups: their numbers, and what errors of a tree, a store and a hasher become.
use Rattle.std.specs.Prelude.{ℕ}
use Rattle.hash_book.specs.declared.error.HashError.{HashError}
use Rattle.hash_book.specs.declared.error.HashError.TheVariants as hashes
use Rattle.environment.specs.declared.errors.StoreError.{StoreError}
use Rattle.environment.specs.declared.errors.StoreError.TheVariants as stores
use Rattle.synctree.specs.declared.error.TreeError.{TreeError}
use Rattle.synctree.specs.declared.error.TreeError.TheVariants as trees
use Rattle.tree_backup.specs.declared.error.BackupError.{BackupError}
use Rattle.tree_backup.specs.declared.error.BackupError.TheVariants.{Short, Trailing, BadTag, Order, Length, BadObject, Mismatch, Top, Damaged, Failed, Clash, BookFull, Memory}

abbrev pub cause_of : BackupError → ℕ
cause_of Short = 1
cause_of Trailing = 2
cause_of BadTag = 3
cause_of Order = 4
cause_of Length = 5
cause_of (BadObject e) = 6
cause_of (Mismatch key) = 7
cause_of (Top named built) = 8
cause_of (Damaged at) = 9
cause_of Failed = 10
cause_of (Clash first second) = 11
cause_of (BookFull n) = 12
cause_of Memory = 13

-- the error for one of a tree
abbrev pub of_tree : TreeError → BackupError
of_tree (trees.Damaged at) = Damaged at
of_tree trees.Failed = Failed
of_tree (trees.Clash first second) = Clash first second
of_tree (trees.BookFull n) = BookFull n
of_tree trees.Memory = Memory

-- the error for one of a store
abbrev pub of_store : StoreError → BackupError
of_store stores.Failed = Failed
of_store stores.Memory = Memory

-- the error for one of a hasher
abbrev pub of_hash : HashError → BackupError
of_hash (hashes.Clash first second) = Clash first second
of_hash (hashes.BookFull n) = BookFull n
of_hash hashes.Memory = Memory

-- an error that comes from outside: from a store or the hasher, or out of memory
abbrev pub IsFromOutside : BackupError → Type 0
IsFromOutside Failed = Unit {0}
IsFromOutside (Clash first second) = Unit {0}
IsFromOutside (BookFull n) = Unit {0}
IsFromOutside Memory = Unit {0}
IsFromOutside e = ⊥

-- an error of the format, or out of memory
abbrev pub IsOfFormat : BackupError → Type 0
IsOfFormat (Mismatch key) = ⊥
IsOfFormat (Top named built) = ⊥
IsOfFormat (Damaged at) = ⊥
IsOfFormat Failed = ⊥
IsOfFormat (Clash first second) = ⊥
IsOfFormat (BookFull n) = ⊥
IsOfFormat e = Unit {0}

-- an error that a check may answer: neither of a tree nor of a store
abbrev pub IsOfCheck : BackupError → Type 0
IsOfCheck (Damaged at) = ⊥
IsOfCheck Failed = ⊥
IsOfCheck e = Unit {0}
