-- What the hasher did in a call of a backup that gives it these strings, one after another.
use Rattle.std.specs.Prelude.{ℕ, List, Option, Result, Ok, Err}
use Rattle.hash_book.specs.Hashing.{Book}
use Rattle.hash_book.specs.declared.error.HashError.TheVariants as hashes
use Rattle.tree_repair.specs.Admitting.{Admitted, Rejected}
use Rattle.tree_backup.specs.declared.error.BackupError.{BackupError}
use Rattle.tree_backup.specs.declared.error.BackupError.TheVariants.{Clash, BookFull, Memory}

-- It rejected one of them, or memory ran out; after any other error it had admitted each of them.
abbrev pub HashedErr : {H : Type 0} → (H → Option Book) → (H → ℕ) → (H → ℕ) → List (List ℕ) → H → BackupError → H → Type 0
HashedErr kept clashes fulls xs s (Clash first second) t = Rejected kept clashes fulls xs s (hashes.Clash first second) t
HashedErr kept clashes fulls xs s (BookFull n) t = Rejected kept clashes fulls xs s (hashes.BookFull n) t
HashedErr kept clashes fulls xs s Memory t = Rejected kept clashes fulls xs s hashes.Memory t
HashedErr kept clashes fulls xs s e t = Admitted kept clashes fulls xs s t

abbrev pub Hashed : {A H : Type 0} → (H → Option Book) → (H → ℕ) → (H → ℕ) → List (List ℕ) → H → Result A BackupError → H → Type 0
Hashed kept clashes fulls xs s (Ok x) t = Admitted kept clashes fulls xs s t
Hashed kept clashes fulls xs s (Err e) t = HashedErr kept clashes fulls xs s e t
