-- What the hasher alone may answer, and what one call to it did.
use Rattle.std.specs.Prelude.{◌≤◌, ℕ, List, Option, None, Some, Bool, false}
use Rattle.ens_base.specs.Lists.{same_bytes}
use Rattle.md5.specs.Md5.{md5}
use Rattle.hash_book.specs.Hashing.{Book, Takes, Stays, Refuses}
use Rattle.hash_book.specs.declared.error.HashError.TheVariants as hashes
use Rattle.synctree.specs.Plans.{Call, Node, Hash, AnswerOf}
use Rattle.synctree.specs.declared.error.TreeError.{TreeError}
use Rattle.synctree.specs.declared.error.TreeError.TheVariants.{Clash, BookFull, Memory}

-- The hasher alone takes a string, and no count of refusals decreases.
abbrev pub hasher_does : {H : Type 0} → (H → Option Book) → (H → ℕ) → (H → ℕ) → H → (call : Call) → AnswerOf call → H → Type 0
hasher_does kept clashes fulls s (Node call) answer t = ⊥
hasher_does kept clashes fulls s (Hash bytes) answer t = Takes bytes (kept s) (kept t) × (clashes s ≤ clashes t) × (fulls s ≤ fulls t)

-- The hasher refuses a string and the count of such refusals rose, or out of memory.
abbrev pub hasher_refuses : {H : Type 0} → (H → Option Book) → (H → ℕ) → (H → ℕ) → H → Call → TreeError → H → Type 0
hasher_refuses kept clashes fulls s (Node call) e t = ⊥
hasher_refuses kept clashes fulls s (Hash bytes) (Clash first second) t = Stays (kept s) (kept t) × Refuses bytes (kept s) (clashes s) (clashes t) (fulls s) (fulls t) (hashes.Clash first second)
hasher_refuses kept clashes fulls s (Hash bytes) (BookFull n) t = Stays (kept s) (kept t) × Refuses bytes (kept s) (clashes s) (clashes t) (fulls s) (fulls t) (hashes.BookFull n)
hasher_refuses kept clashes fulls s (Hash bytes) Memory t = Stays (kept s) (kept t) × Refuses bytes (kept s) (clashes s) (clashes t) (fulls s) (fulls t) hashes.Memory
hasher_refuses kept clashes fulls s (Hash bytes) e t = ⊥

-- the MD5 of what was read, if anything was
abbrev pub digest_if : Option (List ℕ) → Option (List ℕ)
digest_if None = None
digest_if (Some bytes) = Some (md5 bytes)

-- the digest found is the one named
abbrev pub agree : Option (List ℕ) → Option (List ℕ) → Bool
agree None found = false
agree (Some named) None = false
agree (Some named) (Some digest) = same_bytes digest named
