-- What one call to the store, or to the hasher, did.
use Rattle.std.specs.Prelude.{◌≡◌, ◌≤◌, ℕ, List, Option, Result, Ok, Err}
use Rattle.ens_base.specs.Causes.{Rose}
use Rattle.hash_book.specs.Hashing.{Book, Takes, Stays, Refuses}
use Rattle.hash_book.specs.declared.error.HashError.{HashError}
use Rattle.hash_book.specs.declared.error.HashError.TheVariants as hashes
use Rattle.environment.specs.Stores.{NodeCall, NodeAnswer}
use Rattle.environment.specs.declared.errors.StoreError.{StoreError}
use Rattle.environment.specs.declared.errors.StoreError.TheVariants as stores
use Rattle.synctree.specs.Outsides.{TopAfter, TopRefused}
use Rattle.synctree.specs.declared.error.TreeError.{TreeError}
use Rattle.synctree.specs.declared.error.TreeError.TheVariants.{Failed, Clash, BookFull, Memory}

abbrev pub NodesDid : {N : Type 0} → (N → (call : NodeCall) → NodeAnswer call → N → Type 0) → (N → NodeCall → StoreError → N → Type 0) → (N → Option (Option (List ℕ))) → (N → ℕ)
    → (call : NodeCall) → N → Result (NodeAnswer call) TreeError → N → Type 0
NodesDid may loses top faults call s (Ok answer) t = may s call answer t × TopAfter (top s) (top t) call answer × (faults s ≤ faults t)
NodesDid may loses top faults call s (Err Failed) t = loses s call stores.Failed t × TopRefused (top s) (top t) call stores.Failed × (faults s ≤ faults t) × Rose (faults s) (faults t)
NodesDid may loses top faults call s (Err Memory) t = loses s call stores.Memory t × TopRefused (top s) (top t) call stores.Memory × (faults t ≡ faults s)
NodesDid may loses top faults call s (Err e) t = ⊥

abbrev pub HasherDid : {A H : Type 0} → (H → Option Book) → (H → ℕ) → (H → ℕ) → List ℕ → H → Result A TreeError → H → Type 0
HasherDid kept clashes fulls bytes s (Ok x) t = Takes bytes (kept s) (kept t) × (clashes s ≤ clashes t) × (fulls s ≤ fulls t)
HasherDid kept clashes fulls bytes s (Err (Clash first second)) t = Stays (kept s) (kept t) × Refuses bytes (kept s) (clashes s) (clashes t) (fulls s) (fulls t) (hashes.Clash first second)
HasherDid kept clashes fulls bytes s (Err (BookFull n)) t = Stays (kept s) (kept t) × Refuses bytes (kept s) (clashes s) (clashes t) (fulls s) (fulls t) (hashes.BookFull n)
HasherDid kept clashes fulls bytes s (Err Memory) t = Stays (kept s) (kept t) × Refuses bytes (kept s) (clashes s) (clashes t) (fulls s) (fulls t) hashes.Memory
HasherDid kept clashes fulls bytes s (Err e) t = ⊥

-- the error of a tree for this error of a hasher
abbrev pub refused : HashError → TreeError
refused (hashes.Clash first second) = Clash first second
refused (hashes.BookFull n) = BookFull n
refused hashes.Memory = Memory
