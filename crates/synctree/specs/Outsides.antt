-- What the store of nodes and the hasher may answer to a tree, taken together.
use Rattle.std.specs.Prelude.{◌≡◌, ◌≤◌, ℕ, List, Option, Ok, Err}
use Rattle.ens_base.specs.Causes.{Rose}
use Rattle.hash_book.specs.Hashing.{Book, Takes, Stays, Refuses}
use Rattle.hash_book.specs.declared.error.HashError.TheVariants as hashes
use Rattle.environment.specs.Stores.{NodeCall, Read, Write, Top, SetTop, NodeAnswer, SetsTop}
use Rattle.environment.specs.Told.{StaysTold, IsTold}
use Rattle.environment.specs.declared.errors.StoreError.{StoreError}
use Rattle.environment.specs.declared.errors.StoreError.TheVariants as stores
use Rattle.synctree.specs.Plans.{Call, Node, Hash, AnswerOf}
use Rattle.synctree.specs.declared.error.TreeError.{TreeError}
use Rattle.synctree.specs.declared.error.TreeError.TheVariants.{Failed, Clash, BookFull, Memory}

-- the top record after an answered call, as far as it is known: SetTop leaves its digest, any other
-- call leaves the record as it was, and Top returns it
abbrev pub TopAfter : Option (Option (List ℕ)) → Option (Option (List ℕ)) → (call : NodeCall) → NodeAnswer call → Type 0
TopAfter old new (Read digest) answer = StaysTold old new
TopAfter old new (Write digest bytes) answer = StaysTold old new
TopAfter old new Top answer = StaysTold old new × IsTold old answer
TopAfter old new (SetTop digest) answer = SetsTop {T = Unit {0}} old new digest (Ok tt)

-- the top record after a refused call, as far as it is known: SetTop leaves its digest or the record
-- as it was, and any other call leaves the record as it was
abbrev pub TopRefused : Option (Option (List ℕ)) → Option (Option (List ℕ)) → NodeCall → StoreError → Type 0
TopRefused old new (Read digest) e = StaysTold old new
TopRefused old new (Write digest bytes) e = StaysTold old new
TopRefused old new Top e = StaysTold old new
TopRefused old new (SetTop digest) e = SetsTop {T = Unit {0}} old new digest (Err e)

-- A call is answered: the store answers as it may and its count of faults does not decrease, or the
-- hasher takes the string. The other of the two stays as it was.
abbrev pub outside_does : {N H : Type 0} → (N → (call : NodeCall) → NodeAnswer call → N → Type 0) → (N → Option (Option (List ℕ))) → (N → ℕ)
    → (H → Option Book) → (H → ℕ) → (H → ℕ) → N × H → (call : Call) → AnswerOf call → N × H → Type 0
outside_does may top faults kept clashes fulls s (Node call) answer t = may s.0 call answer t.0 × TopAfter (top s.0) (top t.0) call answer × (faults s.0 ≤ faults t.0) × (t.1 ≡ s.1)
outside_does may top faults kept clashes fulls s (Hash bytes) answer t = (t.0 ≡ s.0) × Takes bytes (kept s.1) (kept t.1) × (clashes s.1 ≤ clashes t.1) × (fulls s.1 ≤ fulls t.1)

-- A call is refused: the store failed and its count of faults rose, the hasher refused the string
-- and the count of such refusals rose, or out of memory. The other of the two stays as it was.
abbrev pub outside_refuses : {N H : Type 0} → (N → NodeCall → StoreError → N → Type 0) → (N → Option (Option (List ℕ))) → (N → ℕ)
    → (H → Option Book) → (H → ℕ) → (H → ℕ) → N × H → Call → TreeError → N × H → Type 0
outside_refuses may top faults kept clashes fulls s (Node call) Failed t = may s.0 call stores.Failed t.0 × TopRefused (top s.0) (top t.0) call stores.Failed × (faults s.0 ≤ faults t.0) × Rose (faults s.0) (faults t.0) × (t.1 ≡ s.1)
outside_refuses may top faults kept clashes fulls s (Node call) Memory t = may s.0 call stores.Memory t.0 × TopRefused (top s.0) (top t.0) call stores.Memory × (faults t.0 ≡ faults s.0) × (t.1 ≡ s.1)
outside_refuses may top faults kept clashes fulls s (Node call) e t = ⊥
outside_refuses may top faults kept clashes fulls s (Hash bytes) (Clash first second) t = (t.0 ≡ s.0) × Stays (kept s.1) (kept t.1) × Refuses bytes (kept s.1) (clashes s.1) (clashes t.1) (fulls s.1) (fulls t.1) (hashes.Clash first second)
outside_refuses may top faults kept clashes fulls s (Hash bytes) (BookFull n) t = (t.0 ≡ s.0) × Stays (kept s.1) (kept t.1) × Refuses bytes (kept s.1) (clashes s.1) (clashes t.1) (fulls s.1) (fulls t.1) (hashes.BookFull n)
outside_refuses may top faults kept clashes fulls s (Hash bytes) Memory t = (t.0 ≡ s.0) × Stays (kept s.1) (kept t.1) × Refuses bytes (kept s.1) (clashes s.1) (clashes t.1) (fulls s.1) (fulls t.1) hashes.Memory
outside_refuses may top faults kept clashes fulls s (Hash bytes) e t = ⊥
