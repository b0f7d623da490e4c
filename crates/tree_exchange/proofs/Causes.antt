-- A plan of a tree is stopped because a count rose, or out of memory.
use Rattle.std.proofs.Common.{◌≡◌, ◌≤◌, ℕ, List, Option, inl, inr}
use Rattle.ens_base.specs.Causes.{Rose}
use Rattle.ens_base.proofs.Causes.{rose_later, same_count}
use Rattle.hash_book.specs.Hashing.{Book}
use Rattle.environment.specs.Stores.{NodeCall, NodeAnswer}
use Rattle.environment.specs.declared.errors.StoreError.{StoreError}
use Rattle.synctree.specs.Outsides.{outside_does, outside_refuses}
use Rattle.synctree.specs.Plans.{Call, Node, Hash, AnswerOf, Plan, Done, Broken, Ask, Stops}
use Rattle.synctree.specs.declared.error.TreeError.{TreeError}
use Rattle.synctree.specs.declared.error.TreeError.TheVariants as trees

-- no count of the nodes or of the hasher decreased
record CountsLater {N H : Type 0} (n : N → ℕ) (c d : H → ℕ) (s t : N × H) : Type 0 where
  nodes : n s.0 ≤ n t.0
  clashes : c s.1 ≤ c t.1
  fulls : d s.1 ≤ d t.1

-- why a plan was stopped
abbrev pub IsTreeCause : {N H : Type 0} → (N → ℕ) → (H → ℕ) → (H → ℕ) → N × H → TreeError → N × H → Type 0
IsTreeCause n c d s (trees.Damaged at) t = ⊥
IsTreeCause n c d s trees.Failed t = Rose (n s.0) (n t.0)
IsTreeCause n c d s (trees.Clash first second) t = Rose (c s.1) (c t.1)
IsTreeCause n c d s (trees.BookFull kept) t = Rose (d s.1) (d t.1)
IsTreeCause n c d s trees.Memory t = Unit {0}

module _ {N H : Type 0} (reads : N → (call : NodeCall) → NodeAnswer call → N → Type 0) (misses : N → NodeCall → StoreError → N → Type 0) (tops : N → Option (Option (List ℕ))) (n : N → ℕ)
    (strings : H → Option Book) (c d : H → ℕ) where
  abbrev Does : N × H → (call : Call) → AnswerOf call → N × H → Type 0
  Does s call a t = outside_does reads tops n strings c d s call a t

  abbrev Refuses : N × H → Call → TreeError → N × H → Type 0
  Refuses s call e t = outside_refuses misses tops n strings c d s call e t

  do_later : (s : N × H) (call : Call) (a : AnswerOf call) (t : N × H) → Does s call a t → CountsLater n c d s t
  do_later s (Node call) a t did = record { nodes = did.2; clashes = same_count c s.1 t.1 did.3; fulls = same_count d s.1 t.1 did.3 }
  do_later s (Hash bytes) a t did = record { nodes = same_count n s.0 t.0 did.0; clashes = did.2; fulls = did.3 }

  cause_later : (s u t : N × H) (e : TreeError) → CountsLater n c d s u → IsTreeCause n c d u e t → IsTreeCause n c d s e t
  cause_later s u t (trees.Damaged at) later cause = cause
  cause_later s u t trees.Failed later cause = rose_later (n s.0) (n u.0) (n t.0) later.nodes cause
  cause_later s u t (trees.Clash a b) later cause = rose_later (c s.1) (c u.1) (c t.1) later.clashes cause
  cause_later s u t (trees.BookFull k) later cause = rose_later (d s.1) (d u.1) (d t.1) later.fulls cause
  cause_later s u t trees.Memory later cause = tt

  call_off : (s : N × H) (call : Call) (e : TreeError) (t : N × H) → Refuses s call e t → IsTreeCause n c d s e t
  call_off s (Node call) (trees.Damaged at) t off = absurd off
  call_off s (Node call) trees.Failed t off = off.3
  call_off s (Node call) (trees.Clash a b) t off = absurd off
  call_off s (Node call) (trees.BookFull k) t off = absurd off
  call_off s (Node call) trees.Memory t off = tt
  call_off s (Hash bytes) (trees.Damaged at) t off = absurd off
  call_off s (Hash bytes) trees.Failed t off = absurd off
  call_off s (Hash bytes) (trees.Clash a b) t off = off.2.3
  call_off s (Hash bytes) (trees.BookFull k) t off = off.2.0
  call_off s (Hash bytes) trees.Memory t off = tt

  memory_cause : (s t : N × H) (e : TreeError) → e ≡ trees.Memory → IsTreeCause n c d s e t
  memory_cause s t e is = rw is tt

  -- a plan is stopped because a count rose, or out of memory
  pub stops_cause : {A : Type 0} (p : Plan A) (s t : N × H) (e : TreeError) → Stops Does Refuses p s e t → IsTreeCause n c d s e t
  stops_cause (Done x) s t e stopped = memory_cause s t e stopped.0
  stops_cause (Broken at) s t e stopped = memory_cause s t e stopped.0
  stops_cause (Ask call next) s t e stopped = elim stopped [
    | inl cut ↦ memory_cause s t e cut.0
    | inr (inl off) ↦ call_off s call e t off
    | inr (inr on) ↦ cause_later s on.1 t e (do_later s call on.0 on.1 on.2) (stops_cause (next on.0) on.1 t e on.3)
  ]
