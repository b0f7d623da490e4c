-- Nodes and a top record written to a store, as a plan that asks no hasher.
use Rattle.std.specs.Prelude.{◌≡◌, ◌≤◌, ℕ, List, [], ◌∷◌, Option}
use Rattle.ens_base.specs.Causes.{Rose}
use Rattle.environment.specs.Stores.{NodeCall, NodeAnswer, Write}
use Rattle.environment.specs.declared.errors.StoreError.{StoreError}
use Rattle.environment.specs.declared.errors.StoreError.TheVariants as stores
use Rattle.synctree.specs.Outsides.{TopAfter, TopRefused}
use Rattle.synctree.specs.Plans.{Call, Node, Hash, AnswerOf, Plan, Done, Ask, ◌>>=◌}
use Rattle.synctree.specs.Walks.{set_top}
use Rattle.synctree.specs.declared.error.TreeError.{TreeError}
use Rattle.synctree.specs.declared.error.TreeError.TheVariants.{Failed, Memory}
use Rattle.synctree.specs.declared.stored_node.StoredNode.{StoredNode}

-- The store alone answers a call as it may, and its count of faults does not decrease.
abbrev pub store_does : {N : Type 0} → (N → (call : NodeCall) → NodeAnswer call → N → Type 0) → (N → Option (Option (List ℕ))) → (N → ℕ) → N → (call : Call) → AnswerOf call → N → Type 0
store_does may top faults s (Node call) answer t = may s call answer t × TopAfter (top s) (top t) call answer × (faults s ≤ faults t)
store_does may top faults s (Hash bytes) answer t = ⊥

-- The store refuses a call: it failed and its count of faults rose, or out of memory.
abbrev pub store_refuses : {N : Type 0} → (N → NodeCall → StoreError → N → Type 0) → (N → Option (Option (List ℕ))) → (N → ℕ) → N → Call → TreeError → N → Type 0
store_refuses may top faults s (Node call) Failed t = may s call stores.Failed t × TopRefused (top s) (top t) call stores.Failed × (faults s ≤ faults t) × Rose (faults s) (faults t)
store_refuses may top faults s (Node call) Memory t = may s call stores.Memory t × TopRefused (top s) (top t) call stores.Memory × (faults t ≡ faults s)
store_refuses may top faults s (Node call) e t = ⊥
store_refuses may top faults s (Hash bytes) e t = ⊥

-- writes the nodes in order, each under its digest
abbrev pub write_all : List StoredNode → Plan (Unit {0})
write_all [] = Done tt
write_all (n ∷ ns) = Ask (Node (Write n.digest n.bytes)) (λ _. write_all ns)

-- writes the nodes in order, and the top record last
abbrev pub install_plan : List StoredNode → List ℕ → Plan (List ℕ)
install_plan nodes top = write_all nodes >>= (λ _. set_top top)
