-- The plan of a tree over nodes in memory, as a function.
use Rattle.std.specs.Prelude.{ℕ, List, [], ◌∷◌, ◌++◌}
use Rattle.environment.specs.Failures.{left_by}
use Rattle.environment.specs.Stores.{NodeCall}
use Rattle.environment.specs.declared.memory.failing_call.Leaves.{Leaves}
use Rattle.synctree.specs.Plans as plans
use Rattle.tree_node.specs.declared.position.Position.{Position}
use Rattle.world_stores.specs.Faults.{spent}
use Rattle.world_stores.specs.Nodes.{Nodes, refusal, answer, after}
use Rattle.world_spec.specs.Held.{unless_failing}

-- how a plan of a tree ended: with a value, at a position that does not verify, or with a write of
-- the top record that failed
pub data End (A : Type 0) : Type 0 where
  Came : (value : A) → End A
  Broke : (at : Position) → End A
  Failed : End A

-- the end of a walk, the nodes after it, and all strings hashed so far
pub record Walk (A : Type 0) : Type 0 where
  pub end : End A
  pub nodes : Nodes
  pub hashed : List (List ℕ)

-- the nodes after a call that failed and left this
abbrev pub nodes_failed : Nodes → NodeCall → Leaves → Nodes
nodes_failed s call leaves = record (left_by leaves s (after s call)) { faults = spent s.faults }

-- The walk of a plan. A call that meets a failure ends it; a string that is hashed is not refused.
unfoldable pub walk : {A : Type 0} → plans.Plan A → Nodes → List (List ℕ) → Walk A
walk (plans.Done x) s hashed = record { end = Came x; nodes = s; hashed = hashed }
walk (plans.Broken at) s hashed = record { end = Broke at; nodes = s; hashed = hashed }
walk (plans.Ask (plans.Hash bytes) next) s hashed = walk (next tt) s (hashed ++ bytes ∷ [])
walk (plans.Ask (plans.Node call) next) s hashed = unless_failing (refusal s call) (walk (next (answer s call)) (after s call) hashed)
    (λ leaves. record { end = Failed; nodes = nodes_failed s call leaves; hashed = hashed })
