-- What the lines of a schedule do to the stores of a peer.
use Rattle.std.specs.Prelude.{ℕ, nat_lt, if◌then◌else◌, List, Option, None}
use Rattle.environment.specs.declared.memory.failing_call.Leaves.{Leaves}
use Rattle.environment.specs.declared.memory.failing_call.Leaves.TheVariants as left
use Rattle.world_spec.specs.Held.{HeldStores}
use Rattle.tree_node.specs.TreeVersions.{levels}
use Rattle.world_stores.specs.NodeFaults.{place_at, replaced, replaced_if, spoiled_node}
use Rattle.world_stores.specs.Naming.{named_at, segment_place, version_in}
use Rattle.schedule_text.specs.declared.keyword.StoreName.{StoreName}
use Rattle.schedule_text.specs.declared.keyword.StoreName.TheVariants as names
use Rattle.schedule_text.specs.declared.keyword.Survivor.{Survivor}
use Rattle.schedule_text.specs.declared.keyword.Survivor.TheVariants as survivors
use Rattle.synctree.specs.Sixteen.{form_of}
use Rattle.world_stores.specs.Faults.{awaiting}
use Rattle.world_stores.specs.Nodes.{Nodes, reverted}

-- what a failed write leaves, as the line says
abbrev pub leaves_of : Survivor → Leaves
leaves_of survivors.Old = left.Old
leaves_of survivors.New = left.New

-- the stores with these nodes
abbrev pub with_nodes : Nodes → HeldStores → HeldStores
with_nodes nodes s = record s { tree = record s.tree { store = nodes } }

-- the next write of this store fails, and leaves this; for the tree, the next write of the top record
abbrev pub failing : StoreName → Leaves → HeldStores → HeldStores
failing names.Fact leaves s = record s { facts = record s.facts { faults = awaiting leaves s.facts.faults } }
failing names.Tree leaves s = with_nodes (record s.tree.store { faults = awaiting leaves s.tree.store.faults }) s
failing names.Backend leaves s = record s { backend = record s.backend { faults = awaiting leaves s.backend.faults } }

-- the backend has these bytes under the key, or has lost the object
abbrev pub spoiled : List ℕ → Option (List ℕ) → HeldStores → HeldStores
spoiled key bytes s = record s { backend = record s.backend { entries = replaced key bytes s.backend.entries } }

-- the segment of the key, as the stored nodes name it in their version, has these bytes in place of its own,
-- or is lost
abbrev pub segment_spoiled : List ℕ → Option (List ℕ) → HeldStores → HeldStores
segment_spoiled key bytes s = with_nodes (spoiled_node (version_in s.tree.store) (segment_place (form_of (version_in s.tree.store)) key) bytes s.tree.store) s

-- the digest of the inner node at this level and index, as the stored nodes name it in their version; there
-- is none at the level of the segments and below it
abbrev pub inner_named : ℕ → ℕ → Nodes → Option (List ℕ)
inner_named level index s = if nat_lt level (levels (version_in s)) then named_at (form_of (version_in s)) s (place_at level index) else None

-- the same of the inner node at this level and index
abbrev pub inner_spoiled : ℕ → ℕ → Option (List ℕ) → HeldStores → HeldStores
inner_spoiled level index bytes s = with_nodes (record s.tree.store { entries = replaced_if (inner_named level index s.tree.store) bytes s.tree.store.entries }) s

-- the last n writes of the top record are taken back, but not the first write
abbrev pub taken_back : ℕ → HeldStores → HeldStores
taken_back n s = with_nodes (record s.tree.store { tops = reverted n s.tree.store.tops }) s
