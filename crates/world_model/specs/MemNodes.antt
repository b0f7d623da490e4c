-- The peers of a world in memory, running or down.
use Rattle.std.specs.Prelude.{◌≡◌, ℕ, Option, None, Some, false}
use Rattle.world_spec.specs.Held.{HeldStores}
use Rattle.peer_core.specs.declared.peer.Peer.{Peer}
use Rattle.peer_core.specs.declared.peer.Suspended.{Suspended}
use Rattle.world_spec.specs.Nodes.{Node, Up, Down}
use Rattle.world_stores.specs.Nodes.{Nodes}
use Rattle.world_stores.specs.Objects.{Objects}
use Rattle.world_stores.specs.declared.fact.HeldFact.{HeldFact}
use Rattle.world_model.specs.declared.node.MemNode.{MemNode}
use Rattle.world_model.specs.declared.node.MemNode.TheVariants as memory

-- a running peer, over its stores
abbrev pub MemPeer : Type 0
MemPeer = Peer Objects Nodes HeldFact

-- a peer as a node of the run
abbrev pub node_by : MemNode → Node
node_by (memory.Up p) = Up p.machine.state p.machine.stores
node_by (memory.Down s) = Down s

-- the stores of a peer
abbrev pub stores_by : MemNode → HeldStores
stores_by (memory.Up p) = p.machine.stores
stores_by (memory.Down s) = s

-- the node of a peer that was taken apart: its stores, and the rest of it if it runs
abbrev pub node_from : Option Suspended → HeldStores → Node
node_from None s = Down s
node_from (Some waiting) s = Up waiting.state s

-- a running peer has this number, and is not halted
abbrev pub RunsAs : ℕ → MemNode → Type 0
RunsAs me node = (p : MemPeer) → node ≡ memory.Up p → (p.me ≡ me) × (p.halted ≡ false)

-- the same of a peer that was taken apart
abbrev pub ResumesAs : ℕ → Option Suspended → Type 0
ResumesAs me running = (p : Suspended) → running ≡ Some p → (p.me ≡ me) × (p.halted ≡ false)
