-- The peers of a world as the nodes of a run.
use Rattle.std.specs.Prelude.{◌≡◌, ◌+◌, ℕ, Bool, true, ◌&&◌, List, [], ◌∷◌, Some, slice_get}
use Rattle.world_spec.specs.Nodes.{Node, is_down}
use Rattle.world_model.specs.MemNodes.{node_by}
use Rattle.world_model.specs.declared.peer.WorldPeer.{WorldPeer}

-- a peer of a world as a node of the run
abbrev pub node_of : WorldPeer → Node
node_of p = node_by p.node

-- whether all of these peers are down
abbrev pub are_down : List WorldPeer → Bool
are_down [] = true
are_down (p ∷ peers) = is_down (node_of p) && are_down peers

-- the peers have the numbers 1, 2, .. in this order
abbrev pub AreNumbered : List WorldPeer → Type 0
AreNumbered peers = (place : ℕ) (p : WorldPeer) → slice_get peers place ≡ Some p → p.me ≡ place + 1
