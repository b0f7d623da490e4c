-- Whether all peers of a world are down.
use Rattle.std.proofs.Common.{◌≡◌, ◌&&◌, Bool, List, [], ◌∷◌, map, refl, ap}
use Rattle.world_spec.specs.Nodes.{all_down, is_down}
use Rattle.world_model.specs.Peers.{are_down, node_of}
use Rattle.world_model.specs.declared.peer.WorldPeer.{WorldPeer}

pub downs_are : (peers : List WorldPeer) → are_down peers ≡ all_down (map node_of peers)
downs_are [] = refl
downs_are (p ∷ peers) = ap (λ (b : Bool). is_down (node_of p) && b) (downs_are peers)
