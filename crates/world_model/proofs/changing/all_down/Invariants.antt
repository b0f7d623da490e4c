use Rattle.std.proofs.Common.{◌≡◌, drop}
use Rattle.world_model.specs.Peers.{are_down}
use Rattle.world_model.proofs.changing.all_down.Given as goal

-- the peers from here on are down exactly if all are
abbrev pub invariant-loop-peer : goal.invariant-loop-peer
invariant-loop-peer l = are_down (drop l.peer-index l.peers) ≡ are_down l.peers
