-- What a peer is doing, and whether a message still reaches one.
use Rattle.std.specs.Prelude.{ℕ, Bool, nat_lt, slice_get}
use Rattle.std.specs.Option.{option_map_or}
use Rattle.phase_rules.specs.declared.election.Election.TheVariants as elections
use Rattle.peer_state.specs.declared.state.Phase.{Phase}
use Rattle.peer_state.specs.declared.state.Phase.TheVariants as phases
use Rattle.world_spec.specs.Nodes.{Node, Up, Down}
use Rattle.world_spec.specs.Runs.{Run, place_of}
use Rattle.world_model.specs.MemNodes.{node_by}
use Rattle.world_model.specs.declared.node.MemNode.{MemNode}
use Rattle.world_model.specs.declared.watching.Activity.{Activity}

-- a peer that runs in this phase
abbrev pub activity_in : Phase → Activity
activity_in (phases.Following f) = Activity.Following
activity_in (phases.Probing p) = Activity.Probing
activity_in (phases.Electing (elections.Preparing base promises asked age)) = Activity.Preparing
activity_in (phases.Electing (elections.Starting fact accepts age)) = Activity.Starting
activity_in (phases.Leading l) = Activity.Leading

-- a peer of a run
abbrev pub activity_of : Node → Activity
activity_of (Up x s) = activity_in x.phase
activity_of (Down s) = Activity.Down

-- a peer of a world
abbrev pub activity_by : MemNode → Activity
activity_by node = activity_of (node_by node)

-- the peer of this number in a run; a peer that there is not is down
abbrev pub activity_at : ℕ → Run → Activity
activity_at peer w = option_map_or activity_of (slice_get w.nodes (place_of peer)) Activity.Down

-- whether the message of this number was sent before trees got version two; its delivery gives it to nobody
abbrev pub is_stale : ℕ → Run → Bool
is_stale n w = nat_lt n w.first_alive
