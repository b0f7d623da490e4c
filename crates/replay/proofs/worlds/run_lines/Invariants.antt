use Rattle.world_model.specs.WorldSpec.{account}
use Rattle.world_model.specs.Worlds.{run_of}
use Rattle.replay.proofs.Stops.{Doing}
use Rattle.replay.proofs.worlds.run_lines.Given as goal

abbrev pub invariant-loop-place : goal.invariant-loop-place
invariant-loop-place g l = Doing l.schedule l.place (account g.H.Hasher16.kept g.H.Hasher16.clashes g.H.Hasher16.fulls l.fn.hasher) (run_of l.world) (account g.H.Hasher16.kept g.H.Hasher16.clashes g.H.Hasher16.fulls l.hasher)
