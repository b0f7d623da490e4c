use Rattle.world_spec.specs.Held.{account}
use Rattle.world_model.specs.Worlds.{run_of}
use Rattle.world_model.proofs.Events.{Running}
use Rattle.world_model.proofs.world.World.run.Given as goal

abbrev pub invariant-loop-place : goal.invariant-loop-place
invariant-loop-place g l =
    Running l.schedule.form l.schedule.peers l.schedule.view l.schedule.events l.place (account g.H.Hasher16.kept g.H.Hasher16.clashes g.H.Hasher16.fulls l.fn.hasher) (run_of l.world) (account g.H.Hasher16.kept g.H.Hasher16.clashes g.H.Hasher16.fulls l.hasher)
