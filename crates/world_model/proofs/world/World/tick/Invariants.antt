use Rattle.world_spec.specs.Held.{account}
use Rattle.world_model.proofs.Loops.{Ticking}
use Rattle.world_model.proofs.world.World.tick.Given as goal

abbrev pub invariant-loop-tick : goal.invariant-loop-tick
invariant-loop-tick g l =
    Ticking l.fn.peer l.fn.ticks l._tick l.initial.self l.self (account g.H.Hasher16.kept g.H.Hasher16.clashes g.H.Hasher16.fulls l.initial.hasher) (account g.H.Hasher16.kept g.H.Hasher16.clashes g.H.Hasher16.fulls l.hasher)
