use Rattle.world_spec.specs.Held.{account}
use Rattle.world_model.proofs.Loops.{Calming}
use Rattle.world_model.proofs.world.World.calm.Given as goal

abbrev pub invariant-loop-turn : goal.invariant-loop-turn
invariant-loop-turn g l =
    Calming l.peers l._turn l.initial.self l.self (account g.H.Hasher16.kept g.H.Hasher16.clashes g.H.Hasher16.fulls l.initial.hasher) (account g.H.Hasher16.kept g.H.Hasher16.clashes g.H.Hasher16.fulls l.hasher)
