use Rattle.world_spec.specs.Held.{account}
use Rattle.world_model.proofs.Loops.{Calming}
use Rattle.world_model.specs.Worlds.{run_of}
use Rattle.chart.proofs.Calms.{IsShown}
use Rattle.chart.proofs.drawing.calm.Given as goal

abbrev pub invariant-loop-turn : goal.invariant-loop-turn
invariant-loop-turn g l =
    Calming l.peers l._turn l.initial.world l.world (account g.H.Hasher16.kept g.H.Hasher16.clashes g.H.Hasher16.fulls l.initial.hasher) (account g.H.Hasher16.kept g.H.Hasher16.clashes g.H.Hasher16.fulls l.hasher)
    × IsShown l.peers l._turn l.initial.lines (run_of l.initial.world) l.lines (run_of l.world)
