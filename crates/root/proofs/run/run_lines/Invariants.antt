use Rattle.world_spec.specs.Held.{account}
use Rattle.root.proofs.Steps.{Doing}
use Rattle.root.proofs.run.run_lines.Given as goal

abbrev pub invariant-loop-place : goal.invariant-loop-place
invariant-loop-place g l = Doing l.script l.place (account g.H.Hasher16.kept g.H.Hasher16.clashes g.H.Hasher16.fulls l.fn.hasher) l.run (account g.H.Hasher16.kept g.H.Hasher16.clashes g.H.Hasher16.fulls l.hasher)
