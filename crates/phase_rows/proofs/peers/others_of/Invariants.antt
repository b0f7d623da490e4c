use Rattle.std.specs.Prelude.{◌&&◌, not, ◌==◌}
use Rattle.wire_frames.specs.EnsBase.{holds}
use Rattle.phase_rows.proofs.Filled.{IsFilled}
use Rattle.phase_rows.proofs.peers.others_of.Given as goal

abbrev pub invariant-loop-number : goal.invariant-loop-number
invariant-loop-number l = IsFilled (λ p. holds l.set p && not (p == l.me)) l.number l.others
