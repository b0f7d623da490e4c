use Rattle.std.specs.Prelude.{◌&&◌, not, ◌==◌}
use Rattle.wire_frames.specs.EnsBase.{holds}
use Rattle.quorums.specs.Quorums.{is_member}
use Rattle.phase_rows.proofs.Filled.{IsFilled}
use Rattle.phase_rows.proofs.peers.others_outside.Given as goal

abbrev pub invariant-loop-number : goal.invariant-loop-number
invariant-loop-number l = IsFilled (λ p. is_member l.views p && not (p == l.me) && not (holds l.set p)) l.number l.others
