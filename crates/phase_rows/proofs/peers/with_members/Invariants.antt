use Rattle.std.specs.Prelude.{◌||◌}
use Rattle.wire_frames.specs.EnsBase.{holds}
use Rattle.quorums.specs.Quorums.{is_member}
use Rattle.phase_rows.proofs.Filled.{IsFilled}
use Rattle.phase_rows.proofs.peers.with_members.Given as goal

abbrev pub invariant-loop-number : goal.invariant-loop-number
invariant-loop-number l = IsFilled (λ p. holds l.set p || is_member l.views p) l.number l.all
