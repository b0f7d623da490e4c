use Rattle.std.proofs.Common.{arith}
use Rattle.phase_rows.proofs.Filled.{filled_none, filled_end}
use Rattle.world_model.proofs.applying.all_peers.Goals as goal

pub loop-number-init : goal.loop-number-init
loop-number-init c = rw c.empty-set.ensures (filled_none _)

pub returns : goal.returns
returns c = filled_end _ _ _ (omega (arith, c.loop-number.auto.number-end, c.loop-number-test.false)) c.loop-number.invariant
