use Rattle.std.proofs.Common.{◌≡◌, arith}
use Rattle.tree_sync.proofs.running.asks_of.Goals as goal

pub returns : goal.returns
returns c = let all : c.loop-below.below ≡ 31 = omega (arith, c.loop-below.auto.below-end, c.loop-below-test.false) in rw all at c.loop-below.invariant
