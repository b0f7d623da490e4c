use Rattle.std.proofs.Common.{◌≤◌}
use Rattle.tree_repair.proofs.hashing.count.Given as goal

abbrev pub invariant-loop-node : goal.invariant-loop-node
invariant-loop-node l = l.count ≤ l.node-index
