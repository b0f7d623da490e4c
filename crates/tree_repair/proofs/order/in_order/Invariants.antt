use Rattle.std.proofs.Common.{◌≡◌, ◌++◌, drop}
use Rattle.tree_repair.specs.Segments.{placed}
use Rattle.tree_repair.proofs.order.in_order.Given as goal

abbrev pub invariant-loop-entry : goal.invariant-loop-entry
invariant-loop-entry l = l.order.items ++ placed (drop l.entry l.segments) l.entry ≡ placed l.segments 0
