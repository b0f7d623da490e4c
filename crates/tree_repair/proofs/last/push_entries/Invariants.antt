use Rattle.std.proofs.Common.{◌≡◌, ◌++◌}
use Rattle.tree_repair.proofs.last.push_entries.Given as goal

abbrev pub invariant-loop-entry : goal.invariant-loop-entry
invariant-loop-entry l = l.all.items ≡ l.fn.all.items ++ l.yielded
