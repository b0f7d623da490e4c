use Rattle.std.proofs.Common.{◌≡◌, ◌++◌, map, take, drop}
use Rattle.tree_backup.specs.Runs.{matched}
use Rattle.tree_backup.proofs.matching.keep_matched.Given as goal

abbrev pub invariant-loop-i : goal.invariant-loop-i
invariant-loop-i l = l.items ≡ map matched (take l.i l.fn.items) ++ drop l.i l.fn.items
