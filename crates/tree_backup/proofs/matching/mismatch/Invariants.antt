use Rattle.std.proofs.Common.{◌≡◌, drop}
use Rattle.tree_backup.specs.Checks.{mismatch}
use Rattle.tree_backup.proofs.matching.mismatch.Given as goal

abbrev pub invariant-loop-i : goal.invariant-loop-i
invariant-loop-i l = mismatch (drop l.i l.items) ≡ mismatch l.items
