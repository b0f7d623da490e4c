use Rattle.std.proofs.Common.{◌≡◌, take}
use Rattle.tree_repair.specs.Segments.{taken}
use Rattle.tree_repair.proofs.segments.copies.Given as goal

abbrev pub invariant-loop-placed : goal.invariant-loop-placed
invariant-loop-placed l = l.copies.items ≡ taken l.entries (take l.placed-index l.places)
