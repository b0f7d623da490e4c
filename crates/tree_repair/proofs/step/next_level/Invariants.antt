use Rattle.std.proofs.Common.{◌≡◌, take}
use Rattle.synctree.specs.Sixteen.{form_of}
use Rattle.tree_repair.specs.Levels.{next_level}
use Rattle.tree_repair.proofs.step.next_level.Given as goal

abbrev pub invariant-loop-i : goal.invariant-loop-i
invariant-loop-i l = l.next.items ≡ next_level (form_of l.version) (take l.i l.slots) (take l.i l.reads)
