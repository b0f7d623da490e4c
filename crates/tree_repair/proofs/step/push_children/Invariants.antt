use Rattle.std.proofs.Common.{◌≡◌, ◌++◌, take}
use Rattle.tree_node.specs.declared.version.TreeVersion.{TreeVersion}
use Rattle.synctree.specs.Sixteen.{form_of}
use Rattle.tree_repair.specs.Levels.{child_slots}
use Rattle.tree_repair.proofs.step.push_children.Given as goal

abbrev pub invariant-loop-i : goal.invariant-loop-i
invariant-loop-i l = (v : TreeVersion) → l.slots.items ≡ l.fn.slots.items ++ child_slots (form_of v) l.at 0 (take l.i l.names)
