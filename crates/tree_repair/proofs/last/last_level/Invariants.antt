use Rattle.std.proofs.Common.{◌≡◌, take}
use Rattle.synctree.specs.Sixteen.{form_of}
use Rattle.tree_repair.specs.Levels.{entries_in, damage_in}
use Rattle.tree_repair.proofs.last.last_level.Given as goal

abbrev pub invariant-loop-i : goal.invariant-loop-i
invariant-loop-i l = record {
  entries : l.entries.items ≡ entries_in (form_of l.version) (take l.i l.slots) (take l.i l.reads);
  damaged : l.damaged.items ≡ damage_in (form_of l.version) (take l.i l.slots) (take l.i l.reads);
}
