use Rattle.std.proofs.Common.{◌≡◌, map, take}
use Rattle.tree_backup.specs.Checks.{text_at}
use Rattle.tree_backup.proofs.hashing.texts_of.Given as goal

abbrev pub invariant-loop-item : goal.invariant-loop-item
invariant-loop-item l = l.texts.items ≡ map text_at (take l.item-index l.items)
