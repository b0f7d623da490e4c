use Rattle.std.proofs.Common.{◌≡◌, ◌++◌, take}
use Rattle.std.specs.List.{AllByRecursion}
use Rattle.tree_backup.specs.Items.{IsItem, items_spelling}
use Rattle.tree_backup.proofs.writing.put_items.Given as goal

abbrev pub invariant-loop-item : goal.invariant-loop-item
invariant-loop-item l = record {
  written : l.out.items ≡ l.initial.out.items ++ items_spelling (take l.item-index l.items);
  valid : AllByRecursion IsItem (take l.item-index l.items);
}
