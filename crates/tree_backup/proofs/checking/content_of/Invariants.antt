use Rattle.std.proofs.Common.{◌≡◌}
use Rattle.tree_backup.specs.Items.{entries_of, objects_of}
use Rattle.tree_backup.proofs.checking.content_of.Given as goal

abbrev pub invariant-loop-item : goal.invariant-loop-item
invariant-loop-item l = record {
  entries : l.entries.items ≡ entries_of l.yielded;
  objects : l.objects.items ≡ objects_of l.yielded;
}
