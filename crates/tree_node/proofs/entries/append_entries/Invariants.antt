use Rattle.std.proofs.Common.{◌≡◌, ◌++◌, take}
use Rattle.std.specs.List.{AllByRecursion}
use Rattle.fields.specs.Entries.{IsEntry}
use Rattle.tree_node.specs.Entries.{entries_spelling}
use Rattle.tree_node.proofs.entries.append_entries.Given as goal

abbrev pub invariant-loop-entry : goal.invariant-loop-entry
invariant-loop-entry l = record {
  written : l.out.items ≡ l.initial.out.items ++ entries_spelling (take l.entry-index l.entries);
  valid : AllByRecursion IsEntry (take l.entry-index l.entries);
}
