use Rattle.std.proofs.Common.{◌≡◌, take}
use Rattle.tree_sync.specs.Merges.{with_entries}
use Rattle.tree_sync.proofs.merging.Merge.add_all.Given as goal

abbrev pub invariant-loop-entry : goal.invariant-loop-entry
invariant-loop-entry l = l.self ≡ with_entries l.initial.self (take l.entry-index l.entries)
