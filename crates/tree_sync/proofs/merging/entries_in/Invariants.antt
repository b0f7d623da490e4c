use Rattle.std.proofs.Common.{◌≡◌}
use Rattle.tree_sync.specs.Ranks.{entries_of, HaveKeys}
use Rattle.tree_sync.proofs.merging.entries_in.Given as goal

abbrev pub invariant-loop-key : goal.invariant-loop-key
invariant-loop-key l = record { entries : l.entries.items ≡ entries_of l.yielded; keys : HaveKeys l.entries.items }
