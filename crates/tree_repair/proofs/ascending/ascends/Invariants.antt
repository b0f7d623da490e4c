use Rattle.std.proofs.Common.{[], drop}
use Rattle.tree_node.specs.Entries.{AreAbove}
use Rattle.tree_repair.proofs.ascending.ascends.Given as goal

abbrev pub invariant-loop-entry : goal.invariant-loop-entry
invariant-loop-entry l = record {
  all : AreAbove l.last (drop l.entry-index l.entries) → AreAbove [] l.entries;
  rest : AreAbove [] l.entries → AreAbove l.last (drop l.entry-index l.entries);
}
