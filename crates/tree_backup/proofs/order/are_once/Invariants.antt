use Rattle.std.proofs.Common.{[], drop}
use Rattle.tree_node.specs.Entries.{AreAbove}
use Rattle.tree_backup.specs.Order.{Rises}
use Rattle.tree_backup.proofs.Ascending.{TwiceAt}
use Rattle.tree_backup.proofs.order.are_once.Given as goal

abbrev pub invariant-loop-entry : goal.invariant-loop-entry
invariant-loop-entry l = record {
  all : AreAbove l.last (drop l.entry-index l.entries) → AreAbove [] l.entries;
  rises : Rises l.last (drop l.entry-index l.entries);
  twice : TwiceAt l.last l.entries l.entry-index;
}
