use Rattle.std.proofs.Common.{◌≡◌}
use Rattle.tree_sync.specs.Asks.{is_other, asks_up_to}
use Rattle.tree_sync.proofs.running.asks_of.Given as goal

abbrev pub invariant-loop-below : goal.invariant-loop-below
invariant-loop-below l = l.asks.items ≡ asks_up_to (is_other l.me l.view) l.below
