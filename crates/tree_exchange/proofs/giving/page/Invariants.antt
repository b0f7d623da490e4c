use Rattle.std.proofs.Common.{◌≡◌, ◌≤◌, length, take}
use Rattle.tree_exchange.specs.Gives.{beyond}
use Rattle.tree_exchange.proofs.giving.page.Given as goal

abbrev pub invariant-loop-entry : goal.invariant-loop-entry
invariant-loop-entry l = record {
  page : l.page.items ≡ beyond l.after (take l.entry-index l.entries);
  few : length l.page.items ≤ 32;
}
