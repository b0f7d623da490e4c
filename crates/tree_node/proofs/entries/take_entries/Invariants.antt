use Rattle.std.proofs.Common.{◌≡◌, ◌-◌, ◌≤◌, length}
use Rattle.tree_node.specs.Repeats.{list_at}
use Rattle.tree_node.specs.Entries.{last_key, next_at, entries_at}
use Rattle.tree_node.proofs.RepeatLaws.{with_prefix}
use Rattle.tree_node.proofs.entries.take_entries.Given as goal

abbrev pub invariant-loop : goal.invariant-loop
invariant-loop l = record {
  within : l.place ≤ length l.bytes;
  read : with_prefix l.entries.items (list_at next_at (λ e. e.key) (l.count - l.counter) (last_key l.entries.items) l.bytes l.place) ≡ entries_at l.count l.bytes l.at;
}
