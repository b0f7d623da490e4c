use Rattle.std.proofs.Common.{◌≡◌, ◌-◌, ◌≤◌, length}
use Rattle.tree_node.specs.Repeats.{list_at}
use Rattle.tree_node.proofs.RepeatLaws.{with_prefix}
use Rattle.tree_backup.specs.Readings.{last_key, item_at, items_at}
use Rattle.tree_backup.proofs.reading.read_items.Given as goal

abbrev pub invariant-loop : goal.invariant-loop
invariant-loop l = record {
  within : l.place ≤ length l.bytes;
  read : with_prefix l.items.items (list_at item_at (λ x. x.entry.key) (l.count - l.counter) (last_key l.items.items) l.bytes l.place) ≡ items_at l.count l.bytes l.at;
}
