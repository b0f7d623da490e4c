use Rattle.std.proofs.Common.{◌≡◌, ◌-◌, ◌≤◌, length}
use Rattle.tree_node.specs.Entries.{digests_at}
use Rattle.tree_node.proofs.RepeatLaws.{with_prefix}
use Rattle.tree_node.proofs.entries.take_digests.Given as goal

abbrev pub invariant-loop : goal.invariant-loop
invariant-loop l = record {
  within : l.place ≤ length l.bytes;
  read : with_prefix l.digests.items (digests_at (l.count - l.counter) l.bytes l.place) ≡ digests_at l.count l.bytes l.at;
}
