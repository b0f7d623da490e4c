use Rattle.std.proofs.Common.{◌≡◌, ◌++◌}
use Rattle.std.specs.Vec.Iter.{into_iter_items}
use Rattle.call_table.specs.Slots.{present}
use Rattle.call_table.proofs.calls.Calls.of_slots.Given as goal

abbrev pub invariant-loop-slot : goal.invariant-loop-slot
invariant-loop-slot l = present l.fn.slots.items ≡ l.calls ++ present (into_iter_items l.slot-iterator)
