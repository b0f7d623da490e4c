use Rattle.std.proofs.Common.{◌≡◌, ◌++◌}
use Rattle.std.specs.Vec.Iter.{into_iter_items}
use Rattle.call_table.specs.Slots.{present}
use Rattle.call_table.proofs.calls.Calls.into_vec.Given as goal

abbrev pub invariant-loop-slot : goal.invariant-loop-slot
invariant-loop-slot l = l.fn.self ≡ l.calls.items ++ present (into_iter_items l.slot-iterator)
