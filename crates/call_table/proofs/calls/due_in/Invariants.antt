use Rattle.std.proofs.Common.{◌≡◌, ◌++◌, drop, take}
use Rattle.call_table.specs.Calls.{due, due_after}
use Rattle.call_table.specs.Slots.{present}
use Rattle.call_table.proofs.calls.due_in.Given as goal

abbrev pub invariant-loop-i : goal.invariant-loop-i
invariant-loop-i l = due (present l.slots) ≡ l.due.items ++ due_after (present (take l.i l.slots)) (present (drop l.i l.slots))
