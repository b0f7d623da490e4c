use Rattle.std.proofs.Common.{◌≡◌, [], drop, take}
use Rattle.call_table.specs.Late.{late_put_after}
use Rattle.call_table.specs.Slots.{present}
use Rattle.call_table.proofs.calls.is_put_late.Given as goal

abbrev pub invariant-loop-i : goal.invariant-loop-i
invariant-loop-i l = late_put_after l.rows [] (present l.slots) ≡ late_put_after l.rows (present (take l.i l.slots)) (present (drop l.i l.slots))
