use Rattle.std.proofs.Common.{◌≡◌, ◌++◌, map, take, drop}
use Rattle.call_table.specs.Slots.{unless_due}
use Rattle.call_table.proofs.calls.empty_all_due.Given as goal

abbrev pub invariant-loop-i : goal.invariant-loop-i
invariant-loop-i l = map unless_due l.initial.slots ≡ take l.i l.slots ++ map unless_due (drop l.i l.slots)
