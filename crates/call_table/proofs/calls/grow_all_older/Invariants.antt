use Rattle.std.proofs.Common.{◌≡◌, ◌++◌, map, take, drop}
use Rattle.std.specs.Prelude.{option_map}
use Rattle.call_table.specs.Calls.{older}
use Rattle.call_table.proofs.calls.grow_all_older.Given as goal

abbrev pub invariant-loop-i : goal.invariant-loop-i
invariant-loop-i l = map (option_map older) l.initial.slots ≡ take l.i l.slots ++ map (option_map older) (drop l.i l.slots)
