use Rattle.std.proofs.Common.{◌≡◌, drop}
use Rattle.call_table.specs.Tables.{rested_all}
use Rattle.call_table.proofs.table.CallTable.rest_all.Given as goal

abbrev pub invariant-loop-i : goal.invariant-loop-i
invariant-loop-i l = rested_all l.due l.initial.self ≡ rested_all (drop l.i l.due) l.self
