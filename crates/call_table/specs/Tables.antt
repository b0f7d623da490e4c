-- The table of a leader, and how it changes.
use Rattle.std.specs.Prelude.{ℕ, Bool, Option, Some, None, List, [], ◌∷◌}
use Rattle.call_table.specs.declared.table.CallTable.{CallTable}
use Rattle.call_table.specs.declared.waiting.DueCall.{DueCall}
use Rattle.call_table.specs.declared.row.Stage.TheVariants.{Idle}
use Rattle.call_table.specs.Calls.{without_running, due, not_due}
use Rattle.call_table.specs.Late.{late_put_after}
use Rattle.call_table.specs.Rows.{row_at, with_stage, without_check, check_round}

-- no call, nothing is known, and nothing is asked
abbrev pub empty_table : CallTable
empty_table = record { calls = []; rows = []; checks = [] }

-- the key is idle, and its check has ended
unfoldable pub rested : List ℕ → CallTable → CallTable
rested key t = record t { rows = with_stage key Idle t.rows; checks = without_check (check_round (row_at key t.rows).stage) t.checks }

-- the running call of the key is removed, and the key is idle
unfoldable pub ended : List ℕ → CallTable → CallTable
ended key t = rested key (record t { calls = without_running key t.calls })

abbrev pub rested_if : Option (List ℕ) → CallTable → CallTable
rested_if None t = t
rested_if (Some key) t = rested key t

-- the keys of those of these calls that are running are idle
abbrev pub rested_all : List DueCall → CallTable → CallTable
rested_all [] t = t
rested_all (d ∷ ds) t = rested_all ds (rested_if d.running t)

-- the calls that are due are removed, and each key whose running call is one of them is idle
unfoldable pub without_due : CallTable → CallTable
without_due t = let m = rested_all (due t.calls) t in record m { calls = not_due m.calls }

-- whether a running call that is due has a put that is not settled
unfoldable pub late_put : CallTable → Bool
late_put t = late_put_after t.rows [] t.calls
