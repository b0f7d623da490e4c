-- Puts that wait too long for acknowledgements.
use Rattle.std.specs.Prelude.{◌==◌, ◌&&◌, ◌||◌, Bool, false, List, [], ◌∷◌, ◌++◌}
use Rattle.call_table.specs.Calls.{is_due, waiting_on}
use Rattle.call_table.specs.Rows.{Rows, row_at, has_put}
use Rattle.call_table.specs.declared.waiting.Waiting.{Waiting}

-- whether this call, which comes after the calls `before`, is a running call that is due and has a
-- put that is not settled
abbrev pub is_late_put : Rows → List Waiting → Waiting → Bool
is_late_put rows before w = is_due w && (waiting_on w.key before == 0 && has_put (row_at w.key rows).stage)

-- whether one of these calls, which come after the calls `before`, is a running call that is due
-- and has a put that is not settled
abbrev pub late_put_after : Rows → List Waiting → List Waiting → Bool
late_put_after rows before [] = false
late_put_after rows before (w ∷ ws) = is_late_put rows before w || late_put_after rows (before ++ w ∷ []) ws
