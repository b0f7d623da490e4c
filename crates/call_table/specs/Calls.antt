-- The unanswered calls of a leader, in order of arrival. The running call of a key is the first
-- call on it.
use Rattle.std.specs.Prelude.{ℕ, ◌+◌, Bool, true, false, ◌==◌, not, min, nat_le, filter, if◌then◌else◌, Option, Some, None, List, [], ◌∷◌, ◌++◌}
use Rattle.ens_base.specs.Lists.{same_bytes}
use Rattle.call_table.specs.declared.waiting.Waiting.{Waiting}
use Rattle.call_table.specs.declared.waiting.DueCall.{DueCall}

-- whether any call is unanswered
abbrev pub has_calls : List Waiting → Bool
has_calls [] = false
has_calls (w ∷ ws) = true

-- the number of unanswered calls on the key
abbrev pub waiting_on : List ℕ → List Waiting → ℕ
waiting_on key [] = 0
waiting_on key (w ∷ ws) = if same_bytes w.key key then waiting_on key ws + 1 else waiting_on key ws

-- the running call of the key
abbrev pub running : List ℕ → List Waiting → Option Waiting
running key [] = None
running key (w ∷ ws) = if same_bytes w.key key then Some w else running key ws

-- the calls without the running call of the key
abbrev pub without_running : List ℕ → List Waiting → List Waiting
without_running key [] = []
without_running key (w ∷ ws) = if same_bytes w.key key then ws else w ∷ without_running key ws

-- the call one tick later
abbrev pub older : Waiting → Waiting
older w = record w { age = min (w.age + 1) 255 }

-- whether the call has waited for at least 8 ticks
abbrev pub is_due : Waiting → Bool
is_due w = nat_le 8 w.age

-- the calls that are not due
abbrev pub not_due : List Waiting → List Waiting
not_due calls = filter (λ w. not (is_due w)) calls

-- the key of a call if it is running: if no call before it is on the key
abbrev pub key_if_running : List Waiting → Waiting → Option (List ℕ)
key_if_running before w = if waiting_on w.key before == 0 then Some w.key else None

-- those of these calls, which come after the calls `before`, that are due, each with its key if it
-- is running
abbrev pub due_after : List Waiting → List Waiting → List DueCall
due_after before [] = []
due_after before (w ∷ ws) =
    if is_due w then record { from = w.from; id = w.id; running = key_if_running before w } ∷ due_after (before ++ w ∷ []) ws
    else due_after (before ++ w ∷ []) ws

-- the calls that are due
abbrev pub due : List Waiting → List DueCall
due calls = due_after [] calls
