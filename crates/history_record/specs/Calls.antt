-- The calls and the changes of view of a schedule.
use Rattle.std.specs.Prelude.{ℕ, ◌+◌, ◌==◌, if◌then◌else◌, List, [], ◌∷◌, Option, None, Some}
use Rattle.std.specs.BTreeSet.{insert_key}
use Rattle.ens_base.specs.Lists.{bytes_cmp}
use Rattle.register_model.specs.declared.call.Call.{Call}
use Rattle.schedule_text.specs.declared.event.ScheduleEvent.{ScheduleEvent}
use Rattle.schedule_text.specs.declared.event.ScheduleEvent.TheVariants as line

-- the call of an event with this number, before those behind it
abbrev pub call_at : ScheduleEvent → ℕ → List Call → List Call
call_at (line.Call peer id key command) number rest = record { id = id; key = key; command = command; event = number } ∷ rest
call_at other number rest = rest

-- the calls of the events, the first of which has this number
abbrev pub calls_from : ℕ → List ScheduleEvent → List Call
calls_from number [] = []
calls_from number (event ∷ more) = call_at event number (calls_from (number + 1) more)

-- the number of the event that makes the call with this id
abbrev pub call_event : ℕ → List ScheduleEvent → ℕ → Option ℕ
call_event number [] id = None
call_event number (line.Call peer i key command ∷ more) id = if i == id then Some number else call_event (number + 1) more id
call_event number (_ ∷ more) id = call_event (number + 1) more id

-- the peer that the event with this number asks for a change of view
abbrev pub change_peer : ℕ → List ScheduleEvent → ℕ → Option ℕ
change_peer number [] event = None
change_peer number (line.Change peer view ∷ more) event = if number == event then Some peer else change_peer (number + 1) more event
change_peer number (_ ∷ more) event = change_peer (number + 1) more event

-- the keys of the calls, each once, ascending
abbrev pub keys_of : List ScheduleEvent → List (List ℕ)
keys_of [] = []
keys_of (line.Call peer id key command ∷ more) = insert_key bytes_cmp (keys_of more) key
keys_of (_ ∷ more) = keys_of more
