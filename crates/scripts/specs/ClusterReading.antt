-- How a script is read from a source, and why none was read.
use Rattle.std.specs.Prelude.{◌≡◌, ℕ, Bool, true, false, ◌||◌, List, Option, Result, Ok, Err}
use Rattle.environment.specs.declared.lines.NextError.{NextError}
use Rattle.environment.specs.declared.lines.NextError.TheVariants as next
use Rattle.schedule_input.specs.LineReading.{ReadsAs}
use Rattle.lexemes.specs.declared.cause.WordError.TheVariants as words
use Rattle.lexemes.specs.declared.cause.Cause.TheVariants.{Repeated}
use Rattle.schedule_text.specs.Errors.{Stops, at_line, error_at}
use Rattle.schedule_text.specs.declared.error.ScheduleError.{ScheduleError}
use Rattle.schedule_text.specs.declared.error.ScheduleError.TheVariants as schedule
use Rattle.schedule_text.specs.declared.event.ScheduleEvent.TheVariants.{Call}
use Rattle.scripts.specs.Scripts.{calls_id, ended, next_line, with_line}
use Rattle.scripts.specs.declared.line.ScriptLine.{ScriptLine}
use Rattle.scripts.specs.declared.line.ScriptLine.TheVariants.{Event}
use Rattle.scripts.specs.declared.cluster_read.ReadError.{ReadError}
use Rattle.scripts.specs.declared.cluster_read.ReadError.TheVariants as read

-- a line is taken, or the lines stay as they were
abbrev pub TakesLine : ℕ → List ScriptLine → List ℕ → List ScriptLine → Result (Unit {0}) ScheduleError → Type 0
TakesLine peers old text new (Ok _) = next_line peers old text ≡ Ok new
TakesLine peers old text new (Err (schedule.Bad line cause)) = (next_line peers old text ≡ Err (schedule.Bad line cause)) × (new ≡ old)
TakesLine peers old text new (Err schedule.Lines) = (next_line peers old text ≡ Err schedule.Lines) × (new ≡ old)
TakesLine peers old text new (Err schedule.Memory) = new ≡ old

-- whether a line is a call whose id is among these
abbrev pub has_id_among : (ℕ → Bool) → ScriptLine → Bool
has_id_among ids (Event (Call peer id key command)) = ids id
has_id_among ids _ = false

-- ids to which that of a line is added, at the line of this number, unless it was among them
abbrev pub Admits : ℕ → (ℕ → Bool) → ScriptLine → (ℕ → Bool) → Result (Unit {0}) ScheduleError → Type 0
Admits place old line new (Ok _) = (has_id_among old line ≡ false) × ((id : ℕ) → new id ≡ (calls_id id line || old id))
Admits place old line new (Err schedule.Memory) = (id : ℕ) → new id ≡ old id
Admits place old line new (Err e) = (e ≡ error_at place (words.Bad Repeated)) × (has_id_among old line ≡ true) × ((id : ℕ) → new id ≡ old id)

-- a line behind those so far, at the line of this number: it is added, or the lines stay as they were
abbrev pub Adds : ℕ → List ScriptLine → ScriptLine → List ScriptLine → Result (Unit {0}) ScheduleError → Type 0
Adds place old line new (Ok _) = with_line old line ≡ Ok new
Adds place old line new (Err e) = Stops (at_line place (with_line old line)) e × (new ≡ old)

abbrev pub of_next : NextError → ReadError
of_next next.Failed = read.Failed
of_next next.Memory = read.Memory

abbrev pub of_schedule : ScheduleError → ReadError
of_schedule (schedule.Bad line cause) = read.Bad line cause
of_schedule schedule.Lines = read.Lines
of_schedule schedule.Memory = read.Memory

-- an error and the bytes to come: it names their first bad line and its cause, or they have too many lines
abbrev pub Refuses : ℕ → Option (List ℕ) → List ScriptLine → ReadError → Type 0
Refuses peers rest lines (read.Bad line cause) = ReadsAs (next_line peers) ended rest lines (Err (schedule.Bad line cause))
Refuses peers rest lines read.Lines = ReadsAs (next_line peers) ended rest lines (Err schedule.Lines)
Refuses peers rest lines read.Failed = Unit {0}
Refuses peers rest lines read.Memory = Unit {0}
