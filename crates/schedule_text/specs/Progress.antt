-- How far the reading of a schedule has come.
use Rattle.std.specs.Prelude.{◌≡◌, ℕ, ◌+◌, ◌≤◌, Bool, true, false, ◌==◌, List, [], ◌∷◌, ◌++◌, length, Result, Ok, Err}
use Rattle.std.specs.List.{list_any}
use Rattle.lexemes.specs.declared.cause.Cause.TheVariants.{Repeated}
use Rattle.lexemes.specs.declared.cause.WordError.{WordError}
use Rattle.lexemes.specs.declared.cause.WordError.TheVariants.{Bad, Memory}
use Rattle.schedule_text.specs.declared.event.ScheduleEvent.{ScheduleEvent}
use Rattle.schedule_text.specs.declared.event.ScheduleEvent.TheVariants.{Call}
use Rattle.schedule_text.specs.declared.form.Form.{Form}
use Rattle.schedule_text.specs.declared.stage.Stage.{Stage}
use Rattle.schedule_text.specs.declared.stage.Stage.TheVariants as stage

-- what the lines so far said
pub data Progress : Type 0 where
  Blank : Progress
  Titled : (form : Form) → Progress
  Counted : (form : Form) (peers : ℕ) → Progress
  Running : (form : Form) (peers : ℕ) (view : List ℕ) (events : List ScheduleEvent) → Progress

-- how many lines there were
abbrev pub lines_so_far : Progress → ℕ
lines_so_far Blank = 0
lines_so_far (Titled form) = 1
lines_so_far (Counted form peers) = 2
lines_so_far (Running form peers view events) = 3 + length events

-- whether an event is the call with this id
abbrev pub is_call : ℕ → ScheduleEvent → Bool
is_call id (Call peer i key command) = i == id
is_call id _ = false

-- whether an event is a call whose id came before
abbrev pub is_repeated : List ScheduleEvent → ScheduleEvent → Bool
is_repeated events (Call peer id key command) = list_any (is_call id) events
is_repeated events _ = false

-- a list of events with one more behind it, unless it is a call whose id came before
abbrev pub Logs : List ScheduleEvent → ScheduleEvent → List ScheduleEvent → Result (Unit {0}) WordError → Type 0
Logs old event new (Ok _) = (is_repeated old event ≡ false) × (new ≡ old ++ event ∷ [])
Logs old event new (Err (Bad cause)) = (cause ≡ Repeated) × (is_repeated old event ≡ true) × (new ≡ old)
Logs old event new (Err Memory) = new ≡ old

-- the progress that a stage of the heading and the events behind it stand for
abbrev pub progress_of : Stage → List ScheduleEvent → Progress
progress_of stage.Blank events = Blank
progress_of (stage.Titled form) events = Titled form
progress_of (stage.Counted form peers) events = Counted form peers
progress_of (stage.Running form peers view) events = Running form peers view events

-- no event before the heading is whole
abbrev pub HasNoEarlyEvent : Stage → List ScheduleEvent → Type 0
HasNoEarlyEvent (stage.Running form peers view) events = Unit {0}
HasNoEarlyEvent _ events = events ≡ []

-- the stage and the events of a reading that may go on
pub record IsUnderWay (stage : Stage) (events : List ScheduleEvent) : Type 0 where
  pub early : HasNoEarlyEvent stage events
  pub few : lines_so_far (progress_of stage events) ≤ 200000
