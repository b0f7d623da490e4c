-- Why no script was read, and how far a source was.
use Rattle.std.specs.Prelude.{ℕ, List, Option, Result, Err}
use Rattle.schedule_input.specs.LineReading.{ReadsAs}
use Rattle.scripts.specs.Progress.{RootProgress, Blank, lines_so_far}
use Rattle.scripts.specs.RootReading.{ended, next_line}
use Rattle.schedule_text.specs.declared.error.ScheduleError.{ScheduleError}
use Rattle.schedule_text.specs.declared.error.ScheduleError.TheVariants as schedule
use Rattle.schedule_input.specs.declared.read.ReadError.{ReadError}
use Rattle.schedule_input.specs.declared.read.ReadError.TheVariants as read
use Rattle.schedule_input.specs.Counting as counting

-- An error and the bytes to come: it names their first bad line and its cause, or they have too many lines. A
-- reader says which lines are bad.
abbrev pub RefusesBy : {S R : Type 0} → (S → List ℕ → Result S ScheduleError) → (S → List ℕ → Result R ScheduleError) → Option (List ℕ) → S → ReadError → Type 0
RefusesBy next end rest s (read.Bad line cause) = ReadsAs next end rest s (Err (schedule.Bad line cause))
RefusesBy next end rest s read.Lines = ReadsAs next end rest s (Err schedule.Lines)
RefusesBy next end rest s read.Failed = Unit {0}
RefusesBy next end rest s read.Memory = Unit {0}

abbrev pub Refuses : Option (List ℕ) → RootProgress → ReadError → Type 0
Refuses rest p error = RefusesBy next_line ended rest p error

-- Of a source that held the first bytes the second ones are left. It gave at most 200,000 lines, none of which
-- is bad, and after them no more bytes than the longest line has; on the whole no more than `most_taken`.
abbrev pub WasTakenTo : Option (List ℕ) → Option (List ℕ) → Type 0
WasTakenTo source left = counting.WasTakenTo next_line ended Blank lines_so_far source left

-- the source failed before the bytes that it gave decided anything
abbrev pub WasCutOff : Option (List ℕ) → Option (List ℕ) → Type 0
WasCutOff source left = counting.WasCutOff next_line ended Blank lines_so_far source left
