-- What reading a record gives, or at which line it stops and why.
use Rattle.std.specs.Prelude.{◌≡◌, ℕ, ◌+◌, ◌≤◌, if◌then◌else◌, List, [], ◌∷◌, length, codes, Option, None, Some, Result, Ok, Err}
use Rattle.ens_base.specs.Lists.{same_bytes, AreDistinct}
use Rattle.lexemes.specs.Words.{parts_of}
use Rattle.schedule_text.specs.Events.{line_limit}
use Rattle.schedule_text.specs.Progress.{Progress, Blank, Running, lines_so_far}
use Rattle.schedule_text.specs.Spelling.{call_ids}
use Rattle.schedule_text.specs.Reading.{next_line, ended}
use Rattle.schedule_text.specs.declared.error.ScheduleError.{ScheduleError}
use Rattle.schedule_text.specs.declared.error.ScheduleError.TheVariants as schedule
use Rattle.schedule_text.specs.declared.schedule.Schedule.{Schedule}
use Rattle.history_record.specs.Flaws.{flaw_number}
use Rattle.history_record.specs.Lines.{most_bytes}
use Rattle.history_record.specs.Telling.{Heard, nothing_heard, next_heard}
use Rattle.history_record.specs.declared.error.AuditError.{AuditError}
use Rattle.history_record.specs.declared.error.AuditError.TheVariants.{Bad, Lines, Memory}
use Rattle.history_record.specs.declared.flaw.Flaw.{Flaw}
use Rattle.history_record.specs.declared.flaw.Flaw.TheVariants.{Cut, Key}
use Rattle.history_record.specs.declared.record.Record.{Record}

-- how far the reading has come: in the schedule, or behind the line `answers`
pub data Stage : Type 0 where
  Before : (p : Progress) → Stage
  Behind : (h : Heard) → Stage

-- the reading begins
abbrev pub first_stage : Stage
first_stage = Before Blank

-- how many lines there were
abbrev pub lines_of : Stage → ℕ
lines_of (Before p) = lines_so_far p
lines_of (Behind h) = h.lines

-- the most bytes of the next line
abbrev pub most_in : Stage → ℕ
most_in (Before p) = line_limit
most_in (Behind h) = most_bytes

-- the line between the schedule and the answers
abbrev pub answers_line : List ℕ
answers_line = codes "answers"

-- why reading stops in the schedule
abbrev pub of_schedule : ScheduleError → AuditError
of_schedule (schedule.Bad line cause) = Bad line cause
of_schedule schedule.Lines = Lines
of_schedule schedule.Memory = Memory

-- the line behind those so far has this flaw
abbrev pub flawed : {A : Type 0} → ℕ → Flaw → Result A AuditError
flawed lines flaw = Err (Bad (lines + 1) (flaw_number flaw))

-- what a line of the schedule gives
abbrev pub before : Result Progress ScheduleError → Result Stage AuditError
before (Ok p) = Ok (Before p)
before (Err e) = Err (of_schedule e)

-- what the line `answers` gives
abbrev pub opened : Result Schedule ScheduleError → Result Stage AuditError
opened (Ok s) = Ok (Behind (nothing_heard s))
opened (Err e) = Err (of_schedule e)

-- what a line behind it gives
abbrev pub behind : ℕ → Result Heard Flaw → Result Stage AuditError
behind lines (Ok h) = Ok (Behind h)
behind lines (Err flaw) = flawed lines flaw

-- the next line
abbrev pub next_stage : Stage → List ℕ → Result Stage AuditError
next_stage (Before p) text = if same_bytes text answers_line then opened (ended p []) else before (next_line p text)
next_stage (Behind h) text = behind h.lines (next_heard h text)

-- after a line that was not taken: as before; after the line `answers` the reading begins anew
abbrev pub after_error : Stage → List ℕ → Stage
after_error (Before p) text = if same_bytes text answers_line then first_stage else Before p
after_error (Behind h) text = Behind h

-- the schedule has ended, and the line `answers` is missing
abbrev pub missing : Result Schedule ScheduleError → Result Record AuditError
missing (Ok s) = flawed (length s.events + 3) Key
missing (Err e) = Err (of_schedule e)

-- the end of the input in the lines behind `answers`: no history may be missing
abbrev pub closed : Heard → List (List ℕ) → Result Record AuditError
closed h [] = Ok (record { schedule = h.schedule; answers = h.answers; histories = h.histories })
closed h (key ∷ keys) = flawed h.lines Key

-- the end of the input, behind what follows the last line feed
abbrev pub end_stage : Stage → List ℕ → Result Record AuditError
end_stage (Before p) rest = missing (ended p rest)
end_stage (Behind h) [] = closed h h.keys
end_stage (Behind h) (byte ∷ rest) = flawed h.lines Cut

-- what follows, where the line was not bad
abbrev pub and_then : Result Stage AuditError → (Stage → Result Record AuditError) → Result Record AuditError
and_then (Ok stage) rest = rest stage
and_then (Err e) rest = Err e

-- the parts of a text between its line feeds: all but the last are lines
abbrev pub read_parts : Stage → List (List ℕ) → Result Record AuditError
read_parts stage [] = end_stage stage []
read_parts stage (rest ∷ []) = end_stage stage rest
read_parts stage (text ∷ next ∷ more) = and_then (next_stage stage text) (λ s. read_parts s (next ∷ more))

-- the record that a text is, or its first bad line
abbrev pub record_of : List ℕ → Result Record AuditError
record_of text = read_parts first_stage (parts_of 10 text)

-- reading stops at this error, or memory ran out
abbrev pub Stops : {A : Type 0} → Result A AuditError → AuditError → Type 0
Stops read (Bad line cause) = read ≡ Err (Bad line cause)
Stops read Lines = read ≡ Err Lines
Stops read Memory = Unit {0}

-- the answer is what reading gives, unless memory ran out
abbrev pub Answers : {A : Type 0} → Result A AuditError → Result A AuditError → Type 0
Answers read (Ok x) = read ≡ Ok x
Answers read (Err e) = Stops read e

-- the next stage is reached, or reading stops
abbrev pub Steps : Result Stage AuditError → Stage → Result (Unit {0}) AuditError → Type 0
Steps read new (Ok _) = read ≡ Ok new
Steps read new (Err e) = Stops read e

-- the stage that the reading of the schedule and what was heard behind it stand for
abbrev pub stage_of : Progress → Option Heard → Stage
stage_of p None = Before p
stage_of p (Some h) = Behind h

-- the calls read so far have distinct ids
abbrev pub HasDistinct : Progress → Type 0
HasDistinct (Running form peers view events) = AreDistinct (call_ids events)
HasDistinct p = Unit {0}

-- the lines read so far may be the prefix of a schedule
pub record IsBegun (p : Progress) : Type 0 where
  pub few : lines_so_far p ≤ 200000
  pub distinct : HasDistinct p
