-- How the rest of a source is read, and why no schedule was read.
use Rattle.std.specs.Prelude.{◌≡◌, ◌≤◌, ◌+◌, ◌*◌, ◌++◌, ℕ, List, [], length, Option, None, Some, Result, Err, IfSome}
use Rattle.lexemes.specs.Words.{parts_of}
use Rattle.schedule_text.specs.Progress.{Progress, Blank, lines_so_far}
use Rattle.schedule_text.specs.Reading.{read_parts}
use Rattle.schedule_text.specs.declared.error.ScheduleError.{ScheduleError}
use Rattle.schedule_text.specs.declared.error.ScheduleError.TheVariants as schedule
use Rattle.schedule_text.specs.declared.schedule.Schedule.{Schedule}
use Rattle.environment.specs.Lines.{IsLine}
use Rattle.schedule_input.specs.Counting.{most_taken}
use Rattle.environment.specs.declared.lines.NextError.{NextError}
use Rattle.environment.specs.declared.lines.NextError.TheVariants as next
use Rattle.schedule_input.specs.declared.read.ReadError.{ReadError}
use Rattle.schedule_input.specs.declared.read.ReadError.TheVariants as read

abbrev pub of_next : NextError → ReadError
of_next next.Failed = read.Failed
of_next next.Memory = read.Memory

abbrev pub of_schedule : ScheduleError → ReadError
of_schedule (schedule.Bad line cause) = read.Bad line cause
of_schedule schedule.Lines = read.Lines
of_schedule schedule.Memory = read.Memory

-- the bytes to come, after the lines so far, give this result
abbrev pub ReadsAs : Option (List ℕ) → Progress → Result Schedule ScheduleError → Type 0
ReadsAs rest p result = IfSome rest (λ bytes. read_parts p (parts_of 10 bytes) ≡ result)

-- the bytes before and the bytes now, each after the lines read by then, give the same result
abbrev pub ReadsOn : Option (List ℕ) → Progress → Option (List ℕ) → Progress → Type 0
ReadsOn None p rest q = Unit {0}
ReadsOn (Some old) p None q = ⊥
ReadsOn (Some old) p (Some new) q = read_parts p (parts_of 10 old) ≡ read_parts q (parts_of 10 new)

-- some bytes, read from the beginning, are the lines so far
pub record IsReached (p : Progress) : Type 0 where
  pub prefix : List ℕ
  pub reads : (rest : List ℕ) → read_parts Blank (parts_of 10 (prefix ++ rest)) ≡ read_parts p (parts_of 10 rest)

-- these bytes, read from the beginning, are the lines so far
abbrev pub AreLines : List ℕ → Progress → Type 0
AreLines lines p = (rest : List ℕ) → read_parts Blank (parts_of 10 (lines ++ rest)) ≡ read_parts p (parts_of 10 rest)

-- A source held the first bytes, and the last ones are left. It gave the lines so far, and the pending
-- bytes after them: on the whole no more than lines of 4,400 bytes, each with its line feed, would have.
pub record IsReading (bytes pending left : List ℕ) (p : Progress) : Type 0 where
  pub lines : List ℕ
  pub are : bytes ≡ lines ++ (pending ++ left)
  pub good : AreLines lines p
  pub short : length pending ≤ 4401
  pub few : length lines + length pending ≤ 4401 * lines_so_far p

-- the same if the bytes are known
abbrev pub HasTaken : Option (List ℕ) → List ℕ → Option (List ℕ) → Progress → Type 0
HasTaken None pending left p = Unit {0}
HasTaken (Some bytes) pending None p = ⊥
HasTaken (Some bytes) pending (Some left) p = IsReading bytes pending left p

-- Of a source that held the first bytes the second ones are left. It gave at most 200,000 lines, none of
-- which is bad, and after them at most 4,401 bytes more, so many as the longest line has with its line
-- feed; on the whole no more than `most_taken`.
pub record IsTakenTo (bytes left : List ℕ) : Type 0 where
  pub lines : List ℕ
  pub more : List ℕ
  pub p : Progress
  pub are : bytes ≡ lines ++ (more ++ left)
  pub good : AreLines lines p
  pub few : lines_so_far p ≤ 200000
  pub short : length more ≤ 4401
  pub bound : length lines + length more ≤ most_taken

-- the same if the bytes are known
abbrev pub WasTakenTo : Option (List ℕ) → Option (List ℕ) → Type 0
WasTakenTo None left = Unit {0}
WasTakenTo (Some bytes) None = ⊥
WasTakenTo (Some bytes) (Some left) = IsTakenTo bytes left

-- The source failed before the bytes that it gave decided anything: after the lines come at most 4,400
-- bytes without a line feed, or none after line 200,000.
pub record IsCutOff (bytes left : List ℕ) : Type 0 where
  pub taken : IsTakenTo bytes left
  pub undecided : IsLine taken.more
  pub last : lines_so_far taken.p ≡ 200000 → taken.more ≡ []

-- the same if the bytes are known
abbrev pub WasCutOff : Option (List ℕ) → Option (List ℕ) → Type 0
WasCutOff None left = Unit {0}
WasCutOff (Some bytes) None = ⊥
WasCutOff (Some bytes) (Some left) = IsCutOff bytes left

-- an error and the bytes to come: it names their first bad line and its cause, or they have too
-- many lines
abbrev pub Refuses : Option (List ℕ) → Progress → ReadError → Type 0
Refuses rest p (read.Bad line cause) = ReadsAs rest p (Err (schedule.Bad line cause))
Refuses rest p read.Lines = ReadsAs rest p (Err schedule.Lines)
Refuses rest p read.Failed = Unit {0}
Refuses rest p read.Memory = Unit {0}
