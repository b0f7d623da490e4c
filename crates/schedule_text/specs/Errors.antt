-- What is wrong with a line, and what a call answers that may want memory.
use Rattle.std.specs.Prelude.{◌≡◌, ℕ, Result, Ok, Err}
use Rattle.lexemes.specs.Causes.{cause_number}
use Rattle.lexemes.specs.declared.cause.Cause.{Cause}
use Rattle.lexemes.specs.declared.cause.WordError.{WordError}
use Rattle.lexemes.specs.declared.cause.WordError.TheVariants as words
use Rattle.schedule_text.specs.declared.error.ScheduleError.{ScheduleError}
use Rattle.schedule_text.specs.declared.error.ScheduleError.TheVariants.{Bad, Lines, Memory}

-- what is wrong with the line of this number
abbrev pub error_at : ℕ → WordError → ScheduleError
error_at line (words.Bad cause) = Bad line (cause_number cause)
error_at line words.Memory = Memory

-- what reading gives, at the line of this number
abbrev pub at_line : {A : Type 0} → ℕ → Result A Cause → Result A ScheduleError
at_line line (Ok x) = Ok x
at_line line (Err cause) = Err (Bad line (cause_number cause))

-- reading stops at this error, or memory ran out
abbrev pub Stops : {A : Type 0} → Result A ScheduleError → ScheduleError → Type 0
Stops read (Bad line cause) = read ≡ Err (Bad line cause)
Stops read Lines = read ≡ Err Lines
Stops read Memory = Unit {0}

-- the answer is what reading gives, unless memory ran out
abbrev pub Answers : {A : Type 0} → Result A ScheduleError → Result A ScheduleError → Type 0
Answers read (Ok x) = read ≡ Ok x
Answers read (Err e) = Stops read e
