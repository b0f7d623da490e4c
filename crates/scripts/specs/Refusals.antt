-- What an error says of one line.
use Rattle.std.specs.Prelude.{ℕ, ◌≤◌}
use Rattle.schedule_text.specs.declared.error.ScheduleError.{ScheduleError}
use Rattle.schedule_text.specs.declared.error.ScheduleError.TheVariants.{Bad, Lines, Memory}

-- the number of the line, where one is named
abbrev pub line_in : ScheduleError → ℕ
line_in (Bad line cause) = line
line_in _ = 0

-- a line is bad for one of the causes, or memory ran out
abbrev pub HasCause : ScheduleError → Type 0
HasCause (Bad line cause) = (1 ≤ cause) × (cause ≤ 9)
HasCause Lines = ⊥
HasCause Memory = Unit {0}
