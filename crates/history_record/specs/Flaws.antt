-- What is wrong with a line behind the line `answers`.
use Rattle.std.specs.Prelude.{◌≡◌, ℕ, Result, Ok, Err}
use Rattle.lexemes.specs.declared.cause.Cause.{Cause}
use Rattle.lexemes.specs.declared.cause.WordError.{WordError}
use Rattle.lexemes.specs.declared.cause.WordError.TheVariants as words
use Rattle.history_record.specs.declared.flaw.Flaw.{Flaw}
use Rattle.history_record.specs.declared.flaw.Flaw.TheVariants.{Cut, Keyword, Words, Form, Subject, Time, Key}
use Rattle.history_record.specs.declared.flaw.LineError.{LineError}
use Rattle.history_record.specs.declared.flaw.LineError.TheVariants.{Flawed, Memory}

-- the number by which a flaw is printed
abbrev pub flaw_number : Flaw → ℕ
flaw_number Cut = 10
flaw_number Keyword = 11
flaw_number Words = 12
flaw_number Form = 13
flaw_number Subject = 14
flaw_number Time = 15
flaw_number Key = 16

-- a word that is refused for any cause is not of its form
abbrev pub form : {A : Type 0} → Result A Cause → Result A Flaw
form (Ok x) = Ok x
form (Err cause) = Err Form

abbrev pub form_error : WordError → LineError
form_error (words.Bad cause) = Flawed Form
form_error words.Memory = Memory

-- a refusal has the flaw of the reading, or is out of memory
abbrev pub Rejects : {A : Type 0} → Result A Flaw → LineError → Type 0
Rejects read (Flawed flaw) = read ≡ Err flaw
Rejects read Memory = Unit {0}

-- the answer is what reading gives, unless memory ran out
abbrev pub Finds : {A : Type 0} → Result A Flaw → Result A LineError → Type 0
Finds read (Ok x) = read ≡ Ok x
Finds read (Err e) = Rejects read e
