-- The causes for which words are refused, and what a reader of them answers.
use Rattle.std.specs.Prelude.{◌≡◌, ℕ, Result, Ok, Err, Option, Some, None}
use Rattle.ens_base.specs.declared.copy_error.LengthError.{LengthError}
use Rattle.ens_base.specs.declared.copy_error.LengthError.TheVariants.{Length, Memory as NoMemory}
use Rattle.lexemes.specs.declared.cause.Cause.{Cause}
use Rattle.lexemes.specs.declared.cause.Cause.TheVariants.{TooLong, Unfinished, Heading, Unknown, Words, Number, Bytes, Peers, Repeated}
use Rattle.lexemes.specs.declared.cause.WordError.{WordError}
use Rattle.lexemes.specs.declared.cause.WordError.TheVariants.{Bad, Memory}

-- the number by which a cause is printed
abbrev pub cause_number : Cause → ℕ
cause_number TooLong = 1
cause_number Unfinished = 2
cause_number Heading = 3
cause_number Unknown = 4
cause_number Words = 5
cause_number Number = 6
cause_number Bytes = 7
cause_number Peers = 8
cause_number Repeated = 9

-- the value, or this cause where there is none
abbrev pub or_cause : {A : Type 0} → Cause → Option A → Result A Cause
or_cause cause (Some x) = Ok x
or_cause cause None = Err cause

-- a refusal has the cause of the reading, or is out of memory
abbrev pub Refuses : {A : Type 0} → Result A Cause → WordError → Type 0
Refuses read (Bad cause) = read ≡ Err cause
Refuses read Memory = Unit {0}

-- the answer is what reading gives, unless memory ran out
abbrev pub Gives : {A : Type 0} → Result A Cause → Result A WordError → Type 0
Gives read (Ok x) = read ≡ Ok x
Gives read (Err e) = Refuses read e

-- a length out of range is the cause of wrong bytes
abbrev pub length_cause : LengthError → WordError
length_cause (Length n) = Bad Bytes
length_cause NoMemory = Memory
