-- What the error of a line says of the line alone.
use Rattle.std.proofs.Common.{◌≡◌, ◌≤◌, ℕ, ◌==◌, if◌then◌else◌, Option, Some, Result, Ok, Err, refl, sym, ap, ◌∙◌, arith, lit≤}
use Rattle.std.proofs.lemmas.Option.{same_Some}
use Rattle.lexemes.specs.Causes.{cause_number, Refuses}
use Rattle.lexemes.specs.declared.cause.Cause.{Cause}
use Rattle.lexemes.specs.declared.cause.Cause.TheVariants.{TooLong, Unfinished, Heading, Unknown, Words, Number, Bytes, Peers, Repeated}
use Rattle.lexemes.specs.declared.cause.WordError.{WordError}
use Rattle.lexemes.specs.declared.cause.WordError.TheVariants as words
use Rattle.schedule_text.specs.Errors.{Stops, at_line, error_at}
use Rattle.schedule_text.specs.declared.error.ScheduleError.{ScheduleError}
use Rattle.schedule_text.specs.declared.error.ScheduleError.TheVariants.{Bad, Lines, Memory}
use Rattle.scripts.specs.Refusals.{HasCause, line_in}

-- the cause with this number
cause_at : ℕ → Option Cause
cause_at n =
    if n == 1 then Some TooLong
    else if n == 2 then Some Unfinished
    else if n == 3 then Some Heading
    else if n == 4 then Some Unknown
    else if n == 5 then Some Words
    else if n == 6 then Some Number
    else if n == 7 then Some Bytes
    else if n == 8 then Some Peers
    else Some Repeated

cause_at-number : (cause : Cause) → cause_at (cause_number cause) ≡ Some cause
unfolding cause_at
cause_at-number TooLong = refl
cause_at-number Unfinished = refl
cause_at-number Heading = refl
cause_at-number Unknown = refl
cause_at-number Words = refl
cause_at-number Number = refl
cause_at-number Bytes = refl
cause_at-number Peers = refl
cause_at-number Repeated = refl

-- two causes have two numbers
pub one_cause : (a b : Cause) → cause_number a ≡ cause_number b → a ≡ b
one_cause a b h = same_Some a b (sym (cause_at-number a) ∙ ap cause_at h ∙ cause_at-number b)

numbered : (cause : Cause) → (1 ≤ cause_number cause) × (cause_number cause ≤ 9)
numbered TooLong = (lit≤ tt, lit≤ tt)
numbered Unfinished = (lit≤ tt, lit≤ tt)
numbered Heading = (lit≤ tt, lit≤ tt)
numbered Unknown = (lit≤ tt, lit≤ tt)
numbered Words = (lit≤ tt, lit≤ tt)
numbered Number = (lit≤ tt, lit≤ tt)
numbered Bytes = (lit≤ tt, lit≤ tt)
numbered Peers = (lit≤ tt, lit≤ tt)
numbered Repeated = (lit≤ tt, lit≤ tt)

-- the error of one line has a cause
pub has_cause : {A : Type 0} (n : ℕ) (read : Result A Cause) (e : ScheduleError) → Stops (at_line n read) e → HasCause e
has_cause n (Ok x) (Bad line cause) h = cc h
has_cause n (Err c) (Bad line cause) h =
    let same : cause_number c ≡ cause = cc h in
    let within = numbered c in
    (omega (arith, within.0), omega (arith, within.1))
has_cause n (Ok x) Lines h = cc h
has_cause n (Err c) Lines h = cc h
has_cause n read Memory h = tt

-- and without its line it says why the line was refused
pub refused_so : {A : Type 0} (n : ℕ) (read : Result A Cause) (e : ScheduleError) (w : WordError) → Stops (at_line n read) e → e ≡ error_at (line_in e) w → Refuses read w
refused_so {A = A} n read (Bad line number) (words.Bad cause) h k =
    let same : number ≡ cause_number cause = cc k in
    by read h same
  where
    by : (read : Result A Cause) → Stops (at_line n read) (Bad line number) → number ≡ cause_number cause → read ≡ Err cause
    by (Ok x) h same = cc h
    by (Err c) h same =
        let number_of_c : cause_number c ≡ number = cc h in
        ap Err (one_cause c cause (number_of_c ∙ same))
refused_so n read Lines (words.Bad cause) h k = cc k
refused_so n read Memory (words.Bad cause) h k = cc k
refused_so n read e words.Memory h k = tt
