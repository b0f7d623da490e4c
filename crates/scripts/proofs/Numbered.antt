-- Readers of lines that stop as the reading of a schedule does: at line 200,001, or at a bad line, with its number.
use Rattle.std.proofs.Common.{◌≡◌, ℕ, ◌+◌, ◌<◌, ◌==◌, Bool, true, false, List, [], ◌∷◌, length, Result, Ok, Err, refl, sym, ap, ◌∙◌, arith}
use Rattle.std.specs.Prelude.{nat_lt, if◌then◌else◌}
use Rattle.std.proofs.lemmas.Bool.Decides.{nat_tests}
use Rattle.lexemes.specs.declared.cause.Cause.{Cause}
use Rattle.lexemes.specs.declared.cause.Cause.TheVariants.{TooLong, Unfinished}
use Rattle.schedule_text.specs.Errors.{at_line}
use Rattle.schedule_text.specs.Events.{line_limit}
use Rattle.schedule_text.specs.Reading.{bounded, most_lines}
use Rattle.schedule_text.specs.declared.error.ScheduleError.{ScheduleError}
use Rattle.schedule_text.specs.declared.error.ScheduleError.TheVariants.{Bad, Lines}
use Rattle.schedule_text.proofs.EventsRead.{short_enough}
use Rattle.schedule_text.proofs.SchedulesRead.{at_line_ok}
use Rattle.schedule_input.proofs.Parts.{too_long}

-- what is read of the line behind so many
abbrev behind : {A : Type 0} → ℕ → Result A Cause → Result A ScheduleError
behind count read = if count == most_lines then Err Lines else at_line (count + 1) read

-- a reader numbers its lines, and bounds them
pub record IsNumbered {P S : Type 0} (count : P → ℕ) (with_line : P → List ℕ → Result P Cause) (next : P → List ℕ → Result P ScheduleError) (end : P → List ℕ → Result S ScheduleError) : Type 0 where
  pub line : (p : P) (t : List ℕ) → next p t ≡ behind (count p) (bounded t (with_line p t))
  pub rest : (p : P) (byte : ℕ) (more : List ℕ) → end p (byte ∷ more) ≡ behind (count p) (bounded (byte ∷ more) (Err Unfinished))

behind_long : {A : Type 0} (n : ℕ) (t : List ℕ) (r : Result A Cause) → 4400 < length t → behind n (bounded t r) ≡ behind n (Err TooLong)
behind_long {A} n t r long = ap (λ (x : Result A Cause). behind n x) (too_long t r long)

same_error : {A B : Type 0} (n : ℕ) (e : ScheduleError) (b : Bool) → (let r : Result A ScheduleError = if b then Err Lines else at_line (n + 1) (Err TooLong) in r ≡ Err e) → (let s : Result B ScheduleError = if b then Err Lines else at_line (n + 1) (Err TooLong) in s ≡ Err e)
same_error n e true h = let is : Lines ≡ e = cc in ap (λ (x : ScheduleError). Err x) is
same_error n e false h = let is : Bad (n + 1) 1 ≡ e = cc in ap (λ (x : ScheduleError). Err x) is

behind_last : {A : Type 0} (n : ℕ) (r : Result A Cause) → n ≡ 200000 → behind n r ≡ Err Lines
behind_last n r last = by_test (n == most_lines) (grind (arith, nat_tests, last))
  where
    by_test : (b : Bool) → b ≡ true → (if b then Err Lines else at_line (n + 1) r) ≡ Err Lines
    by_test true e = refl
    by_test false e = absurd cc

from_behind : {A : Type 0} (n : ℕ) (b : Bool) (r : Result A Cause) (x : A) → (if b then Err Lines else at_line (n + 1) r) ≡ Ok x → r ≡ Ok x
from_behind n true r x h = absurd cc
from_behind n false r x h = at_line_ok (n + 1) r x h

module _ {P S : Type 0} {count : P → ℕ} {with_line : P → List ℕ → Result P Cause} {next : P → List ℕ → Result P ScheduleError} {end : P → List ℕ → Result S ScheduleError} (numbered : IsNumbered count with_line next end) where
  -- a long line is rejected as another one, whatever its bytes are
  pub refused_long : (p : P) (t : List ℕ) (e : ScheduleError) → 4400 < length t → next p t ≡ Err e → (w : List ℕ) → 4400 < length w → (next p w ≡ Err e) × (end p w ≡ Err e)
  refused_long p t e long bad [] more = absurd (omega arith)
  refused_long p t e long bad (byte ∷ w) more =
      let is : behind (count p) (Err TooLong) ≡ Err e = sym (numbered.line p t ∙ behind_long (count p) t (with_line p t) long) ∙ bad in
      (numbered.line p (byte ∷ w) ∙ behind_long (count p) (byte ∷ w) (with_line p (byte ∷ w)) more ∙ is, numbered.rest p byte w ∙ behind_long (count p) (byte ∷ w) (Err Unfinished) more ∙ same_error (count p) e (count p == most_lines) is)

  -- line 200,001 begins
  pub last_line : (p : P) → count p ≡ 200000 → (t : List ℕ) → next p t ≡ Err Lines
  last_line p last t = numbered.line p t ∙ behind_last (count p) (bounded t (with_line p t)) last

  pub last_rest : (p : P) → count p ≡ 200000 → (byte : ℕ) (more : List ℕ) → end p (byte ∷ more) ≡ Err Lines
  last_rest p last byte more = numbered.rest p byte more ∙ behind_last (count p) (bounded (byte ∷ more) (Err Unfinished)) last

  -- a line that is taken
  pub line_taken : (p q : P) (t : List ℕ) → next p t ≡ Ok q → with_line p t ≡ Ok q
  line_taken p q t ok =
      short_enough (nat_lt line_limit (length t)) (with_line p t) q (from_behind (count p) (count p == most_lines) (bounded t (with_line p t)) q (sym (numbered.line p t) ∙ ok))

  -- a text ends well only after a line feed
  pub end_after_feed : (p : P) (rest : List ℕ) (s : S) → end p rest ≡ Ok s → end p [] ≡ Ok s
  end_after_feed p [] s ok = ok
  end_after_feed p (byte ∷ more) s ok =
      let none : Err Unfinished ≡ Ok s = short_enough (nat_lt line_limit (length (byte ∷ more))) (Err Unfinished) s (from_behind (count p) (count p == most_lines) (bounded (byte ∷ more) (Err Unfinished)) s (sym (numbered.rest p byte more) ∙ ok)) in
      absurd (cc none)
