-- Why a script is refused, by the errors of its lines.
use Rattle.std.proofs.Common.{◌≡◌, ◌∙◌, ◌==◌, ◌+◌, ◌<◌, ℕ, Bool, true, false, List, [], ◌∷◌, ◌++◌, length, length-append, Option, Result, Ok, Err, refl, sym, ap}
use Rattle.std.specs.Prelude.{if◌then◌else◌}
use Rattle.std.specs.Io.KnownBytes.{Consumes}
use Rattle.ens_base.specs.Results.{◌>>=◌}
use Rattle.environment.specs.Lines.{BeginsLong, HasNoFeed}
use Rattle.environment.specs.declared.lines.NextError.{NextError}
use Rattle.environment.specs.declared.lines.NextError.TheVariants as next
use Rattle.schedule_input.specs.LineReading.{ReadsOn}
use Rattle.schedule_input.proofs.LineParts.{line_refused, long_refused, reads_as}
use Rattle.lexemes.specs.declared.cause.Cause.{Cause}
use Rattle.lexemes.specs.declared.cause.Cause.TheVariants.{Repeated, Unfinished}
use Rattle.schedule_text.specs.Errors.{at_line}
use Rattle.schedule_text.specs.Reading.{bounded, most_lines}
use Rattle.schedule_text.specs.declared.error.ScheduleError.{ScheduleError}
use Rattle.schedule_text.specs.declared.error.ScheduleError.TheVariants.{Bad, Lines, Memory}
use Rattle.schedule_text.proofs.SchedulesRead.{at_line_ok, past_lines, last_is_tested, from_bind}
use Rattle.scripts.specs.ClusterReading.{Refuses, TakesLine, of_next, of_schedule}
use Rattle.scripts.specs.Scripts.{ended, is_repeated, line_of, next_line, with_line}
use Rattle.scripts.specs.declared.line.ScriptLine.{ScriptLine}
use Rattle.scripts.specs.declared.cluster_read.ReadError.{ReadError}
use Rattle.scripts.specs.declared.cluster_read.ReadError.TheVariants as read

pub from_test : {A : Type 0} (b : Bool) (r : Result A ScheduleError) (q : A) → (if b then Err Lines else r) ≡ Ok q → r ≡ Ok q
from_test true r q h = absurd cc
from_test false r q h = h

module _ (peers : ℕ) where
  pub refuses_line : (a b : Option (List ℕ)) (old new : List ScriptLine) (v : List ℕ) (e : ScheduleError) → HasNoFeed v → Consumes a b (v ++ 10 ∷ []) → TakesLine peers old v new (Err e) → Refuses peers a old (of_schedule e)
  refuses_line a b old new v (Bad line cause) clear took bad = line_refused (next_line peers) ended a b old v (Bad line cause) clear took bad.0
  refuses_line a b old new v Lines clear took bad = line_refused (next_line peers) ended a b old v Lines clear took bad.0
  refuses_line a b old new v Memory clear took bad = tt

  pub refuses_long : (a : Option (List ℕ)) (lines : List ScriptLine) (e : ScheduleError) → BeginsLong a → ((w : List ℕ) → 4400 < length w → (next_line peers lines w ≡ Err e) × (ended lines w ≡ Err e)) → Refuses peers a lines (of_schedule e)
  refuses_long a lines (Bad line cause) begins bad = long_refused (next_line peers) ended a lines (Bad line cause) begins bad
  refuses_long a lines Lines begins bad = long_refused (next_line peers) ended a lines Lines begins bad
  refuses_long a lines Memory begins bad = tt

  pub refuses_later : (a b : Option (List ℕ)) (s t : List ScriptLine) (e : ReadError) → ReadsOn (next_line peers) ended a s b t → Refuses peers b t e → Refuses peers a s e
  refuses_later a b s t (read.Bad line cause) on bad = reads_as (next_line peers) ended a b s t (Err (Bad line cause)) on bad
  refuses_later a b s t read.Lines on bad = reads_as (next_line peers) ended a b s t (Err Lines) on bad
  refuses_later a b s t read.Failed on bad = tt
  refuses_later a b s t read.Memory on bad = tt

  -- a line that is taken adds one to the count
  pub line_counts : (old new : List ScriptLine) (text : List ℕ) → next_line peers old text ≡ Ok new → length new ≡ length old + 1
  line_counts old new text ok =
      from_bind (line_of peers text) (with_line old) new (at_line_ok (length old + 1) (line_of peers text >>= with_line old) new (from_test (length old == most_lines) (at_line (length old + 1) (line_of peers text >>= with_line old)) new ok)) (λ line e. added line (is_repeated old line) e)
    where
      added : (line : ScriptLine) (b : Bool) → (let r : Result (List ScriptLine) Cause = if b then Err Repeated else Ok (old ++ line ∷ []) in r ≡ Ok new) → length new ≡ length old + 1
      added line true e = absurd cc
      added line false e = let is : old ++ line ∷ [] ≡ new = cc in sym (ap (λ (l : List ScriptLine). length l) is) ∙ length-append old (line ∷ [])

pub last_line : (peers : ℕ) (lines : List ScriptLine) → length lines ≡ 200000 → (text : List ℕ) → next_line peers lines text ≡ Err Lines
last_line peers lines last text = past_lines (length lines == most_lines) (at_line (length lines + 1) (line_of peers text >>= with_line lines)) (last_is_tested (length lines) last)

pub last_rest : (lines : List ScriptLine) → length lines ≡ 200000 → (byte : ℕ) (rest : List ℕ) → ended lines (byte ∷ rest) ≡ Err Lines
last_rest lines last byte rest = past_lines (length lines == most_lines) (at_line (length lines + 1) (bounded (byte ∷ rest) (Err Unfinished))) (last_is_tested (length lines) last)

-- an error of the source is passed on as one
pub next_failed : {T U : Type 0} (e : NextError) → ◌≡◌ {A = Result T ReadError} (Err (of_next e)) (Err read.Failed) → ◌≡◌ {A = Result U NextError} (Err e) (Err next.Failed)
next_failed next.Failed is = refl
next_failed next.Memory is = absurd (cc is)
