-- What a line makes of the lines before it.
use Rattle.std.proofs.Common.{◌≡◌, ◌==◌, ◌+◌, ◌∙◌, ℕ, Bool, true, false, List, length, Result, Ok, Err, refl, ap}
use Rattle.std.specs.Prelude.{if◌then◌else◌}
use Rattle.ens_base.specs.Results.{◌>>=◌}
use Rattle.lexemes.specs.Causes.{cause_number}
use Rattle.lexemes.specs.declared.cause.Cause.{Cause}
use Rattle.schedule_text.specs.Errors.{Stops, at_line}
use Rattle.schedule_text.specs.Reading.{most_lines}
use Rattle.schedule_text.specs.declared.error.ScheduleError.{ScheduleError}
use Rattle.schedule_text.specs.declared.error.ScheduleError.TheVariants.{Bad, Lines, Memory}
use Rattle.schedule_text.specs.declared.event.ScheduleEvent.{ScheduleEvent}
use Rattle.scripts.specs.ClusterReading.{Adds, TakesLine}
use Rattle.scripts.specs.Scripts.{line_of, next_line, with_line}
use Rattle.scripts.specs.declared.line.ScriptLine.{ScriptLine}
use Rattle.scripts.specs.declared.line.ScriptLine.TheVariants.{Event}

-- an event as a line
pub event_taken : (place : ℕ) (r : Result ScheduleEvent Cause) (event : ScheduleEvent) → at_line place r ≡ Ok event → at_line place (r >>= λ e. Ok (Event e)) ≡ Ok (Event event)
event_taken place (Ok x) event is = let same : x ≡ event = cc in ap (λ (e : ScheduleEvent). Ok (Event e)) same
event_taken place (Err cause) event is = absurd cc

-- a refusal, whatever would have come of the line
pub refused_then : {A B : Type 0} (place : ℕ) (r : Result A Cause) (f : A → Result B Cause) (e : ScheduleError) → Stops (at_line place r) e → Stops (at_line place (r >>= f)) e
refused_then place (Ok x) f (Bad line cause) is = absurd cc
refused_then place (Ok x) f Lines is = absurd cc
refused_then place (Ok x) f Memory is = tt
refused_then place (Err c) f (Bad line cause) is = let same : Bad place (cause_number c) ≡ Bad line cause = cc in ap (λ (e : ScheduleError). Err e) same
refused_then place (Err c) f Lines is = absurd cc
refused_then place (Err c) f Memory is = tt

taken_then : {A B : Type 0} (place : ℕ) (r : Result A Cause) (f : A → Result B Cause) (x : A) → at_line place r ≡ Ok x → at_line place (r >>= f) ≡ at_line place (f x)
taken_then place (Ok y) f x is = let same : y ≡ x = cc in ap (λ z. at_line place (f z)) same
taken_then place (Err c) f x is = absurd cc

not_last : {A : Type 0} (b : Bool) (r : Result A ScheduleError) → b ≡ false → (if b then Err Lines else r) ≡ r
not_last true r is = absurd cc
not_last false r is = refl

module _ (peers : ℕ) (old : List ScriptLine) (text : List ℕ) (more : (length old == most_lines) ≡ false) where
  next_is : next_line peers old text ≡ at_line (length old + 1) (line_of peers text >>= with_line old)
  next_is = not_last (length old == most_lines) (at_line (length old + 1) (line_of peers text >>= with_line old)) more

  -- a line that is refused
  pub takes_refused : (new : List ScriptLine) (e : ScheduleError) → Stops (at_line (length old + 1) (line_of peers text)) e → new ≡ old → TakesLine peers old text new (Err e)
  takes_refused new (Bad line cause) bad same = (next_is ∙ refused_then (length old + 1) (line_of peers text) (with_line old) (Bad line cause) bad, same)
  takes_refused new Lines bad same = (next_is ∙ refused_then (length old + 1) (line_of peers text) (with_line old) Lines bad, same)
  takes_refused new Memory bad same = same

  -- a line that is read, and added or not
  pub takes_added : (new : List ScriptLine) (line : ScriptLine) (result : Result (Unit {0}) ScheduleError) → at_line (length old + 1) (line_of peers text) ≡ Ok line → Adds (length old + 1) old line new result → TakesLine peers old text new result
  takes_added new line (Ok _) is adds = next_is ∙ taken_then (length old + 1) (line_of peers text) (with_line old) line is ∙ ap (λ (r : Result (List ScriptLine) Cause). at_line (length old + 1) r) adds
  takes_added new line (Err (Bad place cause)) is adds = (next_is ∙ taken_then (length old + 1) (line_of peers text) (with_line old) line is ∙ adds.0, adds.1)
  takes_added new line (Err Lines) is adds = (next_is ∙ taken_then (length old + 1) (line_of peers text) (with_line old) line is ∙ adds.0, adds.1)
  takes_added new line (Err Memory) is adds = adds.1
