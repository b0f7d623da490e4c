-- A text is read by its first line and what follows the line feed.
use Rattle.std.proofs.Common.{◌≡◌, ℕ, List, ◌∷◌, Result, Ok, Err, sym, ap, ◌∙◌}
use Rattle.schedule_input.specs.LineReading.{and_then, read_parts, read_text}
use Rattle.lexemes.specs.Words.{parts_of}
use Rattle.schedule_text.specs.Errors.{Stops}
use Rattle.schedule_text.specs.declared.error.ScheduleError.{ScheduleError}
use Rattle.schedule_text.specs.declared.error.ScheduleError.TheVariants.{Bad, Lines, Memory}
use Rattle.schedule_text.proofs.Parts.{parts_of_some}
use Rattle.scripts.specs.Progress.{RootProgress}
use Rattle.scripts.specs.RootReading.{ended, next_line, TakesLine}
use Rattle.scripts.specs.declared.script.RootScript.{RootScript}

-- a line, and the parts behind its line feed
with_rest : (p : RootProgress) (text rest : List ℕ)
    → read_parts next_line ended p (text ∷ parts_of 10 rest) ≡ and_then next_line ended (next_line p text) (λ q. read_text next_line ended q rest)
with_rest p text rest =
    let some = parts_of_some 10 rest in
    ap (λ (ps : List (List ℕ)). read_parts next_line ended p (text ∷ ps)) some.2 ∙ sym (ap (λ (ps : List (List ℕ)). and_then next_line ended (next_line p text) (λ q. read_parts next_line ended q ps)) some.2)

-- a line that was taken
pub text-taken : (p q : RootProgress) (text line more : List ℕ) (whole : Result RootScript ScheduleError)
    → read_text next_line ended p text ≡ whole → parts_of 10 text ≡ line ∷ parts_of 10 more → next_line p line ≡ Ok q → read_text next_line ended q more ≡ whole
text-taken p q text line more whole h parts took =
    sym (ap (λ (ps : List (List ℕ)). read_parts next_line ended p ps) parts ∙ with_rest p line more ∙ ap (λ (r : Result RootProgress ScheduleError). and_then next_line ended r (λ n. read_text next_line ended n more)) took) ∙ h

-- a line that was refused
pub text-refused : (p q : RootProgress) (text line more : List ℕ) (whole : Result RootScript ScheduleError) (e : ScheduleError)
    → read_text next_line ended p text ≡ whole → parts_of 10 text ≡ line ∷ parts_of 10 more → TakesLine p line q (Err e) → Stops whole e
text-refused p q text line more whole e h parts refused = by e refused
  where
    stop : (e : ScheduleError) → next_line p line ≡ Err e → whole ≡ Err e
    stop e no_line = sym h ∙ ap (λ (ps : List (List ℕ)). read_parts next_line ended p ps) parts ∙ with_rest p line more ∙ ap (λ (r : Result RootProgress ScheduleError). and_then next_line ended r (λ n. read_text next_line ended n more)) no_line

    by : (e : ScheduleError) → TakesLine p line q (Err e) → Stops whole e
    by (Bad n cause) r = stop (Bad n cause) r.0
    by Lines r = stop Lines r.0
    by Memory r = tt
