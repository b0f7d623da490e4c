-- A call's words, taken apart.
use Rattle.std.proofs.Common.{◌≡◌, ℕ, ◌-◌, ◌<◌, ◌≤◌, ◌==◌, false, not, List, [], ◌∷◌, length, get_or, take, drop, Result, Err, refl, sym, subst, ap, ◌∙◌, arith, take_all}
use Rattle.std.proofs.lemmas.Bool.Decides.{nat_tests}
use Rattle.std.proofs.lemmas.List.{length-map}
use Rattle.lexemes.specs.Causes.{Gives}
use Rattle.lexemes.specs.declared.cause.WordError.{WordError}
use Rattle.lexemes.specs.declared.cause.Cause.TheVariants.{Words}
use Rattle.schedule_text.specs.Arguments.{has_empty}
use Rattle.schedule_text.specs.Events.{call_from, call_named}
use Rattle.schedule_text.specs.Keywords.{operand_count}
use Rattle.schedule_text.specs.Texts.{Word, texts}
use Rattle.schedule_text.specs.declared.event.ScheduleEvent.{ScheduleEvent}
use Rattle.schedule_text.specs.declared.keyword.CommandName.{CommandName}

-- fewer than four words are no call
pub call_named_short : (peers : ℕ) (name : CommandName) (words : List Word) → length words < 4 → call_named peers name (texts words) ≡ Err Words
call_named_short peers name [] h = refl
call_named_short peers name (a ∷ []) h = refl
call_named_short peers name (a ∷ b ∷ []) h = refl
call_named_short peers name (a ∷ b ∷ c ∷ []) h = refl
call_named_short peers name (a ∷ b ∷ c ∷ d ∷ more) h = absurd (omega arith)

counted : (n m : ℕ) → n ≡ m → not (n == m) ≡ false
counted n m h = grind (arith, nat_tests)

-- four words or more, none empty and so many as the command takes, are read as a call
pub call_named_long : (peers : ℕ) (name : CommandName) (words : List Word) (d e f : Word) (r : Result ScheduleEvent WordError)
    → 4 ≤ length words → has_empty (texts words) ≡ false
    → length (take (length words - 4) (drop 4 words)) ≡ operand_count name
    → Gives (call_from peers (get_or words 0 d).now (get_or words 1 e).now name (get_or words 3 f).now (texts (take (length words - 4) (drop 4 words)))) r
    → Gives (call_named peers name (texts words)) r
call_named_long peers name [] d e f r long full count h = absurd (omega arith)
call_named_long peers name (a ∷ []) d e f r long full count h = absurd (omega arith)
call_named_long peers name (a ∷ b ∷ []) d e f r long full count h = absurd (omega arith)
call_named_long peers name (a ∷ b ∷ c ∷ []) d e f r long full count h = absurd (omega arith)
call_named_long peers name (a ∷ b ∷ c ∷ k ∷ more) d e f r long full count h =
    let whole : take (length (a ∷ b ∷ c ∷ k ∷ more) - 4) more ≡ more = take_all _ more (omega arith) in
    let number : length (texts more) ≡ operand_count name = length-map more (λ word. word.now) ∙ sym (ap length whole) ∙ count in
    rw (full, counted (length (texts more)) (operand_count name) number)
    (subst (λ (o : List Word). Gives (call_from peers a.now b.now name k.now (texts o)) r) whole h)
