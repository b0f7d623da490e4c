-- The words of an opening, taken apart.
use Rattle.std.proofs.Common.{◌≡◌, ℕ, ◌-◌, ◌<◌, ◌≤◌, ◌==◌, false, List, [], ◌∷◌, length, get_or, take, drop, Result, Err, refl, sym, subst, ap, ◌∙◌, arith, take_all}
use Rattle.std.proofs.lemmas.List.{length-map}
use Rattle.lexemes.specs.Causes.{Gives}
use Rattle.lexemes.specs.declared.cause.Cause.TheVariants.{Words}
use Rattle.lexemes.specs.declared.cause.WordError.{WordError}
use Rattle.schedule_text.specs.Arguments.{has_empty}
use Rattle.schedule_text.specs.Texts.{Word, texts}
use Rattle.scripts.specs.Events.{open_from, open_of}
use Rattle.scripts.specs.declared.event.RootEvent.{RootEvent}

-- fewer than three words open nothing
pub open_short : (peers : ℕ) (words : List Word) → length words < 3 → open_of peers (texts words) ≡ Err Words
open_short peers [] h = refl
open_short peers (a ∷ []) h = refl
open_short peers (a ∷ b ∷ []) h = refl
open_short peers (a ∷ b ∷ c ∷ more) h = absurd (omega arith)

-- three words and a member, none empty, are read as an opening
pub open_long : (peers : ℕ) (words : List Word) (d e f : Word) (r : Result RootEvent WordError)
    → 3 ≤ length words → has_empty (texts words) ≡ false
    → (length (take (length words - 3) (drop 3 words)) == 0) ≡ false
    → Gives (open_from peers (get_or words 0 d).now (get_or words 1 e).now (get_or words 2 f).now (texts (take (length words - 3) (drop 3 words)))) r
    → Gives (open_of peers (texts words)) r
open_long peers [] d e f r long full some h = absurd (omega arith)
open_long peers (a ∷ []) d e f r long full some h = absurd (omega arith)
open_long peers (a ∷ b ∷ []) d e f r long full some h = absurd (omega arith)
open_long peers (a ∷ b ∷ c ∷ more) d e f r long full some h =
    let whole : take (length (a ∷ b ∷ c ∷ more) - 3) more ≡ more = take_all _ more (omega arith) in
    let members : (length (texts more) == 0) ≡ false = ap (λ (n : ℕ). n == 0) (length-map more (λ word. word.now) ∙ sym (ap (λ (o : List Word). length o) whole)) ∙ some in
    rw (full, members)
    (subst (λ (o : List Word). Gives (open_from peers a.now b.now c.now (texts o)) r) whole h)
