-- The words of a line behind the line `answers`, taken apart.
use Rattle.std.proofs.Common.{◌≡◌, ◌-◌, ◌≤◌, false, List, [], ◌∷◌, length, get_or, take, drop, Result, subst, arith, take_all}
use Rattle.schedule_text.specs.Arguments.{has_empty}
use Rattle.schedule_text.specs.Texts.{Word, texts}
use Rattle.history_record.specs.Flaws.{Finds}
use Rattle.history_record.specs.Lines.{history_from, history_of}
use Rattle.history_record.specs.declared.flaw.LineError.{LineError}
use Rattle.history_record.specs.declared.lines.RecordLine.{RecordLine}

-- ## An answer

-- ## A history

pub history_known : (words : List Word) (d : Word) (r : Result RecordLine LineError) → 1 ≤ length words → has_empty (texts words) ≡ false
    → Finds (history_from (get_or words 0 d).now (texts (take (length words - 1) (drop 1 words)))) r → Finds (history_of (texts words)) r
history_known [] d r long full h = absurd (omega arith)
history_known (a ∷ more) d r long full h =
    let whole : take (length (a ∷ more) - 1) more ≡ more = take_all _ more (omega arith) in
    rw full (subst (λ (o : List Word). Finds (history_from a.now (texts o)) r) whole h)
