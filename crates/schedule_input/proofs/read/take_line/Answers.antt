use Rattle.std.proofs.Common.{◌≡◌, ℕ, List, [], ◌∷◌, ◌++◌, length-append, refl, subst, Ok, Err, arith}
use Rattle.std.proofs.lemmas.Result.{err_from_is_err_and}
use Rattle.schedule_text.specs.Reading.{next_line, TakesLine}
use Rattle.schedule_input.proofs.Parts.{line_taken, line_counts, refuses_line, rest_read}
use Rattle.schedule_input.proofs.LineCutting.{kept_takes}
use Rattle.schedule_input.proofs.Cutting.{cut_off, next_failed, taken_next, taken_to}
use Rattle.schedule_input.proofs.Reached.{reached_next}
use Rattle.schedule_input.proofs.read.take_line.Goals as goal

pub returns-in_err-line-in-Line-clause-bad : goal.returns-in_err-line-in-Line-clause-bad
returns-in_err-line-in-Line-clause-bad g c =
    let exit = err_from_is_err_and c.from_residual-in_err-line-in-Line.result c.from_residual-in_err-line-in-Line.ensures.1 in
    let next = rw c.in-Line.is at c.in_ok-line.ensures.next in
    rw (exit.1, exit.2) (refuses_line _ _ c.args.reading.now c.line.new.self c.in-Line.line.items c.in_err-line-in-Line.field-0.0 next.0.no_feed next.1 (let P : List ℕ → Type 0 = λ v. TakesLine c.args.reading.now v c.line.new.self (Err c.in_err-line-in-Line.field-0.0) in subst P c.deref.ensures.value c.in_err-line-in-Line.ensures))

pub returns-in_ok-line-in-Line-clause-line : goal.returns-in_ok-line-in-Line-clause-line
returns-in_ok-line-in-Line-clause-line g c =
    let next = rw c.in-Line.is at c.in_ok-line.ensures.next in
    let P : List ℕ → Type 0 = λ v. next_line c.args.reading.now v ≡ Ok c.line.new.self in
    let taken = subst P c.deref.ensures.value c.in_ok-line-in-Line.ensures in
    (line_taken _ _ c.args.reading.now c.line.new.self c.in-Line.line.items next.0.no_feed next.1 taken, line_counts c.args.reading.now c.line.new.self c.in-Line.line.items taken)

pub returns-in-Rest-clause-rest : goal.returns-in-Rest-clause-rest
returns-in-Rest-clause-rest g c =
    let next = rw c.in-Rest.is at c.in_ok-line.ensures.next in
    (rest_read _ _ c.args.reading.now c.in-Rest.rest.items next.0.no_feed next.1 next.2, next.2, refl)

pub returns-in_ok-line-in-Line-clause-reached : goal.returns-in_ok-line-in-Line-clause-reached
returns-in_ok-line-in-Line-clause-reached g c =
    let next = rw c.in-Line.is at c.in_ok-line.ensures.next in
    let P : List ℕ → Type 0 = λ v. next_line c.args.reading.now v ≡ Ok c.line.new.self in
    λ reached. reached_next c.args.reading.now c.line.new.self c.in-Line.line.items next.0.no_feed (subst P c.deref.ensures.value c.in_ok-line-in-Line.ensures) reached

pub returns-in_ok-line-in-Line-clause-held : goal.returns-in_ok-line-in-Line-clause-held
returns-in_ok-line-in-Line-clause-held g c =
    let next = rw c.in-Line.is at c.in_ok-line.ensures.next in
    let few = rw c.in-Line.is at c.in_ok-line.ensures.few in
    let P : List ℕ → Type 0 = λ v. next_line c.args.reading.now v ≡ Ok c.line.new.self in
    λ source h. taken_next source _ _ _ _ c.args.reading.now c.line.new.self c.in-Line.line.items next.0.no_feed (subst P c.deref.ensures.value c.in_ok-line-in-Line.ensures) next.1 few h

pub returns-in_ok-line-in-Line-clause-taken : goal.returns-in_ok-line-in-Line-clause-taken
returns-in_ok-line-in-Line-clause-taken g c =
    let next = rw c.in-Line.is at c.in_ok-line.ensures.next in
    let few = rw c.in-Line.is at c.in_ok-line.ensures.few in
    let size = length-append c.in-Line.line.items (10 ∷ []) in
    λ source h line. taken_to source _ _ _ (c.in-Line.line.items ++ 10 ∷ []) _ c.args.reading.now _ size next.1 few line h

pub returns-in_err-line-in-Line-clause-taken : goal.returns-in_err-line-in-Line-clause-taken
returns-in_err-line-in-Line-clause-taken g c =
    let next = rw c.in-Line.is at c.in_ok-line.ensures.next in
    let few = rw c.in-Line.is at c.in_ok-line.ensures.few in
    let size = length-append c.in-Line.line.items (10 ∷ []) in
    λ source h line. taken_to source _ _ _ (c.in-Line.line.items ++ 10 ∷ []) _ c.args.reading.now _ size next.1 few line h

pub returns-in-Rest-clause-taken : goal.returns-in-Rest-clause-taken
returns-in-Rest-clause-taken g c =
    let next = rw c.in-Rest.is at c.in_ok-line.ensures.next in
    let few = rw c.in-Rest.is at c.in_ok-line.ensures.few in
    λ source h line. taken_to source _ _ _ c.in-Rest.rest.items _ c.args.reading.now _ refl next.1 few line h

pub returns-in-TooLong-clause-taken : goal.returns-in-TooLong-clause-taken
returns-in-TooLong-clause-taken g c =
    let next = rw c.in-TooLong.is at c.in_ok-line.ensures.next in
    let few = rw c.in-TooLong.is at c.in_ok-line.ensures.few in
    λ source h line. taken_to source _ _ _ [] _ c.args.reading.now _ refl (kept_takes _ _ next.1) few line h

pub returns-in_err-line-clause-taken : goal.returns-in_err-line-clause-taken
returns-in_err-line-clause-taken g c = λ source h line. taken_to source _ _ _ [] _ c.args.reading.now _ refl (kept_takes _ _ c.in_err-line.ensures.kept) c.in_err-line.ensures.few line h

pub returns-in_err-line-clause-cut : goal.returns-in_err-line-clause-cut
returns-in_err-line-clause-cut g c =
    let exit = err_from_is_err_and c.from_residual.result c.from_residual.ensures.1 in
    rw (exit.1, exit.2) (λ is source h few. cut_off source _ _ _ _ c.args.reading.now h c.in_err-line.ensures.kept (c.in_err-line.ensures.undecided (next_failed c.in_err-line.field-0.0 is)) (omega (arith, few)) (λ e. absurd (omega (arith, e, few))))
