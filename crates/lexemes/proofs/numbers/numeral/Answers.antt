use Rattle.std.proofs.Common.{◌≡◌, ◌≢◌, true, ◌<◌, length, get_or, sym, ◌∙◌, arith}
use Rattle.std.proofs.lemmas.Option.{get_or_from_slice_get, slice_get_within}
use Rattle.std.proofs.lemmas.Bool.Decides.{nat_tests}
use Rattle.lexemes.proofs.Numerals.{is_unpadded, number_within_no_text, number_within-parsed}
use Rattle.lexemes.proofs.numbers.numeral.Goals as goal
use Rattle.lexemes.proofs.numbers.numeral.Goals.{else-word-gt1-via-then-word-gt1+else-first-eq48, else-word-gt1-via-else-word-gt1}

pub returns-in-Ok : goal.returns-in-Ok
returns-in-Ok c =
    let first : get_or c.args.word.now 0 0 ≡ c.in_ok-first.field-0.now = get_or_from_slice_get c.args.word.now 0 _ 0 (sym c.in_ok-first.ensures.value) in
    let plus : get_or c.args.word.now 0 0 ≢ 43 = omega arith in
    let some : 0 < length c.args.word.now = slice_get_within c.args.word.now 0 _ (sym c.in_ok-first.ensures.value) in
    let unpadded : is_unpadded c.args.word.now ≡ true = elim c.else-word-gt1.branch [
      | else-word-gt1-via-then-word-gt1+else-first-eq48 w ↦ grind (arith, nat_tests, first)
      | else-word-gt1-via-else-word-gt1 w ↦ grind (arith, nat_tests, some)
    ] in
    c.ok.ensures.value ∙ number_within-parsed c.args.word.now c.parse.result (rw c.in-Ok.ensures.cases.0 at c.parse.ensures.value.0) plus unpadded

pub returns-in-Err : goal.returns-in-Err
returns-in-Err c = sym (number_within_no_text _ _ c.args.word.now c.in-Err.ensures.cases.0)
