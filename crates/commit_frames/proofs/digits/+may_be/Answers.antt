use Rattle.std.proofs.Common.{◌≡◌, ◌⊎◌, inl, inr, ⊎_elim, ◌+◌, ◌%◌, ◌∙◌, sym, refl, arith, get_or}
use Rattle.std.proofs.lemmas.Bool.{eqb-true, eqb-false, eq-eqb, both_ways}
use Rattle.commit_frames.proofs.Leftovers.{lost_nil, may_be_more, may_be_first}
use Rattle.commit_frames.proofs.digits.+may_be.Goals as goal
use Rattle.commit_frames.proofs.digits.+may_be.Goals.{then-byte-eq0, else-byte-eq0}

pub returns-in_default : goal.returns-in_default
returns-in_default t c = (λ _. lost_nil c.args.number c.args.bytes.now (omega (arith, c.in_default.len_below)), λ _. refl)

pub returns-then-byte-digit : goal.returns-then-byte-digit
returns-then-byte-digit t c =
    let first : (get_or c.args.bytes.now 0 0 ≡ 0) ⊎ (get_or c.args.bytes.now 0 0 ≡ 128 + c.args.number % 128) =
    elim c.if-byte-eq0.branch [
      | then-byte-eq0 w ↦ inl w.if-byte-eq0.true
      | else-byte-eq0 w ↦ inr (eqb-true (get_or c.args.bytes.now 0 0) (128 + c.args.number % 128) (sym w.value-is ∙ c.if-byte-digit.true))
    ] in
    may_be_more c.args.bytes.now c.args.number c.may_be.result c.in-len1-up.len_at_least first c.may_be.ensures

pub returns-else-byte-digit : goal.returns-else-byte-digit
returns-else-byte-digit t c =
    elim c.if-byte-eq0.branch [
      | then-byte-eq0 w ↦ absurd (both_ways c.if-byte-eq0.value c.if-byte-digit.false (w.value-is ∙ eq-eqb (get_or c.args.bytes.now 0 0) 0 w.if-byte-eq0.true))
      | else-byte-eq0 w ↦ (
        λ yes. absurd (both_ways c.if-byte-eq0.value c.if-byte-digit.false yes),
        λ lost. absurd (⊎_elim (λ (e : get_or c.args.bytes.now 0 0 ≡ 0). w.if-byte-eq0.false e)
            (λ (e : get_or c.args.bytes.now 0 0 ≡ 128 + c.args.number % 128). eqb-false (get_or c.args.bytes.now 0 0) (128 + c.args.number % 128) (sym w.value-is ∙ c.if-byte-digit.false) e)
            (may_be_first c.args.bytes.now c.args.number c.in-len1-up.len_at_least lost)),
      )
    ]
