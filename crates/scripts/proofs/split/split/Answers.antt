use Rattle.std.proofs.Common.{◌≡◌, ℕ, ◌+◌, ◌-◌, List, ◌∷◌, length, take, drop, sym, ap, ◌∙◌, arith, take_all, length-drop}
use Rattle.lexemes.specs.Words.{parts_of}
use Rattle.scripts.proofs.Splits.{parts_of-at, parts_of-none}
use Rattle.scripts.proofs.split.split.Goals as goal

pub returns-in-Some-clause-parts : goal.returns-in-Some-clause-parts
returns-in-Some-clause-parts c =
    let text = c.args.text.now in
    let k = c.in-Some.k in
    let first = parts_of-at c.args.at c.args.text.now c.in-Some.k (sym c.in-Some.ensures) in
    let whole : take (length text - (k + 1)) (drop (k + 1) text) ≡ drop (k + 1) text = take_all _ _ (omega (arith, length-drop {A = ℕ})) in
    first.1 ∙ sym (ap (λ (rest : List ℕ). take k text ∷ parts_of c.args.at rest) whole)

pub returns-in-None-clause-parts : goal.returns-in-None-clause-parts
returns-in-None-clause-parts c = parts_of-none c.args.at c.args.text.now (sym c.in-None.ensures)
