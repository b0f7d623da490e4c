use Rattle.std.proofs.Common.{◌≡◌, ℕ, ◌+◌, ◌-◌, List, ◌∷◌, length, take, drop, sym, ap, ◌∙◌, arith, take_all, length-drop}
use Rattle.lexemes.specs.Words.{parts_of}
use Rattle.schedule_text.proofs.Parts.{parts_of-feed, parts_of-no_feed}
use Rattle.schedule_text.proofs.read_text.split_line.Goals as goal

pub returns-in-Some-clause-parts : goal.returns-in-Some-clause-parts
returns-in-Some-clause-parts c =
    let text = c.args.text.now in
    let at = c.in-Some.at in
    let feed = parts_of-feed c.args.text.now c.in-Some.at (sym c.in-Some.ensures) in
    let whole : take (length text - (at + 1)) (drop (at + 1) text) ≡ drop (at + 1) text = take_all _ _ (omega (arith, length-drop {A = ℕ})) in
    feed.1 ∙ sym (ap (λ (rest : List ℕ). take at text ∷ parts_of 10 rest) whole)

pub returns-in-None-clause-parts : goal.returns-in-None-clause-parts
returns-in-None-clause-parts c = parts_of-no_feed c.args.text.now (sym c.in-None.ensures)
