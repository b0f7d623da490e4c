-- A stack, whose last item is the first of the list that it stands for.
use Rattle.std.proofs.Common.{◌≡◌, ℕ, ◌+◌, List, [], ◌∷◌, ◌++◌, Option, None, Some, MatchOption, length, ap, sym, ◌∙◌, arith, append-nil}
use Rattle.std.specs.Prelude.{reverse, option_to_list}
use Rattle.std.proofs.lemmas.List.{reverse-append, reverse-reverse}
use Rattle.std.specs.List.{AllByRecursion}
use Rattle.tree_node.specs.declared.position.Position.{Position}
use Rattle.tree_node.specs.declared.version.TreeVersion.{TreeVersion}
use Rattle.tree_node.specs.Positions.{IsPosition}
use Rattle.tree_exchange.specs.Asked.{ArePlaces}
use Rattle.tree_exchange.specs.declared.question.Question.{Question}

pub put_reversed : (stack ps rev now : List Position) → rev ≡ reverse ps → now ≡ stack ++ rev → reverse now ≡ ps ++ reverse stack
put_reversed stack ps rev now r e = ap reverse e ∙ reverse-append stack rev ∙ (λ i. reverse (r i) ++ reverse stack) ∙ (λ i. reverse-reverse ps i ++ reverse stack)

pub next_reversed : (seen old now : List Position) (o : Option Position) (n m : ℕ) → reverse old ≡ seen → length old ≡ n → old ≡ now ++ option_to_list o → MatchOption o ((n ≡ 0) × (m ≡ 0)) (λ _. m + 1 ≡ n)
    → MatchOption o ((seen ≡ []) × (reverse now ≡ [])) (λ p. seen ≡ p ∷ reverse now)
next_reversed seen [] now None n m s l e d = (sym s, ap reverse (sym (e ∙ append-nil now)))
next_reversed seen (x ∷ old) now None n m s l e d = absurd (omega (arith, l, d.0))
next_reversed seen old now (Some p) n m s l e d = sym s ∙ ap reverse e ∙ reverse-append now (option_to_list (Some p))

pub left_places : (tree : TreeVersion) (current : Option Question) (left : List Position) → ArePlaces tree current left → AllByRecursion (IsPosition tree) left
left_places tree None left p = p
left_places tree (Some q) left p = p.1
