-- The lines printed since a step began.
use Rattle.std.proofs.Common.{◌≡◌, ◌<◌, ◌≤◌, ◌+◌, ◌++◌, ◌∷◌, ℕ, List, [], length, take, map, get_or, sym, ap, ◌∙◌, arith}
use Rattle.std.specs.Prelude.{drop}
use Rattle.std.proofs.lemmas.List.{append_assoc, map-append, drop-append-le, take_more, length-take-le}

-- the lines from the first on, and one more
pub since_next : {X : Type 0} (f : X → List ℕ) (xs : List X) (first i : ℕ) (x : X) (old lines next : List (List ℕ)) → first ≤ i → i < length xs → x ≡ get_or xs i x → lines ≡ old ++ map f (drop first (take i xs)) → next ≡ lines ++ f x ∷ []
    → next ≡ old ++ map f (drop first (take (i + 1) xs))
since_next f xs first i x old lines next from below is shown added =
    let far : first ≤ length (take i xs) = rw (length-take-le i xs (omega (arith, below))) from in
    let all : drop first (take (i + 1) xs) ≡ drop first (take i xs) ++ x ∷ [] =
    ap (drop first) (take_more xs i x below) ∙ (drop-append-le first (take i xs) (get_or xs i x ∷ []) far ∙ ap (λ y. drop first (take i xs) ++ y ∷ []) (sym is)) in
    rw added (rw shown (append_assoc old (map f (drop first (take i xs))) (f x ∷ []) ∙ ap (λ l. old ++ l) (sym (map-append f (drop first (take i xs)) (x ∷ [])) ∙ ap (map f) (sym all))))
