-- What the pending bytes show is the next line of the source.
use Rattle.std.proofs.Common.{◌≡◌, ℕ, ◌<◌, List, [], ◌∷◌, ◌++◌, length, take, Option, Some, None, sym, ap, subst, ◌∙◌, append_assoc, arith, length-append}
use Rattle.std.proofs.lemmas.List.{take-append-le}
use Rattle.std.specs.Io.KnownBytes.{Keeps, prepend_known}
use Rattle.environment.specs.declared.lines.Next.{Next}
use Rattle.environment.specs.declared.lines.Next.TheVariants.{Line, Rest, TooLong}
use Rattle.environment.specs.Lines.{IsNext, IsReady, HasNoFeed}

pub next_from_ready : (old : Option (List ℕ)) (p q : List ℕ) (left : Option (List ℕ)) (n : Next) → Keeps old (prepend_known p left) → IsReady p q n → IsNext old (prepend_known q left) n
next_from_ready old p q left (Rest v) kept r = absurd r
next_from_ready None p q left (Line v) kept r = (r.0, tt)
next_from_ready None p q left TooLong kept r = (tt, tt)
next_from_ready (Some x) p q None (Line v) kept r = absurd kept
next_from_ready (Some x) p q None TooLong kept r = absurd kept
next_from_ready (Some x) p q (Some y) (Line v) kept r = (r.0, sym kept ∙ ap (λ (l : List ℕ). l ++ y) r.1 ∙ append_assoc (v.items ++ 10 ∷ []) q y)
next_from_ready (Some x) p q (Some y) TooLong kept r =
    let prefix : take 4401 x ≡ take 4401 p = ap (λ (l : List ℕ). take 4401 l) (sym kept) ∙ take-append-le 4401 p y (omega (arith, r.0)) in
    let long : 4400 < length x = omega (arith, r.0, ap length kept, length-append p y) in
    ((long, subst HasNoFeed (sym prefix) r.1), ap (λ (l : List ℕ). l ++ y) r.2 ∙ kept)
