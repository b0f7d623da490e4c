-- What the pending bytes show is the next line of the source.
use Rattle.std.proofs.Common.{◌≡◌, ℕ, ◌+◌, ◌<◌, ◌≤◌, List, [], ◌∷◌, ◌++◌, length, take, Option, Some, None, Ok, sym, ap, subst, ◌∙◌, append_assoc, arith, length-append}
use Rattle.std.proofs.lemmas.List.{take-append-le}
use Rattle.std.specs.Io.KnownBytes.{Keeps, prepend_known}
use Rattle.environment.specs.Lines.{HasNoFeed}
use Rattle.environment.specs.declared.lines.Next.{Next}
use Rattle.environment.specs.declared.lines.Next.TheVariants.{Line, Rest, TooLong}
use Rattle.audit.specs.Lines.{AreFew, IsNext, IsReady}

pub next_from_ready : (most : ℕ) (old : Option (List ℕ)) (p q : List ℕ) (left : Option (List ℕ)) (n : Next) → Keeps old (prepend_known p left) → IsReady most p q n → IsNext most old (prepend_known q left) n
next_from_ready most old p q left (Rest v) kept r = absurd r
next_from_ready most None p q left (Line v) kept r = (r.0, tt)
next_from_ready most None p q left TooLong kept r = (tt, tt)
next_from_ready most (Some x) p q None (Line v) kept r = absurd kept
next_from_ready most (Some x) p q None TooLong kept r = absurd kept
next_from_ready most (Some x) p q (Some y) (Line v) kept r = (r.0, sym kept ∙ ap (λ (l : List ℕ). l ++ y) r.1 ∙ append_assoc (v.items ++ 10 ∷ []) q y)
next_from_ready most (Some x) p q (Some y) TooLong kept r =
    let prefix : take (most + 1) x ≡ take (most + 1) p = ap (λ (l : List ℕ). take (most + 1) l) (sym kept) ∙ take-append-le (most + 1) p y (omega (arith, r.0)) in
    let long : most < length x = omega (arith, r.0, ap length kept, length-append p y) in
    ((long, subst HasNoFeed (sym prefix) r.1), ap (λ (l : List ℕ). l ++ y) r.2 ∙ kept)

-- the bytes that were pending before a line was taken out
pub few_ready : (most : ℕ) (p q : List ℕ) (n : Next) → length p ≤ most + 1 → IsReady most p q n → AreFew most (length q) (Ok n)
few_ready most p q (Line v) few r =
    let size : length p ≡ length v.items + 1 + length q = ap (λ (l : List ℕ). length l) r.1 ∙ length-append (v.items ++ 10 ∷ []) q ∙ ap (λ (n : ℕ). n + length q) (length-append v.items (10 ∷ [])) in
    omega (arith, few, size)
few_ready most p q (Rest v) few r = absurd r
few_ready most p q TooLong few r = let same : length q ≡ length p = ap (λ (l : List ℕ). length l) r.2 in omega (arith, few, same)
