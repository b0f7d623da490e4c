-- A view that is filled one number after another.
use Rattle.std.proofs.Common.{◌≡◌, ◌+◌, ◌-◌, ◌<◌, ◌≤◌, ℕ, suc, List, [], ◌∷◌, ◌++◌, Contains, length, take, slice_index, append_assoc, arith, sym, ap, ◌∙◌}
use Rattle.std.specs.Prelude.{replicate, slice_set}
use Rattle.std.proofs.lemmas.List.{take_more, set_at, length-take}
use Rattle.ens_base.specs.View.{IsView}

-- one more number
pub filled : (xs buf : List ℕ) (i : ℕ) → i < length xs → length xs ≤ 9 → buf ≡ take i xs ++ replicate (9 - i) 0 → slice_set buf i (slice_index xs i) ≡ take (i + 1) xs ++ replicate (9 - (i + 1)) 0
filled xs buf i below few is =
    let before : 9 - i ≡ suc (9 - (i + 1)) = omega (arith, below, few) in
    let prefix : length (take i xs) ≡ i = omega (arith, length-take i xs, below) in
    ap (λ (bs : List ℕ). slice_set bs i (slice_index xs i)) (is ∙ ap (λ (n : ℕ). take i xs ++ replicate n 0) before)
    ∙ set_at (take i xs) 0 (replicate (9 - (i + 1)) 0) (slice_index xs i) i prefix
    ∙ sym (append_assoc (take i xs) (slice_index xs i ∷ []) (replicate (9 - (i + 1)) 0))
    ∙ ap (λ (bs : List ℕ). bs ++ replicate (9 - (i + 1)) 0) (sym (take_more xs i 0 below))

-- a number past the bytes is no member's
pub no_member : (xs : List ℕ) (p : ℕ) → IsView xs → ¬ (p < 256) → ¬ Contains xs p
no_member xs p view past h = past (omega (arith, (view.peers h.0 p h.1).1, h.2))
