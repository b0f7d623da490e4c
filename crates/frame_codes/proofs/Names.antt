-- The bytes that name an ensemble tell ensembles apart, and end where a frame begins.
use Rattle.std.proofs.Common.{◌≡◌, ◌∙◌, ◌++◌, ℕ, List, ◌∷◌, sym, ap, length, take, drop, append_assoc}
use Rattle.std.proofs.Math.Seq.{take-append_seam, drop-append_seam}
use Rattle.frame_codes.specs.Seals.{name_of}
use Rattle.frame_codes.specs.declared.coverage.Ensemble.{Ensemble}

-- two lists whose fronts are equally long
pub fronts : (a b c d : List ℕ) → length a ≡ length c → a ++ b ≡ c ++ d → a ≡ c
fronts a b c d long same = sym (take-append_seam a b) ∙ ap (λ n. take n (a ++ b)) long ∙ ap (take (length c)) same ∙ take-append_seam c d

pub backs : (a b c d : List ℕ) → length a ≡ length c → a ++ b ≡ c ++ d → b ≡ d
backs a b c d long same = sym (drop-append_seam a b) ∙ ap (λ n. drop n (a ++ b)) long ∙ ap (drop (length c)) same ∙ drop-append_seam c d

pub apart : (one other : Ensemble) (frame last : List ℕ) → length one.id ≡ 16 → length other.id ≡ 16 → name_of one ++ frame ≡ name_of other ++ last → (one ≡ other) × (frame ≡ last)
apart one other frame last a b same =
    let long = a ∙ sym b in
    let same : one.id ++ (length one.opening ∷ one.opening ++ frame) ≡ other.id ++ (length other.opening ∷ other.opening ++ last) = sym (append_assoc one.id _ frame) ∙ same ∙ append_assoc other.id _ last in
    let ids = fronts _ _ _ _ long same in
    let rest = backs _ _ _ _ long same in
    let count : length one.opening ≡ length other.opening = cc rest in
    let views : one.opening ++ frame ≡ other.opening ++ last = cc rest in
    let opening = fronts _ _ _ _ count views in
    (λ i. record { id = ids i; opening = opening i }, backs _ _ _ _ count views)
