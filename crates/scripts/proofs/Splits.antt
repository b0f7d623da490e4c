-- A text and the part in front of the first byte that parts it.
use Rattle.std.proofs.Common.{◌≡◌, ℕ, ◌+◌, ◌<◌, ◌≤◌, ◌==◌, ◌⊎◌, inl, inr, Bool, true, false, Some, None, List, [], ◌∷◌, ◌++◌, length, take, drop, refl, ap, arith, cond}
use Rattle.std.specs.Prelude.{position}
use Rattle.std.proofs.lemmas.Bool.Decides.{nat_tests}
use Rattle.std.proofs.lemmas.List.Splits.{slice_split_first, slice_split_none}
use Rattle.std.proofs.lemmas.List.Sums.{fails_before_first}
use Rattle.std.specs.List.{onto_first, position_or_len}
use Rattle.lexemes.specs.Words.{parts_of}
use Rattle.schedule_text.proofs.Parts.{feed_place}

-- a text without the byte is one part
pub parts_of-none : (at : ℕ) (text : List ℕ) → position (λ b. b == at) text ≡ None → parts_of at text ≡ text ∷ []
parts_of-none at text h =
    let far : length text ≤ position_or_len (λ b. b == at) text = feed_place text (position_or_len (λ b. b == at) text) _ None refl h in
    slice_split_none (λ b. b == at) text (λ k d within. fails_before_first (λ b. b == at) text k d (omega arith))

-- the first part of a text ends where the byte stands first
pub parts_of-at : (at : ℕ) (text : List ℕ) (k : ℕ) → position (λ b. b == at) text ≡ Some k
    → (k < length text) × (parts_of at text ≡ take k text ∷ parts_of at (drop (k + 1) text))
parts_of-at at text k h =
    let first = feed_place text (position_or_len (λ b. b == at) text) _ (Some k) refl h in
    let within : k < length text = rw first.0 first.1 in
    (within, rw first.0 (slice_split_first (λ b. b == at) text 0 first.1))

-- a text is one part, or the first part, the byte and the other parts
pub first_part : (at : ℕ) (text : List ℕ)
    → (parts_of at text ≡ text ∷ []) ⊎ ((first : List ℕ) × (rest : List ℕ) × (text ≡ first ++ (at ∷ rest)) × (parts_of at text ≡ first ∷ parts_of at rest))
first_part at [] = inl refl
first_part at (x ∷ xs) = by (x == at) refl (first_part at xs)
  where
    same : (a b : ℕ) → (a == b) ≡ true → a ≡ b
    same a b h = grind (arith, nat_tests)

    by : (b : Bool) → (x == at) ≡ b
        → (parts_of at xs ≡ xs ∷ []) ⊎ ((first : List ℕ) × (rest : List ℕ) × (xs ≡ first ++ (at ∷ rest)) × (parts_of at xs ≡ first ∷ parts_of at rest))
        → (cond b ([] ∷ parts_of at xs) (onto_first x (parts_of at xs)) ≡ (x ∷ xs) ∷ [])
        ⊎ ((first : List ℕ) × (rest : List ℕ) × (x ∷ xs ≡ first ++ (at ∷ rest)) × (cond b ([] ∷ parts_of at xs) (onto_first x (parts_of at xs)) ≡ first ∷ parts_of at rest))
    by true e h = inr ([], xs, ap (λ (b : ℕ). b ∷ xs) (same x at e), refl)
    by false e (inl whole) = inl (ap (onto_first x) whole)
    by false e (inr (first, rest, text, parts)) = inr (x ∷ first, rest, ap (λ (l : List ℕ). x ∷ l) text, ap (onto_first x) parts)
