-- Words behind a first one, joined by spaces.
use Rattle.std.proofs.Common.{◌≡◌, ℕ, List, [], ◌∷◌, ◌++◌, Result, Ok, Err, OnOk, codes, sym, ap, ◌∙◌, append_assoc, append-nil}
use Rattle.std.specs.List.{join_with_byte}
use Rattle.schedule_text.specs.Writing.{feeds, spaced}

pub join_spaced : (word : List ℕ) (more : List (List ℕ)) → join_with_byte 32 (word ∷ more) ≡ word ++ spaced more
join_spaced word [] = sym (append-nil word)
join_spaced word (next ∷ more) = ap (λ (rest : List ℕ). word ++ (32 ∷ rest)) (join_spaced next more)

-- the same, behind a text
pub append_join : (old word : List ℕ) (more : List (List ℕ)) → (old ++ word) ++ spaced more ≡ old ++ join_with_byte 32 (word ∷ more)
append_join old word more = append_assoc old word (spaced more) ∙ sym (ap (λ (text : List ℕ). old ++ text) (join_spaced word more))

-- the heading, written piece by piece
pub heading_written : (old a b c d e f ensemble peers view : List ℕ) → a ≡ old ++ ensemble → b ≡ a ++ codes "\n" → c ≡ b ++ peers → d ≡ c ++ codes "\n" → e ≡ d ++ view
    → f ≡ e ++ codes "\n" → f ≡ old ++ feeds (ensemble ∷ peers ∷ view ∷ [])
heading_written old a b c d e f ensemble peers view o p q r s t =
    t ∙ ap (λ (x : List ℕ). x ++ 10 ∷ []) (s ∙ ap (λ (x : List ℕ). x ++ view) (r ∙ ap (λ (x : List ℕ). x ++ 10 ∷ []) (q ∙ ap (λ (x : List ℕ). x ++ peers) (p ∙ ap (λ (x : List ℕ). x ++ 10 ∷ []) o))))
    ∙ simp (append_assoc, append-nil)

-- a line, written in two pieces: its first word, then those behind it
pub line_written : {E : Type 0} (written : Result (Unit {0}) E) (old a b word : List ℕ) (more words : List (List ℕ)) → a ≡ old ++ word → OnOk written (b ≡ a ++ spaced more) → words ≡ word ∷ more
    → OnOk written (b ≡ old ++ join_with_byte 32 words)
line_written (Ok done) old a b word more words first rest is =
    rest ∙ ap (λ (x : List ℕ). x ++ spaced more) first ∙ append_join old word more ∙ ap (λ (x : List (List ℕ)). old ++ join_with_byte 32 x) (sym is)
line_written (Err e) old a b word more words first rest is = tt
