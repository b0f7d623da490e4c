-- Where a byte of a key is that is no hexadecimal digit.
use Rattle.std.proofs.Common.{◌≡◌, ◌∙◌, ◌/◌, ◌%◌, ◌<◌, ◌+◌, ◌⊎◌, ℕ, false, List, Result, Ok, Err, sym, arith, inl, inr, length, take, slice_index}
use Rattle.std.specs.Prelude.{MatchResult}
use Rattle.std.specs.List.{AllPass}
use Rattle.std.proofs.lemmas.Bool.{cases_eq}
use Rattle.hex.specs.Hex.{decode_sized, is_hex_digit}
use Rattle.hex.specs.declared.error.FromHexError.{FromHexError}
use Rattle.hex.specs.declared.error.FromHexError.TheVariants.{InvalidHexCharacter, OddLength}
use Rattle.hex.proofs.HexLemmas.{decode_of-err, decode_sized-odd, decode_sized-other, decode_sized-twice}

bad_within : (text : List ℕ) (c index : ℕ) → ((length text % 2 ≡ 1) × (InvalidHexCharacter c index ≡ OddLength))
    ⊎ ((k : ℕ) × (InvalidHexCharacter c index ≡ InvalidHexCharacter (slice_index text k) (0 + k)) × (k < length text)
    × (is_hex_digit (slice_index text k) ≡ false) × AllPass is_hex_digit (take k text)) → length text ≡ 64 → index < 64
bad_within text c index (inl odd) long = absurd (cc odd.1)
bad_within text c index (inr bad) long = let at : index ≡ 0 + bad.0 = cc bad.1 in let before = bad.2 in omega arith

-- a digit that is refused is one of the 64 bytes
within : (text : List ℕ) (c index : ℕ) → decode_sized text 32 ≡ Err (InvalidHexCharacter c index) → index < 64
within text c index is =
    elim (cases_eq (length text % 2) 1) [
      | inl odd ↦ absurd (cc (sym is ∙ decode_sized-odd text 32 odd))
      | inr even ↦
          let z : length text % 2 ≡ 0 = omega arith in
          elim (cases_eq (length text / 2) 32) [
            | inl half ↦ bad_within text c index (decode_of-err text (InvalidHexCharacter c index) (sym (decode_sized-twice text 32 (omega arith)) ∙ is)) (omega arith)
            | inr other ↦ absurd (cc (sym is ∙ decode_sized-other text 32 z other))
          ]
    ]

pub index_within : (text : List ℕ) (d : Result (List ℕ) FromHexError) (r : Result Unit FromHexError) (out : List ℕ) (c index : ℕ) → decode_sized text 32 ≡ d → MatchResult d (λ bytes. (r ≡ Ok tt) × (out ≡ bytes)) (λ e. r ≡ Err e) → r ≡ Err (InvalidHexCharacter c index) → index < 64
index_within text (Ok bytes) r out c index d holds is = absurd (cc (holds.0, is))
index_within text (Err e) r out c index d holds is = within text c index (d ∙ cc (holds, is))
