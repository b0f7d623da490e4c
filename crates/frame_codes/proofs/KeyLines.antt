-- Which lines are keys.
use Rattle.std.proofs.Common.{ℕ, List, [], ◌∷◌, None, Some, Result, Ok, Err, refl}
use Rattle.std.specs.Prelude.{◌↔◌, IsOk}
use Rattle.hex.specs.Hex.{decode_sized}
use Rattle.hex.specs.declared.error.FromHexError.{FromHexError}
use Rattle.hex.proofs.HexLemmas.{IsOk-decode_sized}
use Rattle.frame_codes.specs.KeyFiles.{key_or_fault, key_in, keys_in, IsKey, AreKeys, ◌>>=◌}
use Rattle.frame_codes.specs.declared.key_file.KeyFile.{KeyFile}
use Rattle.frame_codes.specs.declared.key_file.KeyFileError.{KeyFileError}

there : (line : ℕ) (text : List ℕ) (d : Result (List ℕ) FromHexError) → IsOk (key_or_fault line text d) → IsOk d
there line text (Ok key) is = refl
there line text (Err e) is = absurd (cc is)

back : (line : ℕ) (text : List ℕ) (d : Result (List ℕ) FromHexError) → IsOk d → IsOk (key_or_fault line text d)
back line text (Ok key) is = refl
back line text (Err e) is = absurd (cc is)

key_line : (n : ℕ) (line : List ℕ) → IsOk (key_in n line) ↔ IsKey line
key_line n line = (
  λ is. (IsOk-decode_sized line 32).0 (there n line (decode_sized line 32) is),
  λ is. back n line (decode_sized line 32) ((IsOk-decode_sized line 32).1 is),
)

one : (first : Result (List ℕ) KeyFileError) → IsOk {T = KeyFile} (first >>= (λ key. Ok (record { first = key; second = None }))) ↔ IsOk first
one (Ok key) = (λ is. refl, λ is. refl)
one (Err e) = (λ is. absurd (cc is), λ is. absurd (cc is))

two : (first second : Result (List ℕ) KeyFileError) → IsOk {T = KeyFile} (first >>= (λ key. second >>= (λ other. Ok (record { first = key; second = Some other })))) ↔ (IsOk first × IsOk second)
two (Ok key) (Ok other) = (λ is. (refl, refl), λ is. refl)
two (Ok key) (Err e) = (λ is. absurd (cc is), λ is. absurd (cc is.1))
two (Err e) second = (λ is. absurd (cc is), λ is. absurd (cc is.0))

more : (first second : Result (List ℕ) KeyFileError) (e : KeyFileError) → IsOk {T = KeyFile} (first >>= (λ key. second >>= (λ other. Err e))) → ⊥
more (Ok key) (Ok other) e is = absurd (cc is)
more (Ok key) (Err f) e is = absurd (cc is)
more (Err f) second e is = absurd (cc is)

pub key_lines : (lines : List (List ℕ)) → IsOk (keys_in lines) ↔ AreKeys lines
key_lines [] = (λ is. absurd (cc is), λ is. absurd is)
key_lines (line ∷ []) = let a = key_line 1 line in let o = one (key_in 1 line) in (λ is. a.0 (o.0 is), λ is. o.1 (a.1 is))
key_lines (line ∷ next ∷ []) =
    let a = key_line 1 line in
    let b = key_line 2 next in
    let t = two (key_in 1 line) (key_in 2 next) in
    (λ is. (a.0 (t.0 is).0, b.0 (t.0 is).1), λ is. t.1 (a.1 is.0, b.1 is.1))
key_lines (line ∷ next ∷ third ∷ rest) = (λ is. more (key_in 1 line) (key_in 2 next) _ is, λ is. absurd is)
