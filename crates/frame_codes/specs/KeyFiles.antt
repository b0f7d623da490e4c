-- Key files: one line or two, each a key of 64 hexadecimal digits.
use Rattle.std.specs.Prelude.{◌≡◌, ◌+◌, ℕ, List, [], ◌∷◌, None, Some, Result, Ok, Err, length}
use Rattle.std.specs.List.{AllPass}
use Rattle.std.specs.Str.Lines.{lines}
use Rattle.hex.specs.Hex.{decode_sized, is_hex_digit}
use Rattle.hex.specs.declared.error.FromHexError.{FromHexError}
use Rattle.hex.specs.declared.error.FromHexError.TheVariants.{InvalidHexCharacter}
use Rattle.frame_codes.specs.declared.key_file.KeyFile.{KeyFile}
use Rattle.frame_codes.specs.declared.key_file.KeyFileError.{KeyFileError}
use Rattle.frame_codes.specs.declared.key_file.KeyFileError.TheVariants.{Empty, Length, Digit, MoreLines}

-- why a line that does not decode to 32 bytes is no key: its length, or its first byte that is no digit
abbrev pub fault_of : ℕ → List ℕ → FromHexError → KeyFileError
fault_of line text (InvalidHexCharacter c index) = Digit line (index + 1)
fault_of line text e = Length line (length text)

abbrev pub key_or_fault : ℕ → List ℕ → Result (List ℕ) FromHexError → Result (List ℕ) KeyFileError
key_or_fault line text (Ok key) = Ok key
key_or_fault line text (Err e) = Err (fault_of line text e)

-- the 32 bytes that the line of this number spells with 64 hexadecimal digits
abbrev pub key_in : ℕ → List ℕ → Result (List ℕ) KeyFileError
key_in line text = key_or_fault line text (decode_sized text 32)

infixl 10 ◌>>=◌
abbrev pub ◌>>=◌ : {A B : Type 0} → Result A KeyFileError → (A → Result B KeyFileError) → Result B KeyFileError
Ok x >>= f = f x
Err e >>= f = Err e

-- the keys in the lines, or the first fault
abbrev pub keys_in : List (List ℕ) → Result KeyFile KeyFileError
keys_in [] = Err Empty
keys_in (line ∷ []) = do
  first ← key_in 1 line
  Ok (record { first = first; second = None })
keys_in (line ∷ next ∷ []) = do
  first ← key_in 1 line
  second ← key_in 2 next
  Ok (record { first = first; second = Some second })
keys_in (line ∷ next ∷ third ∷ more) = do
  first ← key_in 1 line
  second ← key_in 2 next
  Err MoreLines

-- the keys in the text of a key file
abbrev pub key_file : List ℕ → Result KeyFile KeyFileError
key_file text = keys_in (lines text)

-- a line of 64 hexadecimal digits
abbrev pub IsKey : List ℕ → Type 0
IsKey line = (length line ≡ 64) × AllPass is_hex_digit line

-- one or two such lines
abbrev pub AreKeys : List (List ℕ) → Type 0
AreKeys [] = ⊥
AreKeys (line ∷ []) = IsKey line
AreKeys (line ∷ next ∷ []) = IsKey line × IsKey next
AreKeys (line ∷ next ∷ third ∷ more) = ⊥
