-- Keys and values as bytes.
use Rattle.std.specs.Prelude.{ℕ, List, ◌∷◌, ◌++◌, length, Result, Err, nat_le, ◌&&◌, if◌then◌else◌}
use Rattle.byteorder.specs.Endian.{big_bytes}
use Rattle.fields.specs.declared.field_error.FieldError.{FieldError}
use Rattle.fields.specs.declared.field_error.FieldError.TheVariants.{Rule}
use Rattle.ens_base.specs.Results.{◌>>=◌}
use Rattle.fields.specs.Numbers.{byte_at, number_at, run_at}

-- one byte of length, and the bytes
abbrev pub key_spelling : List ℕ → List ℕ
key_spelling key = length key ∷ key

unfoldable pub key_at : List ℕ → ℕ → Result (List ℕ × ℕ) FieldError
key_at bytes at = do
  size ← byte_at bytes at
  if nat_le 1 size.0 && nat_le size.0 64 then run_at size.0 bytes size.1 else Err (Rule at)

-- two bytes of length, and the bytes
abbrev pub value_spelling : List ℕ → List ℕ
value_spelling value = big_bytes 2 (length value) ++ value

unfoldable pub value_at : List ℕ → ℕ → Result (List ℕ × ℕ) FieldError
value_at bytes at = do
  size ← number_at 2 bytes at
  if nat_le size.0 1024 then run_at size.0 bytes size.1 else Err (Rule at)
