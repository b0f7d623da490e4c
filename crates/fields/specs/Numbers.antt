-- Numbers and runs of bytes.
use Rattle.std.specs.Prelude.{◌≡◌, ℕ, ◌+◌, ◌-◌, List, length, take, drop, Result, Ok, Err, nat_lt, slice_index, if◌then◌else◌}
use Rattle.byteorder.specs.Endian.{big_number}
use Rattle.ens_base.specs.Limits.{IsBytes}
use Rattle.fields.specs.declared.field_error.FieldError.{FieldError}
use Rattle.fields.specs.declared.field_error.FieldError.TheVariants.{Short}

-- the byte at a place
abbrev pub byte_at : List ℕ → ℕ → Result (ℕ × ℕ) FieldError
byte_at bytes at = if nat_lt at (length bytes) then Ok (slice_index bytes at, at + 1) else Err (Short at)

-- the number that n bytes spell, the highest byte first
abbrev pub number_at : ℕ → List ℕ → ℕ → Result (ℕ × ℕ) FieldError
number_at n bytes at = if nat_lt (length bytes - at) n then Err (Short at) else Ok (big_number n (drop at bytes), at + n)

-- a run of n bytes
abbrev pub run_at : ℕ → List ℕ → ℕ → Result (List ℕ × ℕ) FieldError
run_at n bytes at = if nat_lt (length bytes - at) n then Err (Short at) else Ok (take n (drop at bytes), at + n)

-- a run of exactly n bytes
pub record IsRun (n : ℕ) (run : List ℕ) : Type 0 where
  pub size : length run ≡ n
  pub bytes : IsBytes run
