-- A write that a crash interrupts byte by byte.
use Rattle.std.specs.Prelude.{◌≡◌, ◌⊎◌, ℕ, List, slice_index_or}
use Rattle.slot_disk.specs.Crash.{written}

-- the byte at this place of a file; past its end a file goes on with zeros
abbrev pub byte_at : List ℕ → ℕ → ℕ
byte_at file i = slice_index_or file i 0

-- each byte of a file is that of the first file or that of the second
pub record IsMix (first second file : List ℕ) : Type 0 where
  pub each : (i : ℕ) → (byte_at file i ≡ byte_at first i) ⊎ (byte_at file i ≡ byte_at second i)

-- after a crash during or after this write: each byte is that of the old file or that of the whole write
abbrev pub Mixed : ℕ → List ℕ → List ℕ → List ℕ → Type 0
Mixed at bytes old new = IsMix old (written old at bytes) new
