-- Epochs and versions as bytes.
use Rattle.std.specs.Prelude.{ℕ, List, ◌++◌, Result, Ok}
use Rattle.byteorder.specs.Endian.{big_bytes}
use Rattle.ens_base.specs.declared.epoch.Epoch.{Epoch}
use Rattle.ens_base.specs.declared.epoch.Version.{Version}
use Rattle.fields.specs.declared.field_error.FieldError.{FieldError}
use Rattle.ens_base.specs.Results.{◌>>=◌}
use Rattle.fields.specs.Numbers.{number_at}

-- eight bytes of the count, four of the proposer
abbrev pub epoch_spelling : Epoch → List ℕ
epoch_spelling e = big_bytes 8 e.count ++ big_bytes 4 e.proposer

unfoldable pub epoch_at : List ℕ → ℕ → Result (Epoch × ℕ) FieldError
epoch_at bytes at = do
  count ← number_at 8 bytes at
  proposer ← number_at 4 bytes count.1
  Ok (record { count = count.0; proposer = proposer.0 }, proposer.1)

-- the epoch, and eight bytes of the number in it
abbrev pub version_spelling : Version → List ℕ
version_spelling v = epoch_spelling v.epoch ++ big_bytes 8 v.seq

unfoldable pub version_at : List ℕ → ℕ → Result (Version × ℕ) FieldError
version_at bytes at = do
  epoch ← epoch_at bytes at
  seq ← number_at 8 bytes epoch.1
  Ok (record { epoch = epoch.0; seq = seq.0 }, seq.1)
