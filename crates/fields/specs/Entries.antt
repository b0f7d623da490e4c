-- Entries as bytes.
use Rattle.std.specs.Prelude.{ℕ, List, ◌++◌, Result, Ok}
use Rattle.ens_base.specs.declared.entry.Entry.{Entry}
use Rattle.fields.specs.declared.field_error.FieldError.{FieldError}
use Rattle.ens_base.specs.Results.{◌>>=◌}
use Rattle.fields.specs.Numbers.{run_at, IsRun}
use Rattle.ens_base.specs.Limits.{IsVersion, IsKey}
use Rattle.fields.specs.Versions.{version_spelling, version_at}
use Rattle.fields.specs.Strings.{key_spelling, key_at}

-- the parts of the entry keep their limits
pub record IsEntry (e : Entry) : Type 0 where
  pub key : IsKey e.key
  pub version : IsVersion e.version
  pub digest : IsRun 16 e.digest

-- the key, the version, and the 16 bytes of the digest
abbrev pub entry_spelling : Entry → List ℕ
entry_spelling e = key_spelling e.key ++ version_spelling e.version ++ e.digest

unfoldable pub entry_at : List ℕ → ℕ → Result (Entry × ℕ) FieldError
entry_at bytes at = do
  key ← key_at bytes at
  version ← version_at bytes key.1
  digest ← run_at 16 bytes version.1
  Ok (record { key = key.0; version = version.0; digest = digest.0 }, digest.1)
