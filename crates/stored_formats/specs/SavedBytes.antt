-- Saved facts as bytes. A fact without a seal is spelled as a fact, in version 1; with a seal in version
-- 2, which has the seal behind the fields.
use Rattle.std.specs.Prelude.{ℕ, List, [], ◌∷◌, ◌++◌, Option, None, Some, length, Result, Ok, Err, ◌==◌, if◌then◌else◌}
use Rattle.byteorder.specs.Endian.{big_bytes}
use Rattle.fields.specs.declared.fault.Fault.{Fault}
use Rattle.fields.specs.declared.fault.Fault.TheVariants.{Ended, Broken, NoMemory}
use Rattle.ens_base.specs.Results.{◌>>=◌}
use Rattle.fields.specs.Faults.{plain}
use Rattle.fields.specs.Numbers.{IsRun, byte_at, run_at}
use Rattle.fields.specs.Versions.{epoch_spelling}
use Rattle.fields.specs.Views.{views_spelling}
use Rattle.stored_formats.specs.FactBytes.{IsFact, change_spelling, fields_at}
use Rattle.stored_formats.specs.declared.fact.Fact.{Fact}
use Rattle.stored_formats.specs.declared.saved.SavedFact.{SavedFact}
use Rattle.stored_formats.specs.declared.fact_error.FactRule.{FactRule}
use Rattle.stored_formats.specs.declared.fact_error.FactRule.TheVariants as rules
use Rattle.stored_formats.specs.declared.fact_error.FactError.{FactError}
use Rattle.stored_formats.specs.declared.fact_error.FactError.TheVariants as errors

-- a seal has 16 bytes
abbrev pub IsSeal : Option (List ℕ) → Type 0
IsSeal None = Unit {0}
IsSeal (Some seal) = IsRun 16 seal

-- the parts of the saved fact keep their limits
pub record IsSaved (s : SavedFact) : Type 0 where
  pub fact : IsFact s.fact
  pub seal : IsSeal s.seal

-- the version of the format
abbrev pub version_of : Option (List ℕ) → ℕ
version_of None = 1
version_of (Some seal) = 2

-- the bytes of the seal, if there is one
abbrev pub seal_spelling : Option (List ℕ) → List ℕ
seal_spelling None = []
seal_spelling (Some seal) = seal

-- the fields of a fact, behind the byte for the version
abbrev pub fields_spelling : Fact → List ℕ
fields_spelling f = epoch_spelling f.ballot ++ (epoch_spelling f.epoch ++ (big_bytes 8 f.seq ++ (big_bytes 4 f.leader ++ (views_spelling f.views ++ change_spelling f.change))))

-- a byte for the version, the fields, and the seal
abbrev pub saved_spelling : SavedFact → List ℕ
saved_spelling s = version_of s.seal ∷ (fields_spelling s.fact ++ seal_spelling s.seal)

-- the fields of version 1
unfoldable pub unsealed_at : List ℕ → ℕ → Result (SavedFact × ℕ) (Fault FactRule)
unsealed_at bytes at = do
  fact ← fields_at bytes at
  Ok (record { fact = fact.0; seal = None }, fact.1)

-- the fields of version 2, and the seal
unfoldable pub sealed_at : List ℕ → ℕ → Result (SavedFact × ℕ) (Fault FactRule)
sealed_at bytes at = do
  fact ← fields_at bytes at
  seal ← plain (run_at 16 bytes fact.1)
  Ok (record { fact = fact.0; seal = Some seal.0 }, seal.1)

-- the saved fact at a place, with the name of the rule where one is broken
unfoldable pub saved_at : List ℕ → ℕ → Result (SavedFact × ℕ) (Fault FactRule)
saved_at bytes at = do
  version ← plain (byte_at bytes at)
  if version.0 == 1 then unsealed_at bytes version.1 else (if version.0 == 2 then sealed_at bytes version.1 else Err (Broken rules.Tag at))

-- what was read, if it is all there is
abbrev pub all_saved : Result (SavedFact × ℕ) (Fault FactRule) → ℕ → Result SavedFact FactError
all_saved (Ok x) size = if x.1 == size then Ok x.0 else Err errors.Trailing
all_saved (Err (Ended at)) size = Err errors.Short
all_saved (Err (Broken rules.Tag at)) size = Err errors.BadTag
all_saved (Err (Broken rules.View at)) size = Err errors.BadView
all_saved (Err NoMemory) size = Err errors.Memory

-- the saved fact that the bytes spell, or the first fault from the left, bytes left over last
abbrev pub saved_of : List ℕ → Result SavedFact FactError
saved_of bytes = all_saved (saved_at bytes 0) (length bytes)
