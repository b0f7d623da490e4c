-- Facts as bytes.
use Rattle.std.specs.Prelude.{◌<◌, ◌^◌, ℕ, List, [], ◌∷◌, ◌++◌, length, Result, Ok, Err, ◌==◌, if◌then◌else◌}
use Rattle.byteorder.specs.Endian.{big_bytes}
use Rattle.ens_base.specs.View.{IsView}
use Rattle.fields.specs.declared.fault.Fault.{Fault}
use Rattle.fields.specs.declared.fault.Fault.TheVariants.{Ended, Broken, NoMemory}
use Rattle.ens_base.specs.Results.{◌>>=◌}
use Rattle.fields.specs.Faults.{with_rule, plain}
use Rattle.fields.specs.Numbers.{byte_at, number_at}
use Rattle.ens_base.specs.Limits.{IsEpoch}
use Rattle.fields.specs.Versions.{epoch_spelling, epoch_at}
use Rattle.fields.specs.Views.{view_spelling, view_at, AreViews, views_spelling, views_at}
use Rattle.stored_formats.specs.declared.fact.Fact.{Fact}
use Rattle.stored_formats.specs.declared.fact.Change.{Change}
use Rattle.stored_formats.specs.declared.fact.Change.TheVariants as changes
use Rattle.stored_formats.specs.declared.fact_error.FactRule.{FactRule}
use Rattle.stored_formats.specs.declared.fact_error.FactRule.TheVariants as rules
use Rattle.stored_formats.specs.declared.fact_error.FactError.{FactError}
use Rattle.stored_formats.specs.declared.fact_error.FactError.TheVariants as errors

abbrev pub IsChange : Change → Type 0
IsChange changes.None = Unit {0}
IsChange (changes.Add view) = IsView view
IsChange changes.Drop = Unit {0}

-- the parts of the fact keep their limits
pub record IsFact (f : Fact) : Type 0 where
  pub ballot : IsEpoch f.ballot
  pub epoch : IsEpoch f.epoch
  pub seq : f.seq < 2 ^ 64
  pub leader : f.leader < 2 ^ 32
  pub views : AreViews f.views
  pub change : IsChange f.change

-- a tag of one byte: 0 for none, 1 before a view that is added, 2 for a view that is dropped
abbrev pub change_spelling : Change → List ℕ
change_spelling changes.None = 0 ∷ []
change_spelling (changes.Add view) = 1 ∷ view_spelling view
change_spelling changes.Drop = 2 ∷ []

-- a byte for the version of this format, which is 1, and the fields
abbrev pub fact_spelling : Fact → List ℕ
fact_spelling f = 1 ∷ [] ++ epoch_spelling f.ballot ++ epoch_spelling f.epoch ++ big_bytes 8 f.seq ++ big_bytes 4 f.leader ++ views_spelling f.views ++ change_spelling f.change

unfoldable pub added_at : List ℕ → ℕ → Result (Change × ℕ) (Fault FactRule)
added_at bytes at = do
  view ← with_rule rules.View (view_at bytes at)
  Ok (changes.Add view.0, view.1)

unfoldable pub change_at : List ℕ → ℕ → Result (Change × ℕ) (Fault FactRule)
change_at bytes at = do
  tag ← plain (byte_at bytes at)
  if tag.0 == 0 then Ok (changes.None, tag.1) else (if tag.0 == 1 then added_at bytes tag.1 else (if tag.0 == 2 then Ok (changes.Drop, tag.1) else Err (Broken rules.Tag at)))

-- the fields of version 1
unfoldable pub fields_at : List ℕ → ℕ → Result (Fact × ℕ) (Fault FactRule)
fields_at bytes at = do
  ballot ← plain (epoch_at bytes at)
  epoch ← plain (epoch_at bytes ballot.1)
  seq ← plain (number_at 8 bytes epoch.1)
  leader ← plain (number_at 4 bytes seq.1)
  views ← with_rule rules.View (views_at bytes leader.1)
  change ← change_at bytes views.1
  Ok (record { ballot = ballot.0; epoch = epoch.0; seq = seq.0; leader = leader.0; views = views.0; change = change.0 }, change.1)

-- the fact at a place, with the name of the rule where one is broken
unfoldable pub fact_at : List ℕ → ℕ → Result (Fact × ℕ) (Fault FactRule)
fact_at bytes at = do
  version ← plain (byte_at bytes at)
  if version.0 == 1 then fields_at bytes version.1 else Err (Broken rules.Tag at)

-- what was read, if it is all there is
abbrev pub all_of : Result (Fact × ℕ) (Fault FactRule) → ℕ → Result Fact FactError
all_of (Ok x) size = if x.1 == size then Ok x.0 else Err errors.Trailing
all_of (Err (Ended at)) size = Err errors.Short
all_of (Err (Broken rules.Tag at)) size = Err errors.BadTag
all_of (Err (Broken rules.View at)) size = Err errors.BadView
all_of (Err NoMemory) size = Err errors.Memory

-- the fact that the bytes spell, or the first fault from the left, bytes left over last
abbrev pub fact_of : List ℕ → Result Fact FactError
fact_of bytes = all_of (fact_at bytes 0) (length bytes)
