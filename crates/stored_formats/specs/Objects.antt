-- Objects as bytes.
use Rattle.std.specs.Prelude.{◌≡◌, ℕ, List, [], ◌∷◌, ◌++◌, length, Option, None, Some, Result, Ok, Err, ◌==◌, if◌then◌else◌}
use Rattle.fields.specs.declared.fault.Fault.{Fault}
use Rattle.fields.specs.declared.fault.Fault.TheVariants.{Ended, Broken, NoMemory}
use Rattle.ens_base.specs.Results.{◌>>=◌}
use Rattle.fields.specs.Faults.{with_rule, plain}
use Rattle.fields.specs.Numbers.{byte_at}
use Rattle.ens_base.specs.Limits.{IsVersion, IsKey, IsValue}
use Rattle.fields.specs.Versions.{version_spelling, version_at}
use Rattle.fields.specs.Strings.{key_spelling, key_at, value_spelling, value_at}
use Rattle.stored_formats.specs.declared.object.Object.{Object}
use Rattle.stored_formats.specs.declared.object_error.ObjectRule.{ObjectRule}
use Rattle.stored_formats.specs.declared.object_error.ObjectRule.TheVariants as rules
use Rattle.stored_formats.specs.declared.object_error.ObjectError.{ObjectError}
use Rattle.stored_formats.specs.declared.object_error.ObjectError.TheVariants as errors

-- a value keeps its limits, where there is one
abbrev pub IsContent : Option (List ℕ) → Type 0
IsContent None = Unit {0}
IsContent (Some value) = IsValue value

-- the parts of the object keep their limits
pub record IsObject (o : Object) : Type 0 where
  pub version : IsVersion o.version
  pub stamp : IsVersion o.stamp
  pub key : IsKey o.key
  pub content : IsContent o.value

-- a tag of one byte, 0 for a tombstone, 1 before a value
abbrev pub content_spelling : Option (List ℕ) → List ℕ
content_spelling None = 0 ∷ []
content_spelling (Some value) = 1 ∷ value_spelling value

-- the version, the stamp, the key, and the content
abbrev pub object_spelling : Object → List ℕ
object_spelling o = version_spelling o.version ++ version_spelling o.stamp ++ key_spelling o.key ++ content_spelling o.value

unfoldable pub held_at : List ℕ → ℕ → Result (Option (List ℕ) × ℕ) (Fault ObjectRule)
held_at bytes at = do
  value ← with_rule rules.ValueLength (value_at bytes at)
  Ok (Some value.0, value.1)

unfoldable pub content_at : List ℕ → ℕ → Result (Option (List ℕ) × ℕ) (Fault ObjectRule)
content_at bytes at = do
  tag ← plain (byte_at bytes at)
  if tag.0 == 0 then Ok (None, tag.1) else (if tag.0 == 1 then held_at bytes tag.1 else Err (Broken rules.Tag at))

-- the object at a place, with the name of the rule where one is broken
unfoldable pub object_at : List ℕ → ℕ → Result (Object × ℕ) (Fault ObjectRule)
object_at bytes at = do
  version ← plain (version_at bytes at)
  stamp ← plain (version_at bytes version.1)
  key ← with_rule rules.KeyLength (key_at bytes stamp.1)
  content ← content_at bytes key.1
  Ok (record { version = version.0; stamp = stamp.0; key = key.0; value = content.0 }, content.1)

-- what was read, if it is all there is
abbrev pub all_of : Result (Object × ℕ) (Fault ObjectRule) → ℕ → Result Object ObjectError
all_of (Ok x) size = if x.1 == size then Ok x.0 else Err errors.Trailing
all_of (Err (Ended at)) size = Err errors.Short
all_of (Err (Broken rules.Tag at)) size = Err errors.BadTag
all_of (Err (Broken rules.KeyLength at)) size = Err errors.KeyLength
all_of (Err (Broken rules.ValueLength at)) size = Err errors.ValueLength
all_of (Err NoMemory) size = Err errors.Memory

-- the object that the bytes spell, or the first fault from the left, bytes left over last
abbrev pub object_of : List ℕ → Result Object ObjectError
object_of bytes = all_of (object_at bytes 0) (length bytes)

abbrev pub Fails : {X : Type 0} → ObjectError → Result X ObjectError → Type 0
Fails errors.Memory read = Unit {0}
Fails e read = read ≡ Err e

-- a call answered what reading gives, unless memory ran out
abbrev pub Answers : {X : Type 0} → Result X ObjectError → Result X ObjectError → Type 0
Answers (Ok x) read = read ≡ Ok x
Answers (Err e) read = Fails e read
