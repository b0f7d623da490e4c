-- Entries in the order of their keys, and lists of digests.
use Rattle.std.specs.Prelude.{◌≡◌, ℕ, Bool, true, false, List, [], ◌∷◌, length, ◌-◌, Option, None, Some, slice_get, Result, Ok, Err, if◌then◌else◌}
use Rattle.std.specs.List.{flat_map}
use Rattle.std.specs.Ordering.{nat_cmp}
use Rattle.std.specs.Cmp.Lexicographic.{slice_cmp}
use Rattle.std.specs.declared.cmp.Ordering.{Ordering}
use Rattle.std.specs.declared.cmp.Ordering.TheVariants.{Less, Equal, Greater}
use Rattle.ens_base.specs.declared.entry.Entry.{Entry}
use Rattle.fields.specs.declared.field_error.FieldError.{FieldError}
use Rattle.fields.specs.declared.field_error.FieldError.TheVariants.{Rule}
use Rattle.ens_base.specs.Results.{◌>>=◌}
use Rattle.fields.specs.Numbers.{run_at, IsRun}
use Rattle.fields.specs.Versions.{version_at}
use Rattle.fields.specs.Strings.{key_at}
use Rattle.fields.specs.Entries.{IsEntry, entry_spelling}
use Rattle.tree_node.specs.Repeats.{list_at, AreListed}

abbrev pub is_less : Ordering → Bool
is_less Less = true
is_less Equal = false
is_less Greater = false

-- whether the key is above another in the order of their bytes; every key is above no bytes
abbrev pub is_above : List ℕ → List ℕ → Bool
is_above low key = is_less (slice_cmp nat_cmp low key)

-- the key of an entry, and no bytes where there is none
abbrev pub key_or_none : Option Entry → List ℕ
key_or_none None = []
key_or_none (Some e) = e.key

-- the key of the last entry, and no bytes where there is none
abbrev pub last_key : List Entry → List ℕ
last_key es = key_or_none (slice_get es (length es - 1))

-- an entry that may follow one with the key `low`
abbrev pub IsNext : List ℕ → Entry → Type 0
IsNext low e = (is_above low e.key ≡ true) × IsEntry e

-- entries whose keys ascend strictly
abbrev pub AreEntries : List Entry → Type 0
AreEntries es = AreListed IsNext (λ e. e.key) [] es

-- the keys ascend strictly, the first above `low`
abbrev pub AreAbove : List ℕ → List Entry → Type 0
AreAbove low [] = Unit {0}
AreAbove low (e ∷ es) = (is_above low e.key ≡ true) × AreAbove e.key es

abbrev pub entries_spelling : List Entry → List ℕ
entries_spelling es = flat_map entry_spelling es

-- what follows the key of an entry
unfoldable pub rest_at : List ℕ → List ℕ → ℕ → Result (Entry × ℕ) FieldError
rest_at key bytes at = do
  version ← version_at bytes at
  digest ← run_at 16 bytes version.1
  Ok (record { key = key; version = version.0; digest = digest.0 }, digest.1)

-- an entry whose key is above `low`; the key is tested before the rest is read
unfoldable pub next_at : List ℕ → List ℕ → ℕ → Result (Entry × ℕ) FieldError
next_at low bytes at = do
  key ← key_at bytes at
  if is_above low key.0 then rest_at key.0 bytes key.1 else Err (Rule at)

-- n entries whose keys ascend strictly
abbrev pub entries_at : ℕ → List ℕ → ℕ → Result (List Entry × ℕ) FieldError
entries_at n bytes at = list_at next_at (λ e. e.key) n [] bytes at

-- digests of 16 bytes each
abbrev pub AreDigests : List (List ℕ) → Type 0
AreDigests ds = AreListed {B = Unit {0}} (λ _ d. IsRun 16 d) (λ _. tt) tt ds

abbrev pub digests_spelling : List (List ℕ) → List ℕ
digests_spelling ds = flat_map (λ d. d) ds

-- n digests
abbrev pub digests_at : ℕ → List ℕ → ℕ → Result (List (List ℕ) × ℕ) FieldError
digests_at n bytes at = list_at {B = Unit {0}} (λ _. run_at 16) (λ _. tt) n tt bytes at
