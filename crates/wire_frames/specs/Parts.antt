-- The parts of messages that are not fields of their own: flags, what may be absent, what is given of
-- a node, and why a peer refuses.
use Rattle.std.specs.Prelude.{◌≡◌, ◌≤◌, ◌<◌, ◌^◌, ℕ, Bool, true, false, List, [], ◌∷◌, ◌++◌, length, Option, None, Some, Result, Ok, Err, nat_le, ◌==◌, if◌then◌else◌, count_ones}
use Rattle.byteorder.specs.Endian.{big_bytes}
use Rattle.ens_base.specs.declared.entry.Entry.{Entry}
use Rattle.fields.specs.declared.field_error.FieldError.{FieldError}
use Rattle.fields.specs.declared.field_error.FieldError.TheVariants.{Rule}
use Rattle.ens_base.specs.Results.{◌>>=◌}
use Rattle.fields.specs.Numbers.{byte_at, number_at}
use Rattle.ens_base.specs.Limits.{IsEpoch}
use Rattle.fields.specs.Versions.{epoch_spelling, epoch_at}
use Rattle.fields.specs.Strings.{key_spelling, key_at}
use Rattle.tree_node.specs.declared.version.TreeVersion.TheVariants.{Two}
use Rattle.tree_node.specs.declared.body.TreeBody.{TreeBody}
use Rattle.tree_node.specs.declared.body.TreeBody.TheVariants as bodies
use Rattle.tree_node.specs.Positions.{IsPosition, position_spelling, position_at}
use Rattle.tree_node.specs.Entries.{AreEntries, entries_spelling, entries_at, AreDigests, digests_spelling, digests_at}
use Rattle.wire_frames.specs.declared.message.NackCause.{NackCause}
use Rattle.wire_frames.specs.declared.message.NackCause.TheVariants as causes
use Rattle.wire_frames.specs.Readers.{both, made}

-- one byte, 0 or 1
abbrev pub flag_spelling : Bool → List ℕ
flag_spelling false = 0 ∷ []
flag_spelling true = 1 ∷ []

unfoldable pub flag_at : List ℕ → ℕ → Result (Bool × ℕ) FieldError
flag_at bytes at = do
  flag ← byte_at bytes at
  if flag.0 == 0 then Ok (false, flag.1) else (if flag.0 == 1 then Ok (true, flag.1) else Err (Rule at))

abbrev pub IsOptional : {A : Type 0} → (A → Type 0) → Option A → Type 0
IsOptional IsValid None = Unit {0}
IsOptional IsValid (Some x) = IsValid x

-- a flag, and what is there
abbrev pub optional_spelling : {A : Type 0} → (A → List ℕ) → Option A → List ℕ
optional_spelling spelling None = 0 ∷ []
optional_spelling spelling (Some x) = 1 ∷ spelling x

unfoldable pub optional_at : {A : Type 0} → (List ℕ → ℕ → Result (A × ℕ) FieldError) → List ℕ → ℕ → Result (Option A × ℕ) FieldError
optional_at read bytes at = do
  flag ← byte_at bytes at
  if flag.0 == 0 then Ok (None, flag.1) else (if flag.0 == 1 then made Some read bytes flag.1 else Err (Rule at))

-- a zero in place of a key's length, or the key
abbrev pub option_key_spelling : Option (List ℕ) → List ℕ
option_key_spelling None = 0 ∷ []
option_key_spelling (Some key) = key_spelling key

unfoldable pub option_key_at : List ℕ → ℕ → Result (Option (List ℕ) × ℕ) FieldError
option_key_at bytes at = do
  size ← byte_at bytes at
  if size.0 == 0 then Ok (None, size.1) else made Some key_at bytes at

-- a mask, and the digests of its bits
abbrev pub AreChildren : ℕ × List (List ℕ) → Type 0
AreChildren x = (x.0 < 2 ^ 16) × (AreDigests x.1 × (length x.1 ≡ count_ones x.0))

unfoldable pub children_at : List ℕ → ℕ → Result ((ℕ × List (List ℕ)) × ℕ) FieldError
children_at bytes at = do
  mask ← number_at 2 bytes at
  digests ← digests_at (count_ones mask.0) bytes mask.1
  Ok ((mask.0, digests.0), digests.1)

-- at most 32 entries in order, and whether more follow
abbrev pub IsPage : List Entry × Bool → Type 0
IsPage x = (length x.0 ≤ 32) × AreEntries x.0

abbrev pub page_spelling : List Entry × Bool → List ℕ
page_spelling x = length x.0 ∷ [] ++ entries_spelling x.0 ++ flag_spelling x.1

unfoldable pub page_at : List ℕ → ℕ → Result ((List Entry × Bool) × ℕ) FieldError
page_at bytes at = do
  count ← byte_at bytes at
  if nat_le count.0 32 then both (entries_at count.0) flag_at bytes count.1 else Err (Rule at)

abbrev pub IsBody : TreeBody → Type 0
IsBody (bodies.Inner mask digests) = AreChildren (mask, digests)
IsBody (bodies.Page entries more) = IsPage (entries, more)
IsBody (bodies.Damaged position) = IsPosition Two position

abbrev pub body_tag : TreeBody → ℕ
body_tag (bodies.Inner mask digests) = 1
body_tag (bodies.Page entries more) = 2
body_tag (bodies.Damaged position) = 3

-- what follows the tag
abbrev pub body_rest : TreeBody → List ℕ
body_rest (bodies.Inner mask digests) = big_bytes 2 mask ++ digests_spelling digests
body_rest (bodies.Page entries more) = page_spelling (entries, more)
body_rest (bodies.Damaged position) = position_spelling position

-- a tag, and a mask with its digests, a page, or a position
abbrev pub body_spelling : TreeBody → List ℕ
body_spelling body = body_tag body ∷ body_rest body

unfoldable pub inner_body_at : List ℕ → ℕ → Result (TreeBody × ℕ) FieldError
inner_body_at bytes at = made (λ x. bodies.Inner x.0 x.1) children_at bytes at

unfoldable pub page_body_at : List ℕ → ℕ → Result (TreeBody × ℕ) FieldError
page_body_at bytes at = made (λ x. bodies.Page x.0 x.1) page_at bytes at

unfoldable pub damaged_body_at : List ℕ → ℕ → Result (TreeBody × ℕ) FieldError
damaged_body_at bytes at = made bodies.Damaged (position_at Two) bytes at

unfoldable pub body_at : List ℕ → ℕ → Result (TreeBody × ℕ) FieldError
body_at bytes at = do
  tag ← byte_at bytes at
  if tag.0 == 1 then inner_body_at bytes tag.1 else (if tag.0 == 2 then page_body_at bytes tag.1 else (if tag.0 == 3 then damaged_body_at bytes tag.1 else Err (Rule at)))

abbrev pub IsCause : NackCause → Type 0
IsCause (causes.Greater ballot) = IsEpoch ballot
IsCause causes.Untrusted = Unit {0}
IsCause (causes.Damaged position) = IsPosition Two position

abbrev pub cause_tag : NackCause → ℕ
cause_tag (causes.Greater ballot) = 1
cause_tag causes.Untrusted = 2
cause_tag (causes.Damaged position) = 3

-- what follows the tag
abbrev pub cause_rest : NackCause → List ℕ
cause_rest (causes.Greater ballot) = epoch_spelling ballot
cause_rest causes.Untrusted = []
cause_rest (causes.Damaged position) = position_spelling position

-- a tag, and an epoch, nothing, or a position
abbrev pub cause_spelling : NackCause → List ℕ
cause_spelling cause = cause_tag cause ∷ cause_rest cause

unfoldable pub greater_at : List ℕ → ℕ → Result (NackCause × ℕ) FieldError
greater_at bytes at = made causes.Greater epoch_at bytes at

unfoldable pub damaged_at : List ℕ → ℕ → Result (NackCause × ℕ) FieldError
damaged_at bytes at = made causes.Damaged (position_at Two) bytes at

unfoldable pub cause_at : List ℕ → ℕ → Result (NackCause × ℕ) FieldError
cause_at bytes at = do
  tag ← byte_at bytes at
  if tag.0 == 1 then greater_at bytes tag.1 else (if tag.0 == 2 then Ok (causes.Untrusted, tag.1) else (if tag.0 == 3 then damaged_at bytes tag.1 else Err (Rule at)))
