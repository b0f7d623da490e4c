-- The nodes of the tree as bytes.
use Rattle.std.specs.Prelude.{◌≡◌, ◌<◌, ◌^◌, ℕ, List, [], ◌∷◌, ◌++◌, length, Result, Ok, Err, ◌==◌, if◌then◌else◌, count_ones}
use Rattle.byteorder.specs.Endian.{big_bytes}
use Rattle.fields.specs.declared.field_error.FieldError.{FieldError}
use Rattle.fields.specs.declared.field_error.FieldError.TheVariants as fields
use Rattle.ens_base.specs.Results.{◌>>=◌}
use Rattle.fields.specs.Numbers.{byte_at, number_at}
use Rattle.tree_node.specs.declared.position.Position.{Position}
use Rattle.tree_node.specs.declared.version.TreeVersion.{TreeVersion}
use Rattle.tree_node.specs.declared.node.InnerNode.{InnerNode}
use Rattle.tree_node.specs.declared.node.Segment.{Segment}
use Rattle.tree_node.specs.declared.error.NodeError.{NodeError}
use Rattle.tree_node.specs.declared.error.NodeError.TheVariants.{Short, Trailing, Order, Position as OtherPosition, Memory, BadTag}
use Rattle.tree_node.specs.TreeVersions.{inner_tag, segment_tag}
use Rattle.tree_node.specs.Positions.{IsPosition, position_spelling, any_position_at, same_position}
use Rattle.tree_node.specs.Entries.{AreEntries, entries_spelling, entries_at, AreDigests, digests_spelling, digests_at}

-- one digest for each bit of the mask, that of the lowest bit first
pub record IsInner (n : InnerNode) : Type 0 where
  pub position : IsPosition n.version n.position
  pub mask : n.mask < 2 ^ 16
  pub each : length n.digests ≡ count_ones n.mask
  pub digests : AreDigests n.digests

-- the tag, the position, the mask, and the digests
abbrev pub inner_spelling : InnerNode → List ℕ
inner_spelling n = inner_tag n.version ∷ [] ++ position_spelling n.position ++ big_bytes 2 n.mask ++ digests_spelling n.digests

-- entries whose keys ascend strictly
pub record IsSegment (s : Segment) : Type 0 where
  pub position : IsPosition s.version s.position
  pub few : length s.entries < 2 ^ 32
  pub entries : AreEntries s.entries

-- the tag, the position, four bytes for how many entries, and the entries
abbrev pub segment_spelling : Segment → List ℕ
segment_spelling s = segment_tag s.version ∷ [] ++ position_spelling s.position ++ big_bytes 4 (length s.entries) ++ entries_spelling s.entries

-- the same answer of a field that has no rule of its own
abbrev pub ended : {X : Type 0} → Result X FieldError → Result X NodeError
ended (Ok x) = Ok x
ended (Err (fields.Short at)) = Err Short
ended (Err (fields.Rule at)) = Err Short
ended (Err fields.Memory) = Err Memory

-- the same answer of entries, whose rules are those of their order
abbrev pub ordered : {X : Type 0} → Result X FieldError → Result X NodeError
ordered (Ok x) = Ok x
ordered (Err (fields.Short at)) = Err Short
ordered (Err (fields.Rule at)) = Err Order
ordered (Err fields.Memory) = Err Memory

-- the five bytes of a position, which must be the one asked for
unfoldable pub asked_at : Position → List ℕ → ℕ → Result (Position × ℕ) NodeError
asked_at asked bytes at = do
  position ← ended (any_position_at bytes at)
  if same_position position.0 asked then Ok position else Err OtherPosition

-- what follows the tag of an inner node
unfoldable pub inner_fields_at : TreeVersion → Position → List ℕ → ℕ → Result (InnerNode × ℕ) NodeError
inner_fields_at v asked bytes at = do
  position ← asked_at asked bytes at
  mask ← ended (number_at 2 bytes position.1)
  digests ← ended (digests_at (count_ones mask.0) bytes mask.1)
  Ok (record { version = v; position = position.0; mask = mask.0; digests = digests.0 }, digests.1)

-- the inner node of this position in the tree of this version
unfoldable pub inner_at : TreeVersion → Position → List ℕ → ℕ → Result (InnerNode × ℕ) NodeError
inner_at v asked bytes at = do
  tag ← ended (byte_at bytes at)
  if tag.0 == inner_tag v then inner_fields_at v asked bytes tag.1 else Err BadTag

-- what follows the tag of a segment
unfoldable pub segment_fields_at : TreeVersion → Position → List ℕ → ℕ → Result (Segment × ℕ) NodeError
segment_fields_at v asked bytes at = do
  position ← asked_at asked bytes at
  count ← ended (number_at 4 bytes position.1)
  entries ← ordered (entries_at count.0 bytes count.1)
  Ok (record { version = v; position = position.0; entries = entries.0 }, entries.1)

-- the segment of this position in the tree of this version
unfoldable pub segment_at : TreeVersion → Position → List ℕ → ℕ → Result (Segment × ℕ) NodeError
segment_at v asked bytes at = do
  tag ← ended (byte_at bytes at)
  if tag.0 == segment_tag v then segment_fields_at v asked bytes tag.1 else Err BadTag

-- what was read, if it is all there is
abbrev pub all_of : {X : Type 0} → Result (X × ℕ) NodeError → ℕ → Result X NodeError
all_of (Ok x) size = if x.1 == size then Ok x.0 else Err Trailing
all_of (Err e) size = Err e

-- the node of this position that the bytes spell, or the first fault from the left
abbrev pub inner_of : TreeVersion → Position → List ℕ → Result InnerNode NodeError
inner_of v asked bytes = all_of (inner_at v asked bytes 0) (length bytes)

abbrev pub segment_of : TreeVersion → Position → List ℕ → Result Segment NodeError
segment_of v asked bytes = all_of (segment_at v asked bytes 0) (length bytes)

abbrev pub Fails : {X : Type 0} → NodeError → Result X NodeError → Type 0
Fails Memory read = Unit {0}
Fails e read = read ≡ Err e

-- a call answered what reading gives, unless memory ran out
abbrev pub Answers : {X : Type 0} → Result X NodeError → Result X NodeError → Type 0
Answers (Ok x) read = read ≡ Ok x
Answers (Err e) read = Fails e read
