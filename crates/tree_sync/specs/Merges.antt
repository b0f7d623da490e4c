-- The merge of entries: the greatest of each key, in the order of the keys.
use Rattle.std.specs.Prelude.{◌≡◌, Bool, false, if◌then◌else◌, List, [], ◌∷◌}
use Rattle.std.specs.List.{fold}
use Rattle.std.specs.Ordering.{on, then_cmp, is_lt, match_ordering}
use Rattle.std.specs.declared.cmp.Ordering.{Ordering}
use Rattle.ens_base.specs.Epochs.{version_cmp}
use Rattle.ens_base.specs.Lists.{bytes_cmp, ◌∈◌}
use Rattle.ens_base.specs.declared.entry.Entry.{Entry}
use Rattle.tree_node.specs.Entries.{AreAbove}

-- by version, then by digest
abbrev pub rank_cmp : Entry → Entry → Ordering
rank_cmp = then_cmp (on (λ e. e.version) version_cmp) (on (λ e. e.digest) bytes_cmp)

-- whether the first entry is below the second
abbrev pub is_lower : Entry → Entry → Bool
is_lower a b = is_lt (rank_cmp a b)

-- the greater of two entries
abbrev pub greater : Entry → Entry → Entry
greater a b = if is_lower a b then b else a

-- one more entry; if there is one of its key, the greater of the two stays
abbrev pub with_entry : Entry → List Entry → List Entry
with_entry e [] = e ∷ []
with_entry e (x ∷ xs) = match_ordering (bytes_cmp e.key x.key) (e ∷ x ∷ xs) (greater x e ∷ xs) (x ∷ with_entry e xs)

-- these entries besides
abbrev pub with_entries : List Entry → List Entry → List Entry
with_entries merged es = fold (λ m e. with_entry e m) merged es

-- the merge of entries
abbrev pub merged : List Entry → List Entry
merged es = with_entries [] es

-- the keys ascend strictly
abbrev pub Ascend : List Entry → Type 0
Ascend [] = Unit {0}
Ascend (e ∷ es) = AreAbove e.key es

-- an entry of the same key that is not lower
pub record Exceeds (m e : Entry) : Type 0 where
  pub key : m.key ≡ e.key
  pub not_lower : is_lower m e ≡ false

-- what a merge holds: one entry of each key, which is one of the entries, and which none of them
-- exceeds
pub record IsMerge (es m : List Entry) : Type 0 where
  pub ascend : Ascend m
  pub from : (e : Entry) → e ∈ m → e ∈ es
  pub greatest : (e : Entry) → e ∈ es → (g : Entry) × (g ∈ m) × Exceeds g e
