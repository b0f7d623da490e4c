-- The trees that peers keep: inner nodes with sixteen children, on three or five levels by the version of
-- the tree, above its segments.
use Rattle.std.specs.Prelude.{ℕ, zero, suc, ◌+◌, ◌*◌, ◌/◌, ◌%◌, ◌==◌, List, [], ◌∷◌, Option, None, Some, Result, Ok, Err, slice_get, slice_index, drop, if◌then◌else◌}
use Rattle.md5.specs.Md5.{md5}
use Rattle.ens_base.specs.declared.entry.Entry.{Entry}
use Rattle.tree_node.specs.declared.position.Position.{Position}
use Rattle.tree_node.specs.declared.version.TreeVersion.{TreeVersion}
use Rattle.tree_node.specs.declared.node.InnerNode.{InnerNode}
use Rattle.tree_node.specs.declared.node.Segment.{Segment}
use Rattle.tree_node.specs.declared.error.NodeError.{NodeError}
use Rattle.tree_node.specs.TreeVersions.{levels}
use Rattle.tree_node.specs.Nodes.{inner_spelling, segment_spelling, inner_of, segment_of}
use Rattle.synctree.specs.Forms.{Form}

-- nibble `level` of a digest; the high nibble of a byte comes first
abbrev pub nibble : List ℕ → ℕ → ℕ
nibble digest level = if level % 2 == 0 then slice_index digest (level / 2) / 16 % 16 else slice_index digest (level / 2) % 16

abbrev pub has_child : Option (List ℕ) → ℕ
has_child None = 0
has_child (Some d) = 1

-- bit c says whether child c is present
abbrev pub mask_of : List (Option (List ℕ)) → ℕ
mask_of [] = 0
mask_of (c ∷ cs) = has_child c + 2 * mask_of cs

abbrev pub digests_of : List (Option (List ℕ)) → List (List ℕ)
digests_of [] = []
digests_of (None ∷ cs) = digests_of cs
digests_of (Some d ∷ cs) = d ∷ digests_of cs

-- n children: the digests belong to the children whose bits are set, the first to the lowest
abbrev pub spread : ℕ → ℕ → List (List ℕ) → List (Option (List ℕ))
spread zero mask ds = []
spread (suc n) mask ds = if mask % 2 == 1 then slice_get ds 0 ∷ spread n (mask / 2) (drop 1 ds) else None ∷ spread n (mask / 2) ds

-- the inner node with these children
abbrev pub inner_node : TreeVersion → Position → List (Option (List ℕ)) → InnerNode
inner_node v at cs = record { version = v; position = at; mask = mask_of cs; digests = digests_of cs }

-- the segment with these entries
abbrev pub segment : TreeVersion → Position → List Entry → Segment
segment v at es = record { version = v; position = at; entries = es }

-- the sixteen children of an inner node
unfoldable pub children_of : ℕ → List (List ℕ) → List (Option (List ℕ))
children_of mask ds = spread 16 mask ds

abbrev pub children_in : Result InnerNode NodeError → Option (List (Option (List ℕ)))
children_in (Ok n) = Some (children_of n.mask n.digests)
children_in (Err e) = None

abbrev pub entries_in : Result Segment NodeError → Option (List Entry)
entries_in (Ok s) = Some s.entries
entries_in (Err e) = None

-- the form of the tree of this version
unfoldable pub form_of : TreeVersion → Form
form_of v = record {
  width = 16;
  depth = levels v;
  digit = λ key level. nibble (md5 key) level;
  inner_text = λ at cs. inner_spelling (inner_node v at cs);
  inner_at = λ at bytes. children_in (inner_of v at bytes);
  segment_text = λ at es. segment_spelling (segment v at es);
  segment_at = λ at bytes. entries_in (segment_of v at bytes);
}
