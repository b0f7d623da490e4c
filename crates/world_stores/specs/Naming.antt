-- The digests that the stored nodes of a tree name. No digest is compared with the bytes under it.
use Rattle.std.specs.Prelude.{ℕ, zero, suc, ◌+◌, ◌*◌, ◌/◌, ◌%◌, ◌==◌, if◌then◌else◌, List, [], ◌∷◌, Option, None, Some, get_or}
use Rattle.std.specs.Option.{option_and_then}
use Rattle.environment.specs.Maps.{Entries, value_at}
use Rattle.tree_node.specs.declared.position.Position.{Position}
use Rattle.tree_node.specs.declared.version.TreeVersion.{TreeVersion}
use Rattle.tree_node.specs.declared.version.TreeVersion.TheVariants.{One, Two}
use Rattle.tree_node.specs.TreeVersions.{inner_tag}
use Rattle.synctree.specs.Forms.{Form}
use Rattle.world_stores.specs.Nodes.{Nodes, top_of}

-- the digest of child c in bytes that encode the inner node of this position; none if there is no
-- such child, or the bytes encode no such node
abbrev pub child_in : Form → Position → ℕ → List ℕ → Option (List ℕ)
child_in F at c bytes = option_and_then (λ names. get_or names c None) (F.inner_at at bytes)

-- the same of the bytes stored under a digest; none if nothing is stored there
abbrev pub child_under : Form → Entries → Position → ℕ → List ℕ → Option (List ℕ)
child_under F entries at c digest = option_and_then (child_in F at c) (value_at digest entries)

-- the digest named at this level and index: at the root the top record names it, and below the root
-- the stored parent
abbrev pub named_in : Form → Nodes → ℕ → ℕ → Option (List ℕ)
named_in F s zero index = top_of s.tops
named_in F s (suc level) index = option_and_then (child_under F s.entries (record { level = level; index = index / F.width }) (index % F.width)) (named_in F s level (index / F.width))

-- the digest named at a position
abbrev pub named_at : Form → Nodes → Position → Option (List ℕ)
named_at F s at = named_in F s at.level at.index

-- the index of the node of this level on the path of a key
abbrev pub index_of : Form → List ℕ → ℕ → ℕ
index_of F key zero = 0
index_of F key (suc level) = F.width * index_of F key level + F.digit key level

-- the position of the segment of a key
abbrev pub segment_place : Form → List ℕ → Position
segment_place F key = record { level = F.depth; index = index_of F key F.depth }

-- the version of the tree whose root has these bytes, as the first of them tells: version one, but where it
-- is the tag of an inner node of version two
abbrev pub version_of_root : Option (List ℕ) → TreeVersion
version_of_root None = One
version_of_root (Some []) = One
version_of_root (Some (tag ∷ bytes)) = if tag == inner_tag Two then Two else One

-- the version of the tree in these nodes, as the root that is stored under the top record tells
abbrev pub version_in : Nodes → TreeVersion
version_in s = version_of_root (option_and_then (λ top. value_at top s.entries) (top_of s.tops))
