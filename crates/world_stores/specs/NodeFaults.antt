-- What a line that damages a node changes in the stored nodes.
use Rattle.std.specs.Prelude.{ℕ, List, Option, None, Some}
use Rattle.environment.specs.Maps.{Entries, with_value}
use Rattle.tree_node.specs.declared.position.Position.{Position}
use Rattle.tree_node.specs.declared.version.TreeVersion.{TreeVersion}
use Rattle.synctree.specs.Sixteen.{form_of}
use Rattle.world_stores.specs.Maps.{without}
use Rattle.world_stores.specs.Nodes.{Nodes}
use Rattle.world_stores.specs.Naming.{named_at}

-- the position of this level and index
abbrev pub place_at : ℕ → ℕ → Position
place_at level index = record { level = level; index = index }

-- the map with these bytes under the digest, or without the digest
abbrev pub replaced : List ℕ → Option (List ℕ) → Entries → Entries
replaced digest None es = without digest es
replaced digest (Some bytes) es = with_value digest bytes es

-- the map after the node under this digest, if a digest is named, was replaced or removed
abbrev pub replaced_if : Option (List ℕ) → Option (List ℕ) → Entries → Entries
replaced_if None bytes es = es
replaced_if (Some digest) bytes es = replaced digest bytes es

-- the nodes of a tree of this version after the one that they name at a position was replaced by these
-- bytes, or removed
abbrev pub spoiled_node : TreeVersion → Position → Option (List ℕ) → Nodes → Nodes
spoiled_node tree at bytes s = record s { entries = replaced_if (named_at (form_of tree) s at) bytes s.entries }
