-- When the stored nodes are those of a map.
use Rattle.std.specs.Prelude.{◌≡◌, ℕ, List, [], ◌∷◌, Option, Some}
use Rattle.std.specs.Option.{option_map}
use Rattle.md5.specs.Md5.{md5}
use Rattle.ens_base.specs.declared.entry.Entry.{Entry}
use Rattle.environment.specs.Maps.{Entries, value_at, with_value}
use Rattle.tree_node.specs.declared.position.Position.{Position}
use Rattle.synctree.specs.Forms.{Form, root}
use Rattle.synctree.specs.Maps.{IsNode, Stands}
use Rattle.synctree.specs.Paths.{node_of}
use Rattle.world_stores.specs.Nodes.{Nodes, top_of}

-- a map stands under the top record, and each of its nodes is stored under its MD5
pub record HoldsMap (F : Form) (s : Nodes) (m : List Entry) : Type 0 where
  pub top : List ℕ
  pub top_is : top_of s.tops ≡ Some top
  pub stands : Stands F top m
  pub stored : (node : List ℕ) → IsNode F F.depth root m node → value_at (md5 node) s.entries ≡ Some node

-- a store of these texts, each under its MD5
abbrev pub stored_all : List (List ℕ) → Entries
stored_all [] = []
stored_all (t ∷ ts) = with_value (md5 t) t (stored_all ts)

-- the MD5 of the node at a position of the tree of a map, or none if the position is empty
abbrev pub digest_of_node : Form → Position → List Entry → Option (List ℕ)
digest_of_node F at m = option_map md5 (node_of F at m)
