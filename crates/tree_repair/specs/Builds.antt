-- The plain build of a map: the nodes of its tree, the lowest level first.
use Rattle.std.specs.Prelude.{ℕ, zero, suc, ◌^◌, List, [], ◌∷◌, ◌++◌, Option, None, Some, map}
use Rattle.md5.specs.Md5.{md5}
use Rattle.ens_base.specs.declared.entry.Entry.{Entry}
use Rattle.tree_node.specs.declared.position.Position.{Position}
use Rattle.synctree.specs.Forms.{Form, root}
use Rattle.synctree.specs.Maps.{each_of, text}
use Rattle.synctree.specs.Paths.{node_of}
use Rattle.synctree.specs.declared.stored_node.StoredNode.{StoredNode}
use Rattle.tree_repair.specs.declared.built.Built.{Built}

-- the items that are there
abbrev pub somes : {A : Type 0} → List (Option A) → List A
somes [] = []
somes (None ∷ xs) = somes xs
somes (Some x ∷ xs) = x ∷ somes xs

-- the position with this index in a level
abbrev pub place : ℕ → ℕ → Position
place level index = record { level = level; index = index }

-- the node at each position of a level, from left to right, or none if the position is empty
abbrev pub level_of : Form → ℕ → List Entry → List (Option (List ℕ))
level_of F level m = each_of (λ i. node_of F (place level i) m) (F.width ^ level) 0

-- the nodes of a level and of the h levels below it, the lowest level first
abbrev pub nodes_down : Form → ℕ → ℕ → List Entry → List (List ℕ)
nodes_down F zero level m = somes (level_of F level m)
nodes_down F (suc h) level m = nodes_down F h (suc level) m ++ somes (level_of F level m)

-- the nodes of the whole tree, the root last
abbrev pub build_nodes : Form → List Entry → List (List ℕ)
build_nodes F m = nodes_down F F.depth 0 m

-- a node under its digest
abbrev pub stored : List ℕ → StoredNode
stored t = record { digest = md5 t; bytes = t }

-- the plain build of a map
abbrev pub build_of : Form → List Entry → Built
build_of F m = record { nodes = map stored (build_nodes F m); top = md5 (text F F.depth root m) }
