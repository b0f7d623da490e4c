-- The positions that the path of a key goes through, and the part of a map below each.
use Rattle.std.specs.Prelude.{ℕ, zero, suc, ◌-◌, ◌/◌, ◌%◌, ◌==◌, ◌&&◌, Bool, true, List, [], ◌∷◌, Option, None, Some, filter}
use Rattle.ens_base.specs.declared.entry.Entry.{Entry}
use Rattle.tree_node.specs.declared.position.Position.{Position}
use Rattle.synctree.specs.Forms.{Form}
use Rattle.synctree.specs.Maps.{text}

-- The path of the key goes through the node of this level and index. Every path begins at the root,
-- and goes on from a node to the child that the key belongs to.
abbrev pub passes : Form → List ℕ → ℕ → ℕ → Bool
passes F key zero index = true
passes F key (suc level) index = passes F key level (index / F.width) && F.digit key level == index % F.width

-- the entries whose paths go through the position
abbrev pub under : Form → Position → List Entry → List Entry
under F at m = filter (λ e. passes F e.key at.level at.index) m

-- the text of the node at a position of the tree of a map
abbrev pub text_at : Form → Position → List Entry → List ℕ
text_at F at m = text F (F.depth - at.level) at (under F at m)

-- the text of a node with these entries below it; the root is always there, and another node only
-- if it has entries
abbrev pub present : ℕ → List Entry → List ℕ → Option (List ℕ)
present zero es t = Some t
present (suc level) [] t = None
present (suc level) (e ∷ es) t = Some t

-- the text of the node at a position of the tree of a map, or none if the position is empty
abbrev pub node_of : Form → Position → List Entry → Option (List ℕ)
node_of F at m = present at.level (under F at m) (text_at F at m)
