-- The map that a tree over nodes in memory shows.
use Rattle.std.specs.Prelude.{◌≡◌, ℕ, List, Some}
use Rattle.ens_base.specs.declared.entry.Entry.{Entry}
use Rattle.ens_base.specs.Lists.{◌∈◌}
use Rattle.world_spec.specs.Held.{Held}
use Rattle.md5.specs.Md5.{md5}
use Rattle.synctree.specs.declared.tree.Tree.{Tree}
use Rattle.synctree.specs.Forms.{Form, root}
use Rattle.synctree.specs.Maps.{IsNode, Stands}
use Rattle.synctree.specs.Sixteen.{form_of}
use Rattle.world_stores.specs.Nodes.{Nodes}

-- no two different strings of the list have one MD5
abbrev pub AreFree : List (List ℕ) → Type 0
AreFree strings = (a b : List ℕ) → a ∈ strings → b ∈ strings → md5 a ≡ md5 b → a ≡ b

-- each string of the one list is in the other
abbrev pub AreAmong : List (List ℕ) → List (List ℕ) → Type 0
AreAmong xs ys = (s : List ℕ) → s ∈ xs → s ∈ ys

-- the map stands under the root of the tree, in the version of the tree, and the text of each of its nodes was
-- hashed
pub record TreeShows (hashed : List (List ℕ)) (t : Tree Nodes) (m : List Entry) : Type 0 where
  pub digest : List ℕ
  pub top : t.top ≡ Some digest
  pub stands : Stands (form_of t.version) digest m
  pub texts : (s : List ℕ) → IsNode (form_of t.version) (form_of t.version).depth root m s → s ∈ hashed

-- the form of the tree of the peer
abbrev pub form_in : Held → Form
form_in h = form_of h.stores.tree.version

-- the tree of the peer shows the map
abbrev pub Shows : Held → List Entry → Type 0
Shows h m = TreeShows h.hashed h.stores.tree m
