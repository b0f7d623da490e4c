-- Reading a node by its position, as a plan.
use Rattle.std.specs.Option.{is_some}
use Rattle.std.specs.Prelude.{◌≡◌, Ok, ℕ, zero, suc, ◌-◌, ◌/◌, ◌%◌, Bool, List, Option, None, Some, get_or, if◌then◌else◌}
use Rattle.ens_base.specs.declared.entry.Entry.{Entry}
use Rattle.synctree.specs.TreeNode.{Position}
use Rattle.synctree.specs.Forms.{Form, root}
use Rattle.synctree.specs.Maps.{AreApart, Stands}
use Rattle.synctree.specs.Paths.{node_of}
use Rattle.synctree.specs.Plans.{Call, AnswerOf, Plan, Done, Broken, ◌>>=◌, Ends}
use Rattle.synctree.specs.Walks.{fetch, open_node, onward, from_top}

-- the digest of child c of the inner node under the digest, if there is such a child
abbrev pub child_name : Form → Position → ℕ → List ℕ → Plan (Option (List ℕ))
child_name F at c digest = do
  names ← open_node (F.inner_at at) at digest
  Done (get_or names c None)

-- the digest of the node of this level and index, if there is such a node, in the tree whose root
-- has the digest
abbrev pub name_at : Form → List ℕ → ℕ → ℕ → Plan (Option (List ℕ))
name_at F digest zero index = Done (Some digest)
name_at F digest (suc level) index = do
  named ← name_at F digest level (index / F.width)
  onward None (child_name F (record { level = level; index = index / F.width }) (index % F.width)) named

-- whether the bytes encode a node of this position, with h levels below it
abbrev pub is_node : Form → ℕ → Position → List ℕ → Bool
is_node F zero at bytes = is_some (F.segment_at at bytes)
is_node F (suc h) at bytes = is_some (F.inner_at at bytes)

-- the bytes of the node under the digest
abbrev pub node_bytes : Form → Position → List ℕ → Plan (Option (List ℕ))
node_bytes F at digest = do
  bytes ← fetch at digest
  if is_node F (F.depth - at.level) at bytes then Done (Some bytes) else Broken at

-- the bytes of the node at a position of the tree whose root has the digest, or none if the position
-- is empty
abbrev pub node_under : Form → Position → List ℕ → Plan (Option (List ℕ))
node_under F at digest = name_at F digest at.level at.index >>= onward None (node_bytes F at)

-- the bytes of the node at a position, or none if the position is empty
abbrev pub node_plan : Form → Option (List ℕ) → Position → Plan (Option (List ℕ))
node_plan F top at = from_top top (node_under F at)

-- The plan of a node ended with these bytes, or with none. They are the text of the node of the map
-- that stands under the top record, and there are none exactly if the position is empty in its tree,
-- unless a string that was hashed has the digest of a different node of that map.
pub record Reads {S : Type 0} (does : S → (call : Call) → AnswerOf call → S → Type 0) (F : Form) (top : Option (List ℕ)) (at : Position) (s : S) (o : Option (List ℕ)) (t : S) : Type 0 where
  pub strings : List (List ℕ)
  pub ends : Ends does (node_plan F top at) s strings (Ok o) t
  pub answers : (digest : List ℕ) (m : List Entry) → top ≡ Some digest → Stands F digest m → AreApart strings F F.depth root m → o ≡ node_of F at m
