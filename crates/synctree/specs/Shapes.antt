-- The version of the tree that a store holds, as its root tells.
use Rattle.std.specs.Option.{is_some}
use Rattle.std.specs.Prelude.{◌≡◌, ℕ, Bool, List, Option, None, Some, Ok, if◌then◌else◌}
use Rattle.ens_base.specs.declared.entry.Entry.{Entry}
use Rattle.synctree.specs.TreeNode.{TreeVersion, One, Two, inner_of}
use Rattle.synctree.specs.Forms.{root}
use Rattle.synctree.specs.Maps.{AreApart, Stands}
use Rattle.synctree.specs.Sixteen.{form_of, children_in}
use Rattle.synctree.specs.Plans.{Call, AnswerOf, Plan, Ends}
use Rattle.synctree.specs.Walks.{open_node, from_top}

-- whether the bytes encode the root of a tree of this version
abbrev pub is_root : TreeVersion → List ℕ → Bool
is_root version bytes = is_some (children_in (inner_of version root bytes))

-- the version of the tree that the bytes encode the root of, if they encode one
abbrev pub version_in : List ℕ → Option TreeVersion
version_in bytes = if is_root One bytes then Some One else if is_root Two bytes then Some Two else None

-- the version of the tree whose root has the digest; the root must verify
abbrev pub shape_under : List ℕ → Plan TreeVersion
shape_under digest = open_node version_in root digest

-- the version of the tree under the top record
abbrev pub shape_plan : Option (List ℕ) → Plan TreeVersion
shape_plan top = from_top top shape_under

-- The plan ended with this version. If a map stands under the top record in some version, it is that
-- one, unless a string that was hashed has the digest of a different node of the map.
pub record Tells {S : Type 0} (does : S → (call : Call) → AnswerOf call → S → Type 0) (top : Option (List ℕ)) (s : S) (version : TreeVersion) (t : S) : Type 0 where
  pub strings : List (List ℕ)
  pub ends : Ends does (shape_plan top) s strings (Ok version) t
  pub tells : (v : TreeVersion) (digest : List ℕ) (m : List Entry) → top ≡ Some digest → Stands (form_of v) digest m → AreApart strings (form_of v) (form_of v).depth root m → version ≡ v
