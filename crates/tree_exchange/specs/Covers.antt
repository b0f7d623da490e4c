-- When an ask covers a version: it is there already, or where it lies is still to be asked for.
use Rattle.std.specs.Prelude.{◌≡◌, ◌⊎◌, ℕ, true, List, [], ◌∷◌, Option, None, Some}
use Rattle.std.specs.List.{AllByRecursion}
use Rattle.ens_base.specs.declared.entry.Entry.{Entry}
use Rattle.ens_base.specs.declared.epoch.Version.{Version}
use Rattle.ens_base.specs.Epochs.{IsVersionBelow}
use Rattle.ens_base.specs.Lists.{◌∈◌}
use Rattle.tree_node.specs.declared.body.Scan.{Scan}
use Rattle.tree_node.specs.declared.body.TreeBody.{TreeBody}
use Rattle.tree_node.specs.declared.position.Position.{Position}
use Rattle.tree_node.specs.declared.version.TreeVersion.{TreeVersion}
use Rattle.tree_node.specs.Positions.{IsPosition}
use Rattle.synctree.specs.Entries.{IsMap}
use Rattle.synctree.specs.Forms.{root}
use Rattle.synctree.specs.Maps.{NodesApart}
use Rattle.synctree.specs.Paths.{passes, node_of}
use Rattle.synctree.specs.Sixteen.{form_of}
use Rattle.tree_exchange.specs.Asked.{Asked}
use Rattle.tree_exchange.specs.declared.question.Question.{Question}
use Rattle.tree_exchange.specs.Gives.{is_beyond, given}

abbrev pub IsAtLeast : Version → Version → Type 0
IsAtLeast v least = (v ≡ least) ⊎ IsVersionBelow least v

-- the entries have the key at this version or a greater one
abbrev pub Has : List Entry → List ℕ → Version → Type 0
Has [] key v = ⊥
Has (e ∷ es) key v = ((e.key ≡ key) × IsAtLeast e.version v) ⊎ Has es key v

-- the path of the key goes through the position
abbrev pub Passes : TreeVersion → List ℕ → Position → Type 0
Passes tree key at = passes (form_of tree) key at.level at.index ≡ true

-- the path of the key goes through one of the positions
abbrev pub PassesAny : TreeVersion → List ℕ → List Position → Type 0
PassesAny tree key [] = ⊥
PassesAny tree key (p ∷ ps) = Passes tree key p ⊎ PassesAny tree key ps

-- the path of the key goes through a position left to ask, and if that is the one of the open
-- question, the key is also past the last key received
abbrev pub IsLeft : TreeVersion → Option Question → List Position → List ℕ → Type 0
IsLeft tree None left key = ⊥
IsLeft tree (Some q) left key = (Passes tree key q.position × (is_beyond q.after key ≡ true)) ⊎ PassesAny tree key left

-- The ask covers the key at this version: the key is left to ask, or the entries received and the own
-- ones together have it at this version or a greater one.
abbrev pub Covers : TreeVersion → Asked → List Entry → List ℕ → Version → Type 0
Covers tree ask own key v = IsLeft tree ask.current ask.left key ⊎ (Has ask.received key v ⊎ Has own key v)

-- what a peer with this map sends for the question
abbrev pub give_of : TreeVersion → List Entry → Question → TreeBody
give_of tree m q = given tree (node_of (form_of tree) q.position m) q

-- The own node, if there was one, is that of the map, and the own scan has the entries of the map, but
-- for those whose paths go through a damaged position.
pub record IsOwn (tree : TreeVersion) (own : Option (List ℕ)) (scan : Scan) (at : Position) (m : List Entry) : Type 0 where
  pub is_map : IsMap m
  pub node : (own ≡ None) ⊎ (own ≡ node_of (form_of tree) at m)
  pub scanned : (e : Entry) → e ∈ m → ¬ PassesAny tree e.key scan.damaged → e ∈ scan.entries
  pub positions : AllByRecursion (IsPosition tree) scan.damaged

-- no node of one map has the digest of a different node of the other
abbrev pub AreApart : TreeVersion → List Entry → List Entry → Type 0
AreApart tree m n = NodesApart (form_of tree) (form_of tree).depth root m n
