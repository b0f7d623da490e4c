-- Trees that show a map or are blind. A tree that is opened under a seal has no root if its top record is
-- another digest, and one may be opened in another version than that of its root; then each walk meets damage
-- at the root.
use Rattle.std.specs.Prelude.{◌≡◌, ◌<◌, ◌^◌, ◌⊎◌, ℕ, true, List, Option, None, Some, Result, Ok, Err, length}
use Rattle.ens_base.specs.declared.entry.Entry.{Entry}
use Rattle.fields.specs.Entries.{IsEntry}
use Rattle.world_spec.specs.Answers.{answered}
use Rattle.world_spec.specs.Held.{Held}
use Rattle.step_plans.specs.Calls.{Call, OpenTree, Find, Enter, ScanTree, ReadNode}
use Rattle.step_plans.specs.declared.error.PeerError.{PeerError}
use Rattle.step_plans.specs.declared.walked.Walked.{Walked}
use Rattle.step_plans.specs.declared.walked.Walked.TheVariants.{Reached, Broken}
use Rattle.synctree.specs.Entries.{lookup, put}
use Rattle.synctree.specs.Paths.{node_of}
use Rattle.synctree.specs.Sixteen.{form_of}
use Rattle.tree_node.specs.Positions.{IsPosition}
use Rattle.tree_node.specs.declared.body.Scan.{Scan}
use Rattle.tree_node.specs.declared.position.Position.{Position}
use Rattle.tree_node.specs.declared.version.TreeVersion.{TreeVersion}
use Rattle.tree_node.specs.declared.version.TreeVersion.TheVariants.{Two}
use Rattle.tree_repair.specs.Scans.{lost}
use Rattle.world_stores.specs.Nodes.{top_of}
use Rattle.peer_refinement.specs.TreeLaws.{IsReached, IsScanned, KeepsRoot}
use Rattle.peer_refinement.specs.Tops.{IsNamed, IsWritten, IsTorn, tops_of}
use Rattle.peer_refinement.specs.Trees.{AreAmong, AreFree, Shows, form_in}
use Rattle.peer_refinement.specs.Whole.{IsRecorded}

-- the root names the map in another version than the one in which the tree is opened
pub record IsForeign (h : Held) (m : List Entry) : Type 0 where
  pub digest : List ℕ
  pub top : h.stores.tree.top ≡ Some digest
  pub named : IsNamed h.hashed digest m
  pub other : named.tree ≡ h.stores.tree.version → ⊥

-- the tree has no root that can be read in its version
abbrev pub IsBlind : Held → List Entry → Type 0
IsBlind h m = (h.stores.tree.top ≡ None) ⊎ IsForeign h m

-- the tree is blind, or shows the map
abbrev pub Sees : Held → List Entry → Type 0
Sees h m = IsBlind h m ⊎ Shows h m

abbrev pub SeesEntries : Type 0
SeesEntries = (strings : List (List ℕ)) (h : Held) (m : List Entry) (key : List ℕ) → AreFree strings → AreAmong (answered (Find key) h).held.hashed strings → Sees h m → IsReached (lookup key m) (answered (Find key) h).result

-- a node of the tree of the map, which the peer's tree shows; or a position does not verify
abbrev pub IsShown : Held → List Entry → Position → Result (Walked (Option (List ℕ))) PeerError → Type 0
IsShown h m at (Ok (Reached node)) = (node ≡ node_of (form_in h) at m) × Shows h m
IsShown h m at (Ok (Broken p)) = Unit {0}
IsShown h m at (Err e) = ⊥

abbrev pub SeesNodes : Type 0
SeesNodes = (strings : List (List ℕ)) (h : Held) (m : List Entry) (at : Position) → AreFree strings → AreAmong (answered (ReadNode at) h).held.hashed strings → Sees h m → IsPosition h.stores.tree.version at → IsShown h m at (answered (ReadNode at) h).result

-- the path of each key goes through a damaged position
abbrev pub LosesAll : Scan → Type 0
LosesAll scan = (key : List ℕ) → lost (form_of Two) scan.damaged key ≡ true

-- the entries of the map without those below damaged positions; the tree shows the map, or they are all
abbrev pub IsSeen : Held → List Entry → Result Scan PeerError → Type 0
IsSeen h m (Ok scan) = IsScanned m (Ok scan) × (LosesAll scan ⊎ Shows h m)
IsSeen h m (Err e) = ⊥

abbrev pub SeesMaps : Type 0
SeesMaps = (strings : List (List ℕ)) (h : Held) (m : List Entry) → AreFree strings → AreAmong (answered ScanTree h).held.hashed strings → Sees h m → IsSeen h m (answered ScanTree h).result

-- how an entering ends
abbrev pub EndsEntered : Entry → List Entry → Held → Result (Walked (Unit {0})) PeerError → Held → Type 0
EndsEntered e m h (Ok (Reached done)) t = IsWritten (put e m) h t
EndsEntered e m h (Ok (Broken at)) t = Sees t m × (tops_of t.stores ≡ tops_of h.stores)
EndsEntered e m h (Err error) t = IsTorn (put e m) h error t

abbrev pub SeesEntered : Type 0
SeesEntered = (strings : List (List ℕ)) (h : Held) (m : List Entry) (e : Entry) → AreFree strings → AreAmong (answered (Enter e) h).held.hashed strings → Sees h m → IsEntry e → length (put e m) < 2 ^ 32 → EndsEntered e m h (answered (Enter e) h).result (answered (Enter e) h).held

-- a call that gives the tree no other root leaves it so
abbrev pub KeepsSight : Type 0
KeepsSight = (call : Call) (h : Held) (m : List Entry) → KeepsRoot call → Sees h m → Sees (answered call h).held m

-- a tree that is opened under a seal which names the map, in either version: its root is the seal if the
-- top record is, and it has no root otherwise
pub record HasUnsealed (seal : List ℕ) (m : List Entry) (t : Held) : Type 0 where
  pub sees : Sees t m
  pub root : (t.stores.tree.top ≡ None) ⊎ (t.stores.tree.top ≡ Some seal)

abbrev pub OpensSealed : Type 0
OpensSealed = (tree : TreeVersion) (h : Held) (m : List Entry) (seal : List ℕ) → IsNamed h.hashed seal m
    → ((answered (OpenTree (Some seal) tree) h).result ≡ Ok tt) × HasUnsealed seal m (answered (OpenTree (Some seal) tree) h).held × (tops_of (answered (OpenTree (Some seal) tree) h).held.stores ≡ tops_of h.stores)

-- a tree that is opened without a seal, in either version: its root is the top record
pub record HasOpened (m : List Entry) (h t : Held) : Type 0 where
  pub sees : Sees t m
  pub recorded : IsRecorded t
  pub tops : tops_of t.stores ≡ tops_of h.stores

abbrev pub OpensRecorded : Type 0
OpensRecorded = (tree : TreeVersion) (h : Held) (m : List Entry) (digest : List ℕ) → top_of (tops_of h.stores) ≡ Some digest → IsNamed h.hashed digest m → ((answered (OpenTree None tree) h).result ≡ Ok tt) × HasOpened m h (answered (OpenTree None tree) h).held

-- a tree is opened in the version that was asked for
abbrev pub OpensIn : Type 0
OpensIn = (seal : Option (List ℕ)) (tree : TreeVersion) (h : Held) → (answered (OpenTree seal tree) h).held.stores.tree.version ≡ tree
