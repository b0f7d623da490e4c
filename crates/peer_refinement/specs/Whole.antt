-- What the calls of a step answer over a whole tree: each node of its map is stored, and no failure
-- waits in the stores of the peer. No walk of such a tree meets damage.
use Rattle.std.specs.Prelude.{◌≡◌, ◌<◌, ◌^◌, ℕ, List, [], None, Some, Ok, length}
use Rattle.ens_base.specs.declared.entry.Entry.{Entry}
use Rattle.ens_base.specs.Lists.{◌∈◌}
use Rattle.fields.specs.Entries.{IsEntry}
use Rattle.environment.specs.Maps.{Entries, value_at, with_value}
use Rattle.world_spec.specs.Answers.{Answered, answered, with_facts, with_backend}
use Rattle.world_spec.specs.Held.{Held, HeldStores, and_hashed}
use Rattle.md5.specs.Md5.{md5}
use Rattle.tree_node.specs.declared.version.TreeVersion.{TreeVersion}
use Rattle.world_stores.specs.Laws.{HoldsMap}
use Rattle.step_plans.specs.Calls.{Call, Load, Save, FreshTree, OpenTree, Find, Enter, ScanTree, ReadNode, Install, Fetch, Put, Hash}
use Rattle.step_plans.specs.declared.walked.Walked.TheVariants.{Reached}
use Rattle.synctree.specs.Entries.{IsMap, lookup, put}
use Rattle.synctree.specs.Forms.{root}
use Rattle.synctree.specs.Maps.{IsNode}
use Rattle.synctree.specs.Paths.{node_of}
use Rattle.synctree.specs.Sixteen.{form_of}
use Rattle.tree_node.specs.Positions.{IsPosition}
use Rattle.tree_node.specs.declared.position.Position.{Position}
use Rattle.world_stores.specs.Nodes.{top_of}
use Rattle.peer_refinement.specs.TreeLaws.{KeepsRoot}
use Rattle.peer_refinement.specs.Trees.{AreAmong, AreFree, Shows, form_in}

-- the bytes are stored under their MD5
abbrev pub IsStored : Entries → List ℕ → Type 0
IsStored entries bytes = value_at (md5 bytes) entries ≡ Some bytes

-- no failure waits in any store of the peer
pub record HasNoFaults (s : HeldStores) : Type 0 where
  pub facts : s.facts.faults.pending ≡ None
  pub backend : s.backend.faults.pending ≡ None
  pub tree : s.tree.store.faults.pending ≡ None

-- the tree of the peer shows the map, each node of the map is stored, and no failure waits
pub record IsWhole (h : Held) (m : List Entry) : Type 0 where
  pub shows : Shows h m
  pub stored : (node : List ℕ) → IsNode (form_in h) (form_in h).depth root m node → IsStored h.stores.tree.store.entries node
  pub no_faults : HasNoFaults h.stores

-- a find returns the entry that the map has for the key, whatever strings were hashed
abbrev pub FindsAll : Type 0
FindsAll = (h : Held) (m : List Entry) (key : List ℕ) → IsWhole h m → (answered (Find key) h).result ≡ Ok (Reached (lookup key m))

-- and a read the text of the node at the position in the tree of the map, or none if the position
-- is empty there
abbrev pub ReadsAll : Type 0
ReadsAll = (h : Held) (m : List Entry) (at : Position) → IsPosition h.stores.tree.version at → IsWhole h m → (answered (ReadNode at) h).result ≡ Ok (Reached (node_of (form_in h) at m))

-- A scan returns all entries of the map, and no damage. Here and below, `strings` is any list that
-- has all strings hashed up to the end of the call.
abbrev pub ScansAll : Type 0
ScansAll = (strings : List (List ℕ)) (h : Held) (m : List Entry) → AreFree strings → AreAmong (answered ScanTree h).held.hashed strings → IsWhole h m → (answered ScanTree h).result ≡ Ok (record { entries = m; damaged = [] })

-- an entering puts its entry into the map, and stores the nodes of the new map; a text with the MD5
-- of a different one would take its place in the store
abbrev pub EntersAll : Type 0
EntersAll = (strings : List (List ℕ)) (h : Held) (m : List Entry) (e : Entry) → AreFree strings → AreAmong (answered (Enter e) h).held.hashed strings → IsEntry e → length (put e m) < 2 ^ 32 → IsWhole h m
    → ((answered (Enter e) h).result ≡ Ok (Reached tt)) × IsWhole (answered (Enter e) h).held (put e m)

-- an installed tree is whole, whatever tree was there
abbrev pub InstallsWhole : Type 0
InstallsWhole = (strings : List (List ℕ)) (h : Held) (entries : List Entry) → AreFree strings → AreAmong (answered (Install entries) h).held.hashed strings → IsMap entries → HasNoFaults h.stores
    → ((answered (Install entries) h).result ≡ Ok tt) × IsWhole (answered (Install entries) h).held entries

-- a fresh tree is whole, whatever tree was there and whatever strings were hashed
abbrev pub MakesWhole : Type 0
MakesWhole = (tree : TreeVersion) (h : Held) → HasNoFaults h.stores → ((answered (FreshTree tree) h).result ≡ Ok tt) × IsWhole (answered (FreshTree tree) h).held []

-- an opened tree is whole if a map stands under the top record in the version in which the tree is opened,
-- and each of its nodes is stored and was hashed, whatever tree was there
abbrev pub OpensWhole : Type 0
OpensWhole = (tree : TreeVersion) (h : Held) (m : List Entry) → HoldsMap (form_of tree) h.stores.tree.store m → ((node : List ℕ) → IsNode (form_of tree) (form_of tree).depth root m node → node ∈ h.hashed) → HasNoFaults h.stores
    → ((answered (OpenTree None tree) h).result ≡ Ok tt) × IsWhole (answered (OpenTree None tree) h).held m

-- the top record names the root of the tree
abbrev pub IsRecorded : Held → Type 0
IsRecorded h = top_of h.stores.tree.store.tops ≡ h.stores.tree.top

-- a call that opens no tree under a seal
abbrev pub LeavesRecord : Call → Type 0
LeavesRecord (OpenTree (Some seal) tree) = ⊥
LeavesRecord call = Unit {0}

-- each such call leaves it so, whatever strings were hashed
abbrev pub KeepsRecord : Type 0
KeepsRecord = (call : Call) (h : Held) → HasNoFaults h.stores → LeavesRecord call → IsRecorded h → IsRecorded (answered call h).held

-- a call that gives the tree no other root leaves it whole
abbrev pub KeepsWhole : Type 0
KeepsWhole = (call : Call) (h : Held) (m : List Entry) → KeepsRoot call → IsWhole h m → IsWhole (answered call h).held m

-- what a call does that does not speak to the tree: it is not refused, and a write takes effect
abbrev pub IsServed : (call : Call) → Held → Answered call → Type 0
IsServed Load h a = a ≡ record { result = Ok h.stores.facts.kept; held = h }
IsServed (Save fact) h a = a ≡ record { result = Ok tt; held = with_facts (record h.stores.facts { kept = Some fact }) h }
IsServed (Fetch key) h a = a ≡ record { result = Ok (value_at key h.stores.backend.entries); held = h }
IsServed (Put key bytes) h a = a ≡ record { result = Ok tt; held = with_backend (record h.stores.backend { entries = with_value key bytes h.stores.backend.entries }) h }
IsServed (Hash bytes) h a = a ≡ record { result = Ok (md5 bytes); held = and_hashed bytes h }
IsServed call h a = Unit {0}

-- so it is with each such call if no failure waits
abbrev pub ServesOthers : Type 0
ServesOthers = (call : Call) (h : Held) → HasNoFaults h.stores → IsServed call h (answered call h)
