-- The top records of a tree over nodes in memory, and what each call does to them.
use Rattle.std.specs.Prelude.{◌≡◌, ◌<◌, ◌^◌, ◌⊎◌, ℕ, List, [], ◌∷◌, ◌++◌, Result, Ok, Err, length}
use Rattle.ens_base.specs.declared.entry.Entry.{Entry}
use Rattle.ens_base.specs.Lists.{◌∈◌}
use Rattle.fields.specs.Entries.{IsEntry}
use Rattle.world_spec.specs.Answers.{answered}
use Rattle.world_spec.specs.Held.{Held, HeldStores}
use Rattle.step_plans.specs.Calls.{Call, FreshTree, Enter, Install}
use Rattle.step_plans.specs.declared.error.PeerError.{PeerError}
use Rattle.step_plans.specs.declared.error.PeerError.TheVariants.{StoreFault}
use Rattle.step_plans.specs.declared.walked.Walked.{Walked}
use Rattle.step_plans.specs.declared.walked.Walked.TheVariants.{Reached, Broken}
use Rattle.tree_node.specs.declared.version.TreeVersion.{TreeVersion}
use Rattle.synctree.specs.Entries.{IsMap, put}
use Rattle.synctree.specs.Forms.{root}
use Rattle.synctree.specs.Maps.{IsNode, Stands}
use Rattle.synctree.specs.Sixteen.{form_of}
use Rattle.peer_refinement.specs.TreeLaws.{KeepsRoot}
use Rattle.peer_refinement.specs.Trees.{AreAmong, AreFree, Shows}
use Rattle.peer_refinement.specs.Whole.{IsRecorded}

-- what the writes of the top record wrote, the oldest first
abbrev pub tops_of : HeldStores → List (List ℕ)
tops_of s = s.tree.store.tops

-- the map stands under the digest in a version of the tree, and the text of each of its nodes was hashed
pub record IsNamed (hashed : List (List ℕ)) (digest : List ℕ) (m : List Entry) : Type 0 where
  pub tree : TreeVersion
  pub stands : Stands (form_of tree) digest m
  pub texts : (node : List ℕ) → IsNode (form_of tree) (form_of tree).depth root m node → node ∈ hashed

-- one more top record was written, and it names the map
pub record NamesNext (m : List Entry) (h t : Held) : Type 0 where
  pub digest : List ℕ
  pub tops : tops_of t.stores ≡ tops_of h.stores ++ digest ∷ []
  pub named : IsNamed t.hashed digest m

-- the tree shows the map that the next top record names
pub record IsWritten (m : List Entry) (h t : Held) : Type 0 where
  pub next : NamesNext m h t
  pub shows : Shows t m
  pub recorded : IsRecorded t

-- a write of the tree was refused: no top record was written, or one that names the map
abbrev pub IsTorn : List Entry → Held → PeerError → Held → Type 0
IsTorn m h e t = (e ≡ StoreFault) × ((tops_of t.stores ≡ tops_of h.stores) ⊎ NamesNext m h t)

-- how an entering ends, also where a position of the path does not verify
abbrev pub HasEntered : Entry → List Entry → Held → Result (Walked (Unit {0})) PeerError → Held → Type 0
HasEntered e m h (Ok (Reached done)) t = IsWritten (put e m) h t
HasEntered e m h (Ok (Broken at)) t = Shows t m × (tops_of t.stores ≡ tops_of h.stores)
HasEntered e m h (Err error) t = IsTorn (put e m) h error t

abbrev pub EntersTops : Type 0
EntersTops = (strings : List (List ℕ)) (h : Held) (m : List Entry) (e : Entry) → AreFree strings → AreAmong (answered (Enter e) h).held.hashed strings → Shows h m → IsEntry e → length (put e m) < 2 ^ 32 → HasEntered e m h (answered (Enter e) h).result (answered (Enter e) h).held

-- how a tree is built, from all its entries
abbrev pub HasBuilt : List Entry → Held → Result (Unit {0}) PeerError → Held → Type 0
HasBuilt m h (Ok done) t = IsWritten m h t
HasBuilt m h (Err error) t = IsTorn m h error t

abbrev pub InstallsTops : Type 0
InstallsTops = (h : Held) (entries : List Entry) → IsMap entries → HasBuilt entries h (answered (Install entries) h).result (answered (Install entries) h).held

abbrev pub MakesTops : Type 0
MakesTops = (tree : TreeVersion) (h : Held) → HasBuilt [] h (answered (FreshTree tree) h).result (answered (FreshTree tree) h).held

-- a call that gives the tree no other root writes no top record, and leaves the root recorded
abbrev pub KeepsTops : Type 0
KeepsTops = (call : Call) (h : Held) → KeepsRoot call → (tops_of (answered call h).held.stores ≡ tops_of h.stores) × (IsRecorded h → IsRecorded (answered call h).held)
