-- At the end of the turns the disks of the nodes and of the objects hold what the stores hold.
use Rattle.std.specs.Prelude.{Option, None, Some}
use Rattle.std.proofs.Common.{◌≡◌, ◌∙◌, ap, sym, subst, ℕ, List, length, arith}
use Rattle.std.proofs.lemmas.List.{take_all}
use Rattle.disk_stores.specs.LogFiles.{Begins, IsClean}
use Rattle.disk_stores.specs.Records.{entries_of}
use Rattle.disk_stores.specs.declared.file.LogFile.{LogFile}
use Rattle.disk_stores.specs.DiskCalls.{HoldsNodes, HoldsObjects, NodesDo}
use Rattle.disk_stores.specs.NodeMaps.{nodes_in, nodes_of}
use Rattle.disk_stores.specs.declared.backend.DiskBackend.{DiskBackend}
use Rattle.disk_stores.specs.declared.nodes.DiskNodes.{DiskNodes}
use Rattle.hash_book.specs.declared.plain.PlainHasher.{PlainHasher}
use Rattle.environment.specs.Maps.{Entries}
use Rattle.environment.specs.MemStores.{Held, nodes_after, objects_after}
use Rattle.environment.specs.Stores.{Get, Put as PutObject}
use Rattle.fact_store.specs.declared.delayed_fact.DelayedFact.{DelayedFact}
use Rattle.peer_core.specs.PeerStores.{Stores}
use Rattle.step_plans.specs.Calls.{Call, Load, Save, Fetch, Put, Hash, AnswerOf}
use Rattle.synctree.specs.Outsides.{outside_does}
use Rattle.synctree.specs.Plans as trees
use Rattle.synctree.specs.Plans.{Call as TreeCall, AnswerOf as TreeAnswer}
use Rattle.synctree.specs.declared.tree.Tree.{Tree}
use Rattle.peer_server.specs.DiskPeers.{KeepsNodes, KeepsObjects, OnDisks, disks_do}
use Rattle.peer_server.proofs.Walked.{tree_keeps}

-- the store of nodes holds a map, and its log ends with its file
pub record HasNodes {D : Type 0} (seen : D → Option (List ℕ)) (s : DiskNodes D) : Type 0 where
  pub held : Held
  pub holds : HoldsNodes seen s held
  pub clean : IsClean s.log.file

pub record HasObjects {D : Type 0} (seen : D → Option (List ℕ)) (s : DiskBackend D) : Type 0 where
  pub held : Entries
  pub holds : HoldsObjects seen s held
  pub clean : IsClean s.log.file

module _ {D : Type 0} (seen : D → Option (List ℕ)) where
  -- the file of a clean log is the log
  whole_file : (f : LogFile D) (bytes : List ℕ) → (on : Begins seen f bytes) → IsClean f → on.file ≡ bytes
  whole_file f bytes on clean = let size : length on.file ≡ f.end = on.clean clean in sym (take_all f.end on.file (omega (arith, size))) ∙ on.prefix

  pub nodes_kept : (s : DiskNodes D) → HasNodes seen s → KeepsNodes seen s
  nodes_kept s has = record {
    held = has.held;
    holds = has.holds;
    file = (has.holds.log.on.file, has.holds.log.on.told, ap nodes_of (whole_file s.log.file has.holds.log.bytes has.holds.log.on has.clean) ∙ ap nodes_in has.holds.log.map ∙ has.holds.nodes);
  }

  pub objects_kept : (s : DiskBackend D) → HasObjects seen s → KeepsObjects seen s
  objects_kept s has = record {
    held = has.held;
    holds = has.holds;
    file = (has.holds.on.file, has.holds.on.told, ap entries_of (whole_file s.log.file has.holds.bytes has.holds.on has.clean) ∙ has.holds.map);
  }

  module _ (faults : D → ℕ) where
    abbrev Does : OnDisks D → (call : Call) → AnswerOf call → OnDisks D → Type 0
    Does s call a t = disks_do seen faults s call a t

    -- what a call of the tree to the store of nodes and the hasher may be answered
    abbrev TreeDid : DiskNodes D × PlainHasher → (call : TreeCall) → TreeAnswer call → DiskNodes D × PlainHasher → Type 0
    TreeDid s call a t = outside_does (NodesDo seen) (λ n. Some n.top) (λ n. faults n.log.file.disk) (λ h. None) (λ h. 0) (λ h. 0) s call a t

    same_nodes : (s t : Tree (DiskNodes D)) → t ≡ s → HasNodes seen s.store → HasNodes seen t.store
    same_nodes s t same has = subst (λ (k : Tree (DiskNodes D)). HasNodes seen k.store) (sym same) has

    same_objects : (s t : DiskBackend D) → t ≡ s → HasObjects seen s → HasObjects seen t
    same_objects s t same has = subst (λ (k : DiskBackend D). HasObjects seen k) (sym same) has

    node_call_keeps : (s t : DiskNodes D × PlainHasher) (call : TreeCall) (a : TreeAnswer call) → TreeDid s call a t → HasNodes seen s.0 → HasNodes seen t.0
    node_call_keeps s t (trees.Node call) a did has = record { held = nodes_after has.held call; holds = did.0.holds has.held has.holds; clean = did.0.clean has.clean }
    node_call_keeps s t (trees.Hash bytes) a did has = subst (λ (k : DiskNodes D). HasNodes seen k) (sym did.0) has

    -- each call keeps the store of nodes such
    pub keeps_nodes : (s t : OnDisks D) (call : Call) (a : AnswerOf call) → Does s call a t → HasNodes seen s.0.tree.store → HasNodes seen t.0.tree.store
    keeps_nodes s t Load a did has = same_nodes s.0.tree t.0.tree did.3.1 has
    keeps_nodes s t (Save fact) a did has = same_nodes s.0.tree t.0.tree did.2.1 has
    keeps_nodes s t (Fetch key) a did has = same_nodes s.0.tree t.0.tree did.2.0 has
    keeps_nodes s t (Put key bytes) a did has = same_nodes s.0.tree t.0.tree did.2.0 has
    keeps_nodes s t (Hash bytes) a did has = same_nodes s.0.tree t.0.tree (ap (λ (k : Stores (DiskBackend D) (DiskNodes D) DelayedFact). k.tree) did.4) has
    keeps_nodes s t call a did has = tree_keeps TreeDid (λ (k : DiskNodes D × PlainHasher). HasNodes seen k.0) node_call_keeps (s.0.tree, s.1) (t.0.tree, t.1) call a did.0 has

    -- and that of objects
    pub keeps_objects : (s t : OnDisks D) (call : Call) (a : AnswerOf call) → Does s call a t → HasObjects seen s.0.backend → HasObjects seen t.0.backend
    keeps_objects s t Load a did has = same_objects s.0.backend t.0.backend did.3.0 has
    keeps_objects s t (Save fact) a did has = same_objects s.0.backend t.0.backend did.2.0 has
    keeps_objects s t (Fetch key) a did has = record { held = objects_after has.held (Get key); holds = did.0.holds has.held has.holds; clean = did.0.clean has.clean }
    keeps_objects s t (Put key bytes) a did has = record { held = objects_after has.held (PutObject key bytes); holds = did.0.holds has.held has.holds; clean = did.0.clean has.clean }
    keeps_objects s t (Hash bytes) a did has = same_objects s.0.backend t.0.backend (ap (λ (k : Stores (DiskBackend D) (DiskNodes D) DelayedFact). k.backend) did.4) has
    keeps_objects s t call a did has = same_objects s.0.backend t.0.backend did.1.3.0 has
