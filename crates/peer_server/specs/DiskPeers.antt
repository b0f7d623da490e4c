-- The stores of a peer on disks: what they may answer, and what their disks hold.
use Rattle.std.specs.Prelude.{◌≡◌, ℕ, List, Option, None, Some}
use Rattle.disk_stores.specs.DiskCalls.{HoldsNodes, HoldsObjects, NodesDo, NodesRefuse, ObjectsDo, ObjectsRefuse}
use Rattle.disk_stores.specs.NodeMaps.{nodes_of}
use Rattle.disk_stores.specs.declared.backend.DiskBackend.{DiskBackend}
use Rattle.disk_stores.specs.declared.nodes.DiskNodes.{DiskNodes}
use Rattle.disk_stores.specs.Records.{entries_of}
use Rattle.hash_book.specs.declared.plain.PlainHasher.{PlainHasher}
use Rattle.environment.specs.Maps.{Entries}
use Rattle.environment.specs.MemStores.{Held}
use Rattle.fact_store.specs.Held.{HeldAnswers, HeldRefuses, held_kept}
use Rattle.fact_store.specs.declared.delayed_fact.DelayedFact.{DelayedFact}
use Rattle.fact_store.specs.declared.file.FactFile.{FactFile}
use Rattle.peer_core.specs.PeerStores.{stores_do, stores_refuse, Stores}
use Rattle.slot_disk.specs.Crash.{SeenIn}
use Rattle.step_plans.specs.Calls.{Call, AnswerOf}
use Rattle.step_plans.specs.declared.error.PeerError.{PeerError}
use Rattle.peer_server.specs.declared.disks.Disks.{Disks}
use Rattle.peer_server.specs.declared.disks.Three.{Three}

-- the stores of a peer on disks, with the hasher; its fact is held in memory
abbrev pub OnDisks : Type 0 → Type 0
OnDisks D = Stores (DiskBackend D) (DiskNodes D) DelayedFact × PlainHasher

-- what a call of these stores may be answered
abbrev pub disks_do : {D : Type 0} → (D → Option (List ℕ)) → (D → ℕ) → OnDisks D → (call : Call) → AnswerOf call → OnDisks D → Type 0
disks_do seen faults =
    stores_do (ObjectsDo seen) (λ b. faults b.log.file.disk) (NodesDo seen) (λ n. Some n.top) (λ n. faults n.log.file.disk)
    (λ h call answer k. HeldAnswers h call answer k) held_kept (λ h. 0) (λ h. None) (λ h. 0) (λ h. 0)

-- what a refused call may leave
abbrev pub disks_refuse : {D : Type 0} → (D → Option (List ℕ)) → (D → ℕ) → OnDisks D → Call → PeerError → OnDisks D → Type 0
disks_refuse seen faults =
    stores_refuse (λ s call e t. ObjectsRefuse seen s e t) (λ b. faults b.log.file.disk) (NodesDo seen) (λ s call e t. NodesRefuse seen s e t) (λ n. Some n.top) (λ n. faults n.log.file.disk)
    (λ h call error k. HeldRefuses h call error k) held_kept (λ h. 0) (λ h. None) (λ h. 0) (λ h. 0)

-- the disks under these stores and this file of facts
abbrev pub disks_under : {D : Type 0} → Stores (DiskBackend D) (DiskNodes D) DelayedFact → FactFile D → Disks D
disks_under s file = record { facts = Some file.slots.disk; nodes = Some s.tree.store.log.file.disk; objects = Some s.backend.log.file.disk }

-- three disks that are there
abbrev pub all_there : {D : Type 0} → Three D → Disks D
all_there three = record { facts = Some three.facts; nodes = Some three.nodes; objects = Some three.objects }

-- a property of a disk that is there
abbrev pub Of : {D : Type 0} → Option D → (D → Type 0) → Type 0
Of None P = ⊥
Of (Some d) P = P d

-- the three disks are there
abbrev pub AreThere : {D : Type 0} → Disks D → Type 0
AreThere disks = Of disks.facts (λ d. Unit {0}) × Of disks.nodes (λ d. Unit {0}) × Of disks.objects (λ d. Unit {0})

-- the store of nodes holds some nodes and a top record, and the file of its disk holds just these
pub record KeepsNodes {D : Type 0} (seen : D → Option (List ℕ)) (s : DiskNodes D) : Type 0 where
  pub held : Held
  pub holds : HoldsNodes seen s held
  pub file : SeenIn seen s.log.file.disk (λ after. nodes_of after ≡ held)

-- the same of objects
pub record KeepsObjects {D : Type 0} (seen : D → Option (List ℕ)) (s : DiskBackend D) : Type 0 where
  pub held : Entries
  pub holds : HoldsObjects seen s held
  pub file : SeenIn seen s.log.file.disk (λ after. entries_of after ≡ held)
