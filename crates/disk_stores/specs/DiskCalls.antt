-- What the calls of stores on disks do, where the disks tell their bytes: what the same calls of a
-- finite map do.
use Rattle.std.specs.Prelude.{◌≡◌, ℕ, List, Option, Result, Ok, Err}
use Rattle.ens_base.specs.declared.refused.Refused.{Refused}
use Rattle.environment.specs.Maps.{Entries}
use Rattle.environment.specs.MemStores.{Held, object_answer, objects_after, node_answer, nodes_after}
use Rattle.environment.specs.Stores.{BackendCall, BackendAnswer, NodeCall, NodeAnswer}
use Rattle.environment.specs.declared.errors.StoreError.{StoreError}
use Rattle.environment.specs.declared.errors.StoreError.TheVariants.{Memory}
use Rattle.disk_stores.specs.LogFiles.{IsClean}
use Rattle.disk_stores.specs.Logs.{Holds}
use Rattle.disk_stores.specs.NodeMaps.{nodes_in}
use Rattle.disk_stores.specs.declared.backend.DiskBackend.{DiskBackend}
use Rattle.disk_stores.specs.declared.nodes.DiskNodes.{DiskNodes}

-- the objects on a disk that tells its bytes
abbrev pub HoldsObjects : {D : Type 0} → (D → Option (List ℕ)) → DiskBackend D → Entries → Type 0
HoldsObjects seen s es = Holds seen s.log es

-- a call that was done: its answer is that of the map, which changes as a finite map does
pub record ObjectsDo {D : Type 0} (seen : D → Option (List ℕ)) (s : DiskBackend D) (call : BackendCall) (answer : BackendAnswer call) (t : DiskBackend D) : Type 0 where
  pub answers : (es : Entries) → HoldsObjects seen s es → answer ≡ object_answer es call
  pub holds : (es : Entries) → HoldsObjects seen s es → HoldsObjects seen t (objects_after es call)
  pub clean : IsClean s.log.file → IsClean t.log.file

-- a call that was refused: the map is what it was, and when out of memory the file too
pub record ObjectsRefuse {D : Type 0} (seen : D → Option (List ℕ)) (s : DiskBackend D) (e : StoreError) (t : DiskBackend D) : Type 0 where
  pub holds : (es : Entries) → HoldsObjects seen s es → HoldsObjects seen t es
  pub memory : e ≡ Memory → t.log.file ≡ s.log.file

-- the nodes and the top record on a disk that tells its bytes
pub record HoldsNodes {D : Type 0} (seen : D → Option (List ℕ)) (s : DiskNodes D) (held : Held) : Type 0 where
  pub entries : Entries
  pub log : Holds seen s.log entries
  pub nodes : nodes_in entries ≡ held
  pub top : s.top ≡ held.top

-- the same of nodes
pub record NodesDo {D : Type 0} (seen : D → Option (List ℕ)) (s : DiskNodes D) (call : NodeCall) (answer : NodeAnswer call) (t : DiskNodes D) : Type 0 where
  pub answers : (held : Held) → HoldsNodes seen s held → answer ≡ node_answer held call
  pub holds : (held : Held) → HoldsNodes seen s held → HoldsNodes seen t (nodes_after held call)
  pub clean : IsClean s.log.file → IsClean t.log.file

pub record NodesRefuse {D : Type 0} (seen : D → Option (List ℕ)) (s : DiskNodes D) (e : StoreError) (t : DiskNodes D) : Type 0 where
  pub holds : (held : Held) → HoldsNodes seen s held → HoldsNodes seen t held
  pub memory : e ≡ Memory → t.log.file ≡ s.log.file

-- the disk of opened objects, or the one that a failed call hands back
abbrev pub objects_disk : {D : Type 0} → Result (DiskBackend D) (Refused D StoreError) → D
objects_disk (Ok s) = s.log.file.disk
objects_disk (Err refused) = refused.held

-- the same of nodes
abbrev pub nodes_disk : {D : Type 0} → Result (DiskNodes D) (Refused D StoreError) → D
nodes_disk (Ok s) = s.log.file.disk
nodes_disk (Err refused) = refused.held
