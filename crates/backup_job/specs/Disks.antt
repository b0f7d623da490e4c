-- The disks of nodes and of objects, and what a job on them leaves.
use Rattle.std.specs.Prelude.{◌≡◌, ◌≢◌, ◌⊎◌, ◌≤◌, ℕ, List, ◌++◌, Option, None, Some, Result, Ok, Err}
use Rattle.ens_base.specs.Causes.{Rose}
use Rattle.slot_disk.specs.Crash.{SeenIn, Told}
use Rattle.environment.specs.Maps.{Entries}
use Rattle.environment.specs.MemStores.{Held}
use Rattle.disk_stores.specs.LogFiles.{IsClean}
use Rattle.disk_stores.specs.Records.{IsWhole, entries_of}
use Rattle.disk_stores.specs.DiskCalls.{HoldsNodes, HoldsObjects}
use Rattle.disk_stores.specs.NodeMaps.{nodes_of}
use Rattle.tree_backup.specs.declared.error.BackupError.{BackupError}
use Rattle.tree_backup.specs.declared.error.BackupError.TheVariants.{Failed}
use Rattle.backup_job.specs.declared.disks.Logs.{Logs}
use Rattle.backup_job.specs.declared.disks.Pair.{Pair}

-- these two disks are there
abbrev pub AreBoth : {D : Type 0} → (nodes objects : Option D) → Pair D → Type 0
AreBoth nodes objects pair = (nodes ≡ Some pair.nodes) × (objects ≡ Some pair.objects)

-- the two disks are there, before and after, and they changed so
abbrev pub Between : {D : Type 0} → (nodes objects nodes_after objects_after : Option D) → (Pair D → Pair D → Type 0) → Type 0
Between {D} nodes objects nodes_after objects_after P = (old : Pair D) × (new : Pair D) × AreBoth nodes objects old × AreBoth nodes_after objects_after new × P old new

-- the map is as it was
abbrev pub Same : {A : Type 0} → A → A → Type 0
Same old new = new ≡ old

-- The file begins with records that give such a map. The bytes behind them are those of calls that failed.
pub record Leads {A : Type 0} (view : List ℕ → A) (P : A → Type 0) (file : List ℕ) : Type 0 where
  pub prefix : List ℕ
  pub rest : List ℕ
  pub split : file ≡ prefix ++ rest
  pub whole : IsWhole prefix
  pub gives : P (view prefix)

-- the error with which a call ended, if it did
abbrev pub error_of : {T : Type 0} → Result T BackupError → Option BackupError
error_of (Ok x) = None
error_of (Err e) = Some e

-- The file gives such a map. After a failure of a disk it may only begin with records that give it.
abbrev pub Leaves : {A : Type 0} → Option BackupError → (List ℕ → A) → (A → Type 0) → List ℕ → Type 0
Leaves (Some Failed) view P file = P (view file) ⊎ Leads view P file
Leaves error view P file = P (view file)

module _ {D : Type 0} (seen : D → Option (List ℕ)) (faults : D → ℕ) where
  -- where a disk told its bytes, the map that it gives became such a one
  abbrev pub Became : {A : Type 0} → (List ℕ → A) → (A → A → Type 0) → D → D → Type 0
  Became view P old new = Told (seen old) (λ file. SeenIn seen new (λ after. P (view file) (view after)))

  -- the count of faults of one of the disks rose
  abbrev pub PairRose : Pair D → Pair D → Type 0
  PairRose old new = Rose (faults old.nodes) (faults new.nodes) ⊎ Rose (faults old.objects) (faults new.objects)

  -- What a job that ended with this error, or without one, made of the nodes and of the objects on two
  -- disks, where they tell their bytes. It failed only if a count of faults rose.
  pub record Changes (old new : Pair D) (error : Option BackupError) (Nodes : Held → Held → Type 0) (Objects : Entries → Entries → Type 0) : Type 0 where
    pub nodes : Told (seen old.nodes) (λ file. SeenIn seen new.nodes (Leaves error nodes_of (Nodes (nodes_of file))))
    pub objects : Told (seen old.objects) (λ file. SeenIn seen new.objects (Leaves error entries_of (Objects (entries_of file))))
    pub failed : error ≡ Some Failed → PairRose old new

  -- the stores were opened on the disks, and hold what these held
  pub record Opened (disks : Pair D) (logs : Logs D) : Type 0 where
    pub nodes : Told (seen disks.nodes) (λ file. HoldsNodes seen logs.tree.store (nodes_of file))
    pub objects : Told (seen disks.objects) (λ file. HoldsObjects seen logs.backend (entries_of file))
    pub clean : IsClean logs.tree.store.log.file × IsClean logs.backend.log.file
    pub later : (faults disks.nodes ≤ faults logs.tree.store.log.file.disk) × (faults disks.objects ≤ faults logs.backend.log.file.disk)

  -- what a call that ended with this error, or without one, made of the stores
  pub record ChangesLogs (old new : Logs D) (error : Option BackupError) (Nodes : Held → Held → Type 0) (Objects : Entries → Entries → Type 0) : Type 0 where
    pub nodes : (held : Held) → HoldsNodes seen old.tree.store held → (after : Held) × HoldsNodes seen new.tree.store after × Nodes held after
    pub objects : (held : Entries) → HoldsObjects seen old.backend held → (after : Entries) × HoldsObjects seen new.backend after × Objects held after
    pub clean : error ≢ Some Failed → IsClean old.tree.store.log.file × IsClean old.backend.log.file → IsClean new.tree.store.log.file × IsClean new.backend.log.file
    pub failed : error ≡ Some Failed → Rose (faults old.tree.store.log.file.disk) (faults new.tree.store.log.file.disk) ⊎ Rose (faults old.backend.log.file.disk) (faults new.backend.log.file.disk)

  -- the stores were closed, and their disks give what they held, unless a call had failed
  pub record Closed (logs : Logs D) (disks : Pair D) : Type 0 where
    pub same : (disks.nodes ≡ logs.tree.store.log.file.disk) × (disks.objects ≡ logs.backend.log.file.disk)
    pub nodes : (held : Held) → HoldsNodes seen logs.tree.store held → IsClean logs.tree.store.log.file → SeenIn seen disks.nodes (λ file. nodes_of file ≡ held)
    pub objects : (held : Entries) → HoldsObjects seen logs.backend held → IsClean logs.backend.log.file → SeenIn seen disks.objects (λ file. entries_of file ≡ held)
