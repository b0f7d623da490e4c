-- The faults with which a peer ends, and their causes.
use Rattle.std.specs.Prelude.{◌≡◌, ◌⊎◌, ◌<◌, ℕ, ◌+◌, ◌-◌, ◌^◌, List, [], ◌∷◌, ◌++◌, codes, Option, Some, Err}
use Rattle.ens_base.specs.Causes.{Rose}
use Rattle.ens_base.specs.declared.status.Status.{Status}
use Rattle.ens_base.specs.declared.status.Status.TheVariants as statuses
use Rattle.environment.specs.declared.errors.LinkError.{LinkError}
use Rattle.environment.specs.declared.errors.LinkError.TheVariants as links
use Rattle.environment.specs.declared.errors.StoreError.{StoreError}
use Rattle.environment.specs.declared.errors.StoreError.TheVariants as stores
use Rattle.fact_store.specs.Files.{IsSpent, file_kept}
use Rattle.fact_store.specs.Keeping.{file_fact}
use Rattle.fact_store.specs.declared.error.KeepError.{KeepError}
use Rattle.fact_store.specs.declared.error.KeepError.TheVariants as keeps
use Rattle.fact_store.specs.declared.file.FactFile.{FactFile}
use Rattle.stored_formats.specs.declared.fact_error.FactError.{FactError}
use Rattle.slot_disk.specs.Slots.{current, last_serial}
use Rattle.step_plans.specs.declared.error.PeerError.{PeerError}
use Rattle.step_plans.specs.declared.error.PeerError.TheVariants as errors
use Rattle.peer_server.specs.declared.disks.Disks.{Disks}
use Rattle.peer_server.specs.declared.error.ServeError.{ServeError}
use Rattle.peer_server.specs.declared.error.ServeError.TheVariants as serves

-- the status of a fault
abbrev pub status_of : ServeError → Status
status_of serves.Store = statuses.StoreFault
status_of serves.Link = statuses.LinkFault
status_of serves.Memory = statuses.Memory

-- the status of a peer that did not start, or whose step was stopped
abbrev pub peer_status : PeerError → Status
peer_status errors.StoreFault = statuses.StoreFault
peer_status (errors.BadFact why) = statuses.StoreFault
peer_status errors.Halted = statuses.StoreFault
peer_status e = statuses.Memory

-- the same of a link, of an opened log, and of an opened file of facts
abbrev pub link_status : LinkError → Status
link_status links.Failed = statuses.LinkFault
link_status links.Memory = statuses.Memory

abbrev pub store_status : StoreError → Status
store_status stores.Failed = statuses.StoreFault
store_status stores.Memory = statuses.Memory

abbrev pub keep_status : KeepError → Status
keep_status keeps.Memory = statuses.Memory
keep_status e = statuses.StoreFault

-- the line that is printed after a fault
abbrev pub fault_text : Status → List ℕ
fault_text statuses.StoreFault = codes "store fault" ++ 10 ∷ []
fault_text statuses.LinkFault = codes "link fault" ++ 10 ∷ []
fault_text status = codes "memory" ++ 10 ∷ []

-- a change of a disk that is there
abbrev pub Between : {D : Type 0} → Option D → Option D → (D → D → Type 0) → Type 0
Between (Some d) (Some e) P = P d e
Between old new P = ⊥

-- the count of faults of a disk rose
abbrev pub DiskRose : {D : Type 0} → (D → ℕ) → Disks D → Disks D → Type 0
DiskRose faults old new =
    Between old.facts new.facts (λ d e. Rose (faults d) (faults e)) ⊎ (Between old.nodes new.nodes (λ d e. Rose (faults d) (faults e)) ⊎ Between old.objects new.objects (λ d e. Rose (faults d) (faults e)))

-- why the stores of a peer stopped its start: a disk failed, or the file of facts holds a record that is no
-- fact
abbrev pub IsStartCause : {D : Type 0} → (D → ℕ) → Disks D → Disks D → FactFile D → Type 0
IsStartCause faults old new file = DiskRose faults old new ⊎ ((why : FactError) × (file_kept file ≡ Some (Err why)))

-- why the stores of a peer failed after its start: a disk failed, or a save met the last serial number of the
-- file of facts
abbrev pub IsStoreCause : {D : Type 0} → (D → ℕ) → Disks D → Disks D → (before after : FactFile D) → Type 0
IsStoreCause faults old new before after = DiskRose faults old new ⊎ IsSpent before after

-- A disk of facts tells its bytes. They hold a fact, or no record, and so many saves do not reach the last
-- serial number.
pub record HasRoom {D : Type 0} (seen : D → Option (List ℕ)) (saves : ℕ) (disk : D) : Type 0 where
  pub bytes : List ℕ
  pub told : seen disk ≡ Some bytes
  pub fact : (why : FactError) → ¬ (file_fact bytes ≡ Some (Err why))
  pub room : last_serial (current bytes) + saves < 2 ^ 64 - 1

-- why a peer ended with this fault, for one of its stores and one of its link; memory may run out at
-- any time
abbrev pub IsCause : (stores link : Type 0) → Status → Type 0
IsCause stores link statuses.StoreFault = stores
IsCause stores link statuses.LinkFault = link
IsCause stores link statuses.Memory = Unit {0}
IsCause stores link status = ⊥
