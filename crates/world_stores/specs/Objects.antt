-- The objects of a peer of a schedule: a finite map from keys to bytes.
use Rattle.std.specs.Prelude.{◌≡◌, Option, None, Some}
use Rattle.environment.specs.Failures.{left_by}
use Rattle.environment.specs.Maps.{Entries}
use Rattle.environment.specs.MemStores.{object_answer, objects_after}
use Rattle.environment.specs.Stores.{BackendCall, Get, Put, BackendAnswer}
use Rattle.environment.specs.declared.errors.StoreError.{StoreError}
use Rattle.environment.specs.declared.errors.StoreError.TheVariants.{Failed, Memory}
use Rattle.environment.specs.declared.memory.failing_call.Leaves.{Leaves}
use Rattle.world_stores.specs.Faults.{spent}
use Rattle.world_stores.specs.declared.faults.Faults.{Faults}

-- the objects, and the failures of the store
pub record Objects : Type 0 where
  pub entries : Entries
  pub faults : Faults

-- the failure that a call meets: a get meets none, and a put the one that waits
abbrev pub refusal : Objects → BackendCall → Option Leaves
refusal s (Get key) = None
refusal s (Put key bytes) = s.faults.pending

-- a call that meets no failure returns the answer from the objects, and takes effect
abbrev pub ObjectsDo : Objects → (call : BackendCall) → BackendAnswer call → Objects → Type 0
ObjectsDo s call answer t = (refusal s call ≡ None) × (answer ≡ object_answer s.entries call) × (t ≡ record s { entries = objects_after s.entries call })

-- a call that meets a failure has its effect or none; out of memory, nothing changes
abbrev pub ObjectsRefuse : Objects → BackendCall → StoreError → Objects → Type 0
ObjectsRefuse s call Failed t = (leaves : Leaves) × (refusal s call ≡ Some leaves) × (t ≡ record { entries = left_by leaves s.entries (objects_after s.entries call); faults = spent s.faults })
ObjectsRefuse s call Memory t = t ≡ s
