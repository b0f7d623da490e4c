-- What a slot file remembers of its disk.
use Rattle.std.specs.Prelude.{◌≡◌, ℕ, ◌-◌, ◌^◌, ◌<◌, ◌≤◌, List, Option, Some, None, Bool, Result, Ok, Err}
use Rattle.ens_base.specs.Causes.{Rose}
use Rattle.slot_disk.specs.Crash.{IsOn}
use Rattle.slot_disk.specs.Slots.{current, shut_at}
use Rattle.slot_disk.specs.Found.{kept_now}
use Rattle.slot_disk.specs.declared.error.SlotError.{SlotError}
use Rattle.slot_disk.specs.declared.error.SlotError.TheVariants as errors
use Rattle.ens_base.specs.declared.refused.Refused.{Refused}
use Rattle.slot_disk.specs.declared.slot.Slot.{Slot}
use Rattle.slot_disk.specs.declared.slot.Slot.TheVariants.{A, B}
use Rattle.slot_disk.specs.declared.slot_file.SlotFile.{SlotFile}

-- the current slot, its serial number and its record
abbrev pub remembered : {D : Type 0} → SlotFile D → Option (Slot × (ℕ × List ℕ))
remembered file = kept_now file.current file.content.bytes.items

-- the first for slot A, the second for slot B
abbrev pub for_slot : Bool → Bool → Slot → Bool
for_slot a b A = a
for_slot a b B = b

-- the gate of a slot is remembered as present and closed
abbrev pub remembers_shut : {D : Type 0} → SlotFile D → Slot → Bool
remembers_shut file s = for_slot file.a_is_shut file.b_is_shut s

-- the file is at rest: the disk holds what the file remembers, and a crash leaves exactly that
pub record IsAtRest {D : Type 0} (seen : D → Option (List ℕ)) (may_leave : D → List ℕ → Type 0) (file : SlotFile D) : Type 0 where
  pub bytes : List ℕ
  pub on : IsOn seen may_leave file.disk bytes
  pub now : remembered file ≡ current bytes
  pub gates : (s : Slot) → remembers_shut file s ≡ shut_at bytes s

-- the disk that an opened file holds, or that a failed call hands back
abbrev pub disk_after : {D : Type 0} → Result (SlotFile D) (Refused D SlotError) → D
disk_after (Ok file) = file.disk
disk_after (Err refused) = refused.held

-- why a record of this size was not saved, from the fault counts and the last serial number
abbrev pub IsSaveError : ℕ → ℕ → ℕ → ℕ → SlotError → Type 0
IsSaveError before now last size errors.Failed = (size ≤ 480) × (last < 2 ^ 64 - 1) × Rose before now
IsSaveError before now last size errors.TooLong = 480 < size
IsSaveError before now last size errors.Spent = (size ≤ 480) × (last ≡ 2 ^ 64 - 1)
IsSaveError before now last size e = ⊥

-- the result of loading a record that may be absent; `Memory` may always be returned
abbrev pub Loads : {V : Type 0} → (V → List ℕ) → Option (List ℕ) → Result V SlotError → Type 0
Loads view (Some bytes) (Ok v) = view v ≡ bytes
Loads view None (Ok v) = ⊥
Loads view held (Err errors.NoRecord) = held ≡ None
Loads view held (Err errors.Memory) = Unit {0}
Loads view held (Err e) = ⊥
