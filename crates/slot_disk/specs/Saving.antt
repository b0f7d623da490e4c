-- What a save does to a file of two slots.
use Rattle.std.specs.Prelude.{◌≡◌, ℕ, ◌+◌, ◌≤◌, ◌<◌, ◌^◌, List, length, Bool, true, [], ◌∷◌, if◌then◌else◌, Result, Err}
use Rattle.slot_disk.specs.Crash.{written}
use Rattle.slot_disk.specs.Slots.{start, slot, shut, current, last_serial, next_slot, shut_at, slot_at, other, body}
use Rattle.ens_base.specs.Causes.{Rose}
use Rattle.slot_disk.specs.declared.error.SlotError.{SlotError}
use Rattle.slot_disk.specs.declared.error.SlotError.TheVariants as errors
use Rattle.slot_disk.specs.declared.slot.Slot.{Slot}

-- the next save takes this slot, and `is_shut` is the state of its gate
pub record IsFree (file : List ℕ) (s : Slot) (is_shut : Bool) : Type 0 where
  pub next : next_slot (current file) ≡ s
  pub gate : is_shut ≡ shut_at file s

-- these bytes, after an open gate, make this record the current one
pub record IsBody (file bytes spelled : List ℕ) : Type 0 where
  pub spelled_so : spelled ≡ body (last_serial (current file) + 1) bytes
  pub short : length bytes ≤ 480
  pub serial : last_serial (current file) + 1 < 2 ^ 64

-- the file with the gate of a slot present and closed
abbrev pub with_gate_closed : List ℕ → Slot → Bool → List ℕ
with_gate_closed file s is_shut = if is_shut then file else written file (start s) (0 ∷ [])

-- the other slot is unchanged since the first file
pub record IsKept (first : List ℕ) (s : Slot) (file : List ℕ) : Type 0 where
  pub held : slot_at file (other s) ≡ slot_at first (other s)
  pub gate : shut_at file (other s) ≡ shut_at first (other s)

-- the other slot is unchanged since the first file, and the gate of this slot is closed
pub record IsClosed (first : List ℕ) (s : Slot) (file : List ℕ) : Type 0 where
  pub kept : IsKept first s file
  pub closed : shut_at file s ≡ true

-- why a slot was not read: the disk failed, or out of memory, which leaves the count unchanged
abbrev pub IsReadError : ℕ → ℕ → SlotError → Type 0
IsReadError before now errors.Failed = Rose before now
IsReadError before now errors.Memory = now ≡ before
IsReadError before now e = ⊥

-- this holds unless the disk failed
abbrev pub UnlessFailed : {T : Type 0} → Result T SlotError → Type 0 → Type 0
UnlessFailed (Err errors.Failed) P = Unit {0}
UnlessFailed result P = P

-- these bytes determine what the slot holds, and its gate
pub record IsSlotOf (file : List ℕ) (s : Slot) (bytes : List ℕ) : Type 0 where
  pub held : slot bytes ≡ slot_at file s
  pub gate : shut bytes ≡ shut_at file s
