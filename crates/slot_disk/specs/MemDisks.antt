-- The state of a disk in memory, as its calls see it.
use Rattle.std.specs.Prelude.{◌≡◌, ℕ, List}
use Rattle.ens_base.specs.Causes.{counted}
use Rattle.slot_disk.specs.Failing.{fate_of}
use Rattle.slot_disk.specs.Steps.{Deed, deeds, HasStep, HasRoom}
use Rattle.slot_disk.specs.declared.failing.Fate.{Fate}
use Rattle.slot_disk.specs.declared.memory.MemDisk.{MemDisk}

-- the calls that changed it, the oldest first
abbrev pub history : MemDisk → List Deed
history d = deeds d.log.items d.steps.items

-- the planned outcome of its next call
abbrev pub fate_next : MemDisk → Fate
fate_next d = fate_of d.failing.undone.items d.failing.done.items (counted d.calls)

-- there is room to record one more call
abbrev pub HasOneMore : MemDisk → Type 0
HasOneMore d = HasStep d.room d.steps.items

-- there is room for a write of n bytes at this place, and for its record
abbrev pub HasRoomFor : MemDisk → ℕ → ℕ → Type 0
HasRoomFor d at n = HasRoom d.room d.steps.items d.log.items at n

-- what a call never changes: the first bytes, the room, and the list of failures
pub record HasSameBase (old new : MemDisk) : Type 0 where
  pub first : new.first ≡ old.first
  pub room : new.room ≡ old.room
  pub failing : new.failing ≡ old.failing
