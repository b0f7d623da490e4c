-- A source and a sink in memory: what each call did.
use Rattle.std.specs.Prelude.{◌≡◌, ◌⊎◌, ℕ, ◌+◌, ◌-◌, min, List, ◌++◌, Result, Ok, Err, Contains, length, take}
use Rattle.ens_base.specs.Causes.{counted}
use Rattle.ens_base.specs.declared.failed.Failed.{Failed}
use Rattle.environment.specs.Written.{IsWithoutRoom}
use Rattle.environment.specs.declared.memory.MemSource.{MemSource}
use Rattle.environment.specs.declared.memory.MemSink.{MemSink}

-- the next read is listed to fail
abbrev pub ReadFails : MemSource → Type 0
ReadFails s = Contains s.failing.items (counted s.calls)

-- a read fails exactly if it is listed, and then only counts a fault; otherwise it takes as many
-- bytes as there is room for and as are left
abbrev pub ReadDid : MemSource → ℕ → Result ℕ Failed → MemSource → Type 0
ReadDid s room (Ok n) t = ¬ ReadFails s × (n ≡ min room (length s.bytes.items - s.at)) × (t.at ≡ s.at + n) × (t.faults ≡ s.faults)
ReadDid s room (Err e) t = ReadFails s × (t.at ≡ s.at) × (t.faults ≡ counted s.faults)

-- what each read leaves: the bytes and the list of failures stay, and the call is counted
pub record IsAfterRead (s t : MemSource) : Type 0 where
  pub bytes : t.bytes ≡ s.bytes
  pub failing : t.failing ≡ s.failing
  pub calls : t.calls ≡ counted s.calls

-- the next write is listed to fail, or there is no room for it
abbrev pub WriteFails : MemSink → List ℕ → Type 0
WriteFails s bytes = Contains s.failing.items (counted s.calls) ⊎ IsWithoutRoom s.room s.bytes.items bytes

-- a write fails exactly if it is listed or without room, and then only counts a fault; otherwise it
-- appends as many bytes as there is room for
abbrev pub WriteDid : MemSink → List ℕ → Result ℕ Failed → MemSink → Type 0
WriteDid s bytes (Ok n) t = ¬ WriteFails s bytes × (n ≡ min (length bytes) (s.room - length s.bytes.items)) × (t.bytes.items ≡ s.bytes.items ++ take n bytes) × (t.faults ≡ s.faults)
WriteDid s bytes (Err e) t = WriteFails s bytes × (t.bytes ≡ s.bytes) × (t.faults ≡ counted s.faults)

-- what each write leaves: the room and the list of failures stay, and the call is counted
pub record IsAfterWrite (s t : MemSink) : Type 0 where
  pub room : t.room ≡ s.room
  pub failing : t.failing ≡ s.failing
  pub calls : t.calls ≡ counted s.calls
