-- The recorded calls of a disk in memory, and their effects.
use Rattle.std.specs.Prelude.{◌≡◌, ℕ, ◌+◌, ◌<◌, ◌≤◌, List, [], ◌∷◌, length, take, drop, reverse, Bool, true, nat_le, ◌&&◌}
use Rattle.slot_disk.specs.Crash.{written, Torn, Cut}
use Rattle.slot_disk.specs.declared.step.Step.{Step}
use Rattle.slot_disk.specs.declared.step.Step.TheVariants as steps
use Rattle.slot_disk.specs.declared.step.Room.{Room}

-- a call that changed a disk, with the bytes that it wrote
pub data Deed : Type 0 where
  Wrote : (at : ℕ) (bytes : List ℕ) → Deed
  CutTo : (len : ℕ) → Deed
  Synced : Deed

-- the call that a step stands for, given the log of all written bytes
abbrev pub deed_of : List ℕ → Step → Deed
deed_of log (steps.Write at from len) = Wrote at (take len (drop from log))
deed_of log (steps.Cut len) = CutTo len
deed_of log steps.Sync = Synced

-- the calls that the steps stand for
abbrev pub deeds : List ℕ → List Step → List Deed
deeds log [] = []
deeds log (s ∷ ss) = deed_of log s ∷ deeds log ss

-- the bytes of a write lie within the first `size` bytes of the log
abbrev pub is_within : ℕ → Step → Bool
is_within size (steps.Write at from len) = nat_le (from + len) size
is_within size (steps.Cut len) = true
is_within size steps.Sync = true

-- the bytes of each write lie within the first `size` bytes of the log
abbrev pub are_within : ℕ → List Step → Bool
are_within size [] = true
are_within size (s ∷ ss) = is_within size s && are_within size ss

-- the file that a read returns after these calls, given newest first
abbrev pub seen_of : List ℕ → List Deed → List ℕ
seen_of first [] = first
seen_of first (Wrote at bytes ∷ earlier) = written (seen_of first earlier) at bytes
seen_of first (CutTo len ∷ earlier) = take len (seen_of first earlier)
seen_of first (Synced ∷ earlier) = seen_of first earlier

-- what a crash may leave after these calls, given newest first
abbrev pub IsImage : List ℕ → List Deed → List ℕ → Type 0
IsImage first [] c = c ≡ first
IsImage first (Wrote at bytes ∷ earlier) c = (d : List ℕ) × IsImage first earlier d × Torn at (length bytes) d c
IsImage first (CutTo len ∷ earlier) c = (d : List ℕ) × IsImage first earlier d × Cut len d c
IsImage first (Synced ∷ earlier) c = c ≡ seen_of first earlier

-- what a crash may leave after these calls, given oldest first
abbrev pub Leaves : List ℕ → List Deed → List ℕ → Type 0
Leaves first all c = IsImage first (reverse all) c

-- what a crash may have left at some moment from t on
abbrev pub LeftSince : List ℕ → List Deed → ℕ → List ℕ → Type 0
LeftSince first all t c = (k : ℕ) × (t ≤ k) × (k ≤ length all) × Leaves first (take k all) c

-- there is room to record one more call
abbrev pub HasStep : Room → List Step → Type 0
HasStep room taken = length taken < room.calls

-- there is room for n bytes at this place, and to record their write
pub record HasRoom (room : Room) (taken : List Step) (log : List ℕ) (at n : ℕ) : Type 0 where
  pub step : HasStep room taken
  pub bytes : at + n ≤ room.bytes
  pub written : length log + n ≤ room.written
