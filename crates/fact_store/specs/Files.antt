-- A fact file: what it keeps, and what a load and a save do to it.
use Rattle.std.specs.Prelude.{◌≡◌, ◌⊎◌, ◌+◌, ◌-◌, ◌^◌, ◌<◌, min, ℕ, List, Option, Some, Result, Ok, Err}
use Rattle.ens_base.specs.Causes.{counted, Rose}
use Rattle.slot_disk.specs.Crash.{LeavesOnly, SeenIn}
use Rattle.slot_disk.specs.Slots.{record_in, last_serial}
use Rattle.slot_disk.specs.SlotFiles.{remembered, IsAtRest}
use Rattle.ens_base.specs.declared.refused.Refused.{Refused}
use Rattle.stored_formats.specs.declared.saved.SavedFact.{SavedFact}
use Rattle.stored_formats.specs.declared.fact_error.FactError.{FactError}
use Rattle.fact_store.specs.Keeping.{KeeperCall, KeeperAnswer, Load, Save, IsOldOrNewIn, IsBad, fact_in}
use Rattle.fact_store.specs.declared.error.KeepError.{KeepError}
use Rattle.fact_store.specs.declared.error.KeepError.TheVariants as errors
use Rattle.fact_store.specs.declared.file.FactFile.{FactFile}

-- the disk that an opened file holds, or that a failed call hands back
abbrev pub disk_after : {D : Type 0} → Result (FactFile D) (Refused D KeepError) → D
disk_after (Ok file) = file.slots.disk
disk_after (Err refused) = refused.held

-- the fact in the current slot
abbrev pub file_kept : {D : Type 0} → FactFile D → Option (Result SavedFact FactError)
file_kept f = fact_in (record_in (remembered f.slots))

-- the last serial number
abbrev pub file_serial : {D : Type 0} → FactFile D → ℕ
file_serial f = last_serial (remembered f.slots)

-- the faults of the disk, and one for each save after the last serial number; at most the greatest
-- u64
abbrev pub file_faults : {D : Type 0} → (D → ℕ) → FactFile D → ℕ
file_faults faults f = min (faults f.slots.disk + f.spent) (2 ^ 64 - 1)

-- a save of a file at rest: a crash at any moment of it leaves the old fact or this one, and so does
-- a read after it
pub record Replaces {D : Type 0} (seen : D → Option (List ℕ)) (may_leave : D → List ℕ → Type 0) (moment : D → ℕ) (left_since : D → ℕ → List ℕ → Type 0) (fact : SavedFact) (f g : FactFile D) : Type 0 where
  pub any_moment : IsAtRest seen may_leave f.slots → LeavesOnly moment left_since f.slots.disk g.slots.disk (IsOldOrNewIn (file_kept f) fact)
  pub seen_too : IsAtRest seen may_leave f.slots → SeenIn seen g.slots.disk (IsOldOrNewIn (file_kept f) fact)

-- a save that succeeded: the fact is kept with the next serial number, a file at rest is at rest
-- again, and no fault is counted
pub record Saved {D : Type 0} (seen : D → Option (List ℕ)) (may_leave : D → List ℕ → Type 0) (faults : D → ℕ) (fact : SavedFact) (f g : FactFile D) : Type 0 where
  pub kept : file_kept g ≡ Some (Ok fact)
  pub serial : file_serial g ≡ file_serial f + 1
  pub room : file_serial f < 2 ^ 64 - 1
  pub at_rest : IsAtRest seen may_leave f.slots → IsAtRest seen may_leave g.slots
  pub spent : g.spent ≡ f.spent
  pub good : faults g.slots.disk ≡ faults f.slots.disk

-- after the last serial number a save leaves the slot file as it was, and counts one fault
pub record IsSpent {D : Type 0} (f g : FactFile D) : Type 0 where
  pub last : file_serial f ≡ 2 ^ 64 - 1
  pub slots : g.slots ≡ f.slots
  pub counts : g.spent ≡ counted f.spent

-- before it a save fails only where the disk failed, and counts no fault of its own
pub record DiskFailed {D : Type 0} (faults : D → ℕ) (f g : FactFile D) : Type 0 where
  pub before_last : file_serial f < 2 ^ 64 - 1
  pub rose : Rose (faults f.slots.disk) (faults g.slots.disk)
  pub spent : g.spent ≡ f.spent

-- what a call may be answered with: a load changes nothing
abbrev pub FileAnswers : {D : Type 0} → (D → Option (List ℕ)) → (D → List ℕ → Type 0) → (D → ℕ) → (D → ℕ → List ℕ → Type 0) → (D → ℕ) → FactFile D → (call : KeeperCall) → KeeperAnswer call → FactFile D → Type 0
FileAnswers seen may_leave moment left_since faults f Load answer g = g ≡ f
FileAnswers seen may_leave moment left_since faults f (Save fact) answer g = Saved seen may_leave faults fact f g × Replaces seen may_leave moment left_since fact f g

-- what a call that failed may leave: a load fails only if the kept bytes are not a fact, and changes
-- nothing; after a save the file goes on with the old fact
abbrev pub FileRefuses : {D : Type 0} → (D → Option (List ℕ)) → (D → List ℕ → Type 0) → (D → ℕ) → (D → ℕ → List ℕ → Type 0) → (D → ℕ) → FactFile D → KeeperCall → KeepError → FactFile D → Type 0
FileRefuses seen may_leave moment left_since faults f Load e g = IsBad e × (g ≡ f)
FileRefuses seen may_leave moment left_since faults f (Save fact) errors.Failed g = (IsSpent f g ⊎ DiskFailed faults f g) × (file_kept g ≡ file_kept f) × Replaces seen may_leave moment left_since fact f g
FileRefuses seen may_leave moment left_since faults f (Save fact) e g = ⊥
