-- The map that a log stands for.
use Rattle.std.specs.Prelude.{◌≡◌, ◌≤◌, ◌+◌, ℕ, List, length, take, drop, Option, None, Some, Result, Ok, Err}
use Rattle.std.specs.HashMap.{HashMap, get}
use Rattle.ens_base.specs.Lists.{same_bytes}
use Rattle.environment.specs.Maps.{Entries, value_at}
use Rattle.environment.specs.declared.errors.StoreError.{StoreError}
use Rattle.environment.specs.declared.errors.StoreError.TheVariants.{Failed, Memory}
use Rattle.ens_base.specs.Causes.{Rose}
use Rattle.ens_base.specs.declared.refused.Refused.{Refused}
use Rattle.disk_stores.specs.Records.{entries_of, IsWhole}
use Rattle.disk_stores.specs.LogFiles.{Begins}
use Rattle.disk_stores.specs.Recents.{Remembers}
use Rattle.disk_stores.specs.declared.place.Place.{Place}
use Rattle.disk_stores.specs.declared.log.Log.{Log}

-- a place in these bytes, if there is one, holds this content, if there is some
abbrev pub IsAt : List ℕ → Option Place → Option (List ℕ) → Type 0
IsAt bytes None content = content ≡ None
IsAt bytes (Some p) content = (p.at + p.len ≤ length bytes) × (content ≡ Some (take p.len (drop p.at bytes)))

-- these bytes are whole records, and the index has the place of the content that counts for each name
pub record Indexes {S : Type 0} (places : HashMap (List ℕ) Place S) (bytes : List ℕ) : Type 0 where
  pub whole : IsWhole bytes
  pub each : (name : List ℕ) → IsAt bytes (get same_bytes places name) (value_at name (entries_of bytes))

-- a log on a disk that tells its bytes stands for this map
pub record Holds {D : Type 0} (seen : D → Option (List ℕ)) (log : Log D) (es : Entries) : Type 0 where
  pub bytes : List ℕ
  pub on : Begins seen log.file bytes
  pub indexed : Indexes log.places bytes
  pub recent : Remembers log.recent.slots.items es
  pub map : entries_of bytes ≡ es

-- the disk of an opened log, or the one that a failed call hands back
abbrev pub disk_after : {D : Type 0} → Result (Log D) (Refused D StoreError) → D
disk_after (Ok log) = log.file.disk
disk_after (Err refused) = refused.held

-- why a log was not opened: the disk failed, or out of memory, which leaves the count unchanged
abbrev pub IsOpenError : ℕ → ℕ → StoreError → Type 0
IsOpenError before now Failed = Rose before now
IsOpenError before now Memory = now ≡ before
