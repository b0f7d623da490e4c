-- What a scan of a file finds.
use Rattle.std.specs.Prelude.{◌≡◌, ◌≤◌, ◌<◌, ◌+◌, ℕ, List, length, take, drop, Option, None, Some}
use Rattle.disk_stores.specs.Records.{Prefix, prefix_of, header_in}
use Rattle.disk_stores.specs.Logs.{Indexes}
use Rattle.disk_stores.specs.declared.header.Header.{Header}
use Rattle.disk_stores.specs.declared.scan.Found.{Found}
use Rattle.disk_stores.specs.declared.scan.Index.{Index}

-- the record found lies past this offset, and one byte follows its content within the file
abbrev pub IsWithin : (at size : ℕ) → Option Found → Type 0
IsWithin at size None = Unit {0}
IsWithin at size (Some f) = (at < f.place.at) × (f.place.at + f.place.len < size)

-- the record of this header at this offset, if so much of it is within the file
abbrev pub IsPlaced : Header → (at size : ℕ) → Option Found → Type 0
IsPlaced h at size None = size ≤ at + (10 + length h.name + h.len)
IsPlaced h at size (Some f) = (f.name ≡ h.name) × (f.place.at ≡ at + (10 + length h.name)) × (f.place.len ≡ h.len)

-- the record that the header at the front of the bytes from this offset on announces, if there is one
-- and the bytes may hold it
abbrev pub IsAnnounced : (at : ℕ) → List ℕ → Option Found → Type 0
IsAnnounced at bytes None = prefix_of bytes ≡ None
IsAnnounced at bytes (Some f) = (h : Header) × (header_in bytes ≡ Some h) × (f.name ≡ h.name) × (f.place.at ≡ at + (10 + length h.name)) × (f.place.len ≡ h.len)

-- the record at the front of the bytes from this offset on, if there is a whole one
abbrev pub IsNext : (at : ℕ) → List ℕ → Option Found → Type 0
IsNext at bytes None = prefix_of bytes ≡ None
IsNext at bytes (Some f) = (r : Prefix) × (prefix_of bytes ≡ Some r) × (f.name ≡ r.name) × (f.place.at ≡ at + (10 + length r.name)) × (f.place.len ≡ length r.content)

-- the index has the records of the file up to this offset
pub record IsScanned (file : List ℕ) (index : Index) : Type 0 where
  pub within : index.end ≤ length file
  pub indexed : Indexes index.places (take index.end file)

-- a scan found all records of the file
pub record ScansAll (file : List ℕ) (index : Index) : Type 0 where
  pub size : index.size ≡ length file
  pub scanned : IsScanned file index
  pub ended : prefix_of (drop index.end file) ≡ None
