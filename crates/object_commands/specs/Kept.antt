-- What a backend keeps under a key, and whether it is the object that an entry of the tree names.
use Rattle.std.specs.Prelude.{ℕ, Bool, ◌&&◌, if◌then◌else◌, List, Option, Some, None}
use Rattle.std.specs.Result.{result_ok}
use Rattle.ens_base.specs.Epochs.{same_version}
use Rattle.ens_base.specs.Lists.{same_bytes}
use Rattle.ens_base.specs.declared.entry.Entry.{Entry}
use Rattle.stored_formats.specs.Objects.{object_of}
use Rattle.stored_formats.specs.declared.object.Object.{Object}

-- the object in these bytes, if they are one
abbrev pub object_in : List ℕ → Option Object
object_in bytes = result_ok (object_of bytes)

-- whether the entry names the object whose bytes have this digest
abbrev pub is_named : Entry → Object → List ℕ → Bool
is_named entry o digest = same_bytes o.key entry.key && same_version o.version entry.version && same_bytes digest entry.digest

-- the object that the backend keeps, given with the digest of its bytes, if the entry names it
abbrev pub matching : Entry → Option (Object × List ℕ) → Option Object
matching entry None = None
matching entry (Some kept) = if is_named entry kept.0 kept.1 then Some kept.0 else None

-- the entry that names the object whose bytes have this digest
abbrev pub entry_of : Object → List ℕ → Entry
entry_of o digest = record { key = o.key; version = o.version; digest = digest }
