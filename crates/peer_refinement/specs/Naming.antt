-- Which object an entry of a tree names: the one that the book gives to the version of the entry.
use Rattle.std.specs.Prelude.{◌≡◌, ℕ, true, List, Option, None, Some}
use Rattle.md5.specs.Md5.{md5}
use Rattle.ens_base.specs.Lists.{◌∈◌}
use Rattle.ens_base.specs.declared.entry.Entry.{Entry}
use Rattle.ens_base.specs.declared.epoch.Version.{Version}
use Rattle.stored_formats.specs.Objects.{IsObject, object_spelling}
use Rattle.stored_formats.specs.declared.object.Object.{Object}
use Rattle.object_commands.specs.Kept.{object_in, matching}
use Rattle.protocol_laws.specs.Book.{version_of}
use Rattle.protocol_laws.specs.Protocol.{State}
use Rattle.role_laws.specs.Leaders.{IsObjectOf}
use Rattle.role_laws.specs.Tables.{Ghosts}
use Rattle.leader_refinement.specs.Seen.{rank, content_of}

-- ## Strings and digests

-- the spelling of the object with these parts
abbrev pub object_string : Version → List ℕ → Version → Option (List ℕ) → List ℕ
object_string version key stamp value = object_spelling (record { version = version; stamp = stamp; key = key; value = value })

-- its digest
abbrev pub hash_of : Version → List ℕ → Version → Option (List ℕ) → List ℕ
hash_of version key stamp value = md5 (object_string version key stamp value)

-- ## Versions and entries

-- the object of a version: its key, with the stamp and the content that the book has
abbrev pub object_of_version : State → Version → Object
object_of_version s v = record { version = v; stamp = s.book.stamp (rank v); key = s.objects.key (rank v); value = s.book.content (rank v) }

abbrev pub version_string : State → Version → List ℕ
version_string s v = object_spelling (object_of_version s v)

-- the version was proposed, its object obeys the grammar, and the object's string was hashed
pub record VersionSays (s : State) (strings : List (List ℕ)) (v : Version) : Type 0 where
  pub proposed : s.objects.proposed (rank v) ≡ true
  pub object : IsObject (object_of_version s v)
  pub hashed : version_string s v ∈ strings

-- an entry of a tree: such a version, with its key and the digest of its object
pub record EntrySays (s : State) (strings : List (List ℕ)) (e : Entry) : Type 0 where
  pub version : VersionSays s strings e.version
  pub key : e.key ≡ s.objects.key (rank e.version)
  pub digest : e.digest ≡ md5 (version_string s e.version)

abbrev pub EntryMaySay : State → List (List ℕ) → Option Entry → Type 0
EntryMaySay s strings None = Unit {0}
EntryMaySay s strings (Some e) = EntrySays s strings e

-- ## Objects that an entry names

-- the object is that of the entry's version, and the entry has its key and its digest
pub record Names (s : State) (e : Entry) (o : Object) : Type 0 where
  pub version : o.version ≡ e.version
  pub key : o.key ≡ e.key
  pub digest : e.digest ≡ hash_of o.version o.key o.stamp o.value
  pub object : IsObjectOf s (rank e.version) (content_of o)

-- an object that a backend kept: it was decoded from bytes that were hashed, and comes with their
-- digest
pub record IsDecoded (strings : List (List ℕ)) (kept : Object × List ℕ) : Type 0 where
  pub bytes : List ℕ
  pub hashed : bytes ∈ strings
  pub decodes : object_in bytes ≡ Some kept.0
  pub digest : kept.1 ≡ md5 bytes

abbrev pub MayBeDecoded : List (List ℕ) → Option (Object × List ℕ) → Type 0
MayBeDecoded strings None = Unit {0}
MayBeDecoded strings (Some kept) = IsDecoded strings kept

-- what a peer has of an entry: the object that its backend kept, if the entry names it
abbrev pub IsMatched : List (List ℕ) → Option Entry → Option Object → Type 0
IsMatched strings None object = object ≡ None
IsMatched strings (Some e) object = (kept : Option (Object × List ℕ)) × MayBeDecoded strings kept × (object ≡ matching e kept)

-- the object that came with an entry, if the entry names it
abbrev pub IsConfirmed : List (List ℕ) → Option Entry → Option Object → Option Object → Type 0
IsConfirmed strings None object named = named ≡ None
IsConfirmed strings (Some e) None named = named ≡ None
IsConfirmed strings (Some e) (Some o) named = IsObject o × (object_spelling o ∈ strings) × (named ≡ matching e (Some (o, md5 (object_spelling o))))

-- what a leader finds in its own backend: if the version was settled under the key and has this
-- digest, the object is that of the version
abbrev pub KeptIs : Ghosts → State → List ℕ → Object × List ℕ → Type 0
KeptIs g s key kept =
    let u = rank kept.0.version in kept.0.key ≡ key → s.objects.settled u ≡ true → s.objects.key u ≡ key
    → kept.1 ≡ g.hash (version_of u) key (s.book.stamp u) (s.book.content u) → IsObjectOf s u (content_of kept.0)
