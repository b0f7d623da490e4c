-- The records of a log. A record is the byte 1, the length of its name in one byte, the length of its
-- content in eight, the name, the content, and the byte 1.
use Rattle.std.specs.Prelude.{◌≡◌, ◌≤◌, ◌<◌, ◌^◌, ℕ, ◌+◌, zero, suc, List, [], ◌∷◌, ◌++◌, length, take, drop, Option, None, Some, Bool, false, ◌==◌, ◌&&◌, nat_le, if◌then◌else◌}
use Rattle.std.specs.Int.{w64, from_be_bytes, to_be_bytes}
use Rattle.disk_stores.specs.declared.header.Header.{Header}
use Rattle.environment.specs.Maps.{Entries, with_value}

-- a record at the front of some bytes: its name, its content, and the bytes after it
pub record Prefix : Type 0 where
  pub name : List ℕ
  pub content : List ℕ
  pub rest : List ℕ

-- the bytes of a record
abbrev pub record_bytes : List ℕ → List ℕ → List ℕ
record_bytes name content = 1 ∷ length name ∷ (to_be_bytes w64 (length content) ++ (name ++ (content ++ 1 ∷ [])))

-- the name of this length and the length of the content, if the bytes after the lengths hold the name
abbrev pub cut_header : Bool → (size len : ℕ) → List ℕ → Option Header
cut_header is_record size len bytes = if is_record && nat_le size (length bytes) then Some (record { name = take size bytes; len = len }) else None

-- the name and the length of the content of the record at the front, if these bytes hold them
abbrev pub header_in : List ℕ → Option Header
header_in (mark ∷ size ∷ a ∷ b ∷ c ∷ d ∷ e ∷ f ∷ g ∷ h ∷ bytes) =
    cut_header (mark == 1 && nat_le size 255) size (from_be_bytes w64 (a ∷ b ∷ c ∷ d ∷ e ∷ f ∷ g ∷ h ∷ [])) bytes
header_in short = None

-- these bytes begin with the byte 1
abbrev pub is_marked : List ℕ → Bool
is_marked [] = false
is_marked (byte ∷ bytes) = byte == 1

-- the record of this header at the front of these bytes, if they hold all its content and the byte 1
-- after it
abbrev pub with_header : Option Header → List ℕ → Option Prefix
with_header None bytes = None
with_header (Some h) bytes =
    if is_marked (drop (10 + length h.name + h.len) bytes)
    then Some (record { name = h.name; content = take h.len (drop (10 + length h.name) bytes); rest = drop (11 + length h.name + h.len) bytes })
    else None

-- the record at the front of these bytes, if there is a whole one
abbrev pub prefix_of : List ℕ → Option Prefix
prefix_of bytes = with_header (header_in bytes) bytes

-- the record, if there is one, and then those after it
abbrev pub and_then : Option Prefix → (List ℕ → Entries) → Entries
and_then None others = []
and_then (Some r) others = (r.name, r.content) ∷ others r.rest

-- the names and contents of the records of a file, at most so many
abbrev pub first_records : ℕ → List ℕ → Entries
first_records zero bytes = []
first_records (suc n) bytes = and_then (prefix_of bytes) (first_records n)

-- the names and contents of the records of a file, in order; the first that is not whole ends them
abbrev pub records_of : List ℕ → Entries
records_of file = first_records (length file) file

-- the map with these names and contents stored, one after the other
abbrev pub with_records : Entries → Entries → Entries
with_records es [] = es
with_records es (r ∷ rs) = with_records (with_value r.0 r.1 es) rs

-- the map that a file holds: of the records of one name the last counts
abbrev pub entries_of : List ℕ → Entries
entries_of file = with_records [] (records_of file)

-- these bytes are whole records: what follows them is read as if it stood alone
abbrev pub IsWhole : List ℕ → Type 0
IsWhole bytes = (rest : List ℕ) → records_of (bytes ++ rest) ≡ records_of bytes ++ records_of rest

-- the name is at most 255 bytes long, and the length of the content fits in eight bytes
abbrev pub FitsRecord : List ℕ × List ℕ → Type 0
FitsRecord r = (length r.0 ≤ 255) × (length r.1 < 2 ^ 64)

-- the records of these puts, one after the other
abbrev pub file_of : Entries → List ℕ
file_of [] = []
file_of (r ∷ rs) = record_bytes r.0 r.1 ++ file_of rs
