-- The record that a file of two slots holds. A slot is a gate, a serial number, a length, and a
-- record.
use Rattle.std.specs.Prelude.{◌+◌, ◌≡◌, ◌⊎◌, ℕ, List, [], ◌∷◌, ◌++◌, length, take, drop, Option, None, Some, Bool, false, not, ◌==◌, ◌&&◌, nat_le, nat_lt, if◌then◌else◌}
use Rattle.std.specs.Int.{w16, w64, from_be_bytes, to_be_bytes}
use Rattle.std.specs.Option.{option_map}
use Rattle.slot_disk.specs.declared.reading.Held.{Held}
use Rattle.slot_disk.specs.declared.slot.Slot.{Slot}
use Rattle.slot_disk.specs.declared.slot.Slot.TheVariants.{A, B}

-- the offset of the first byte of a slot
abbrev pub start : Slot → ℕ
start A = 0
start B = 512

abbrev pub other : Slot → Slot
other A = B
other B = A

-- the serial number and the record, if the gate is open, the length in range, and the record
-- complete
abbrev pub held : Bool → ℕ → ℕ → List ℕ → Option (ℕ × List ℕ)
held is_open serial size rest = if is_open && (nat_le size 480 && nat_le size (length rest)) then Some (serial, take size rest) else None

-- what a slot holds, from the bytes that begin at it: a gate of one byte, a serial number of eight,
-- a length of two, and the record
abbrev pub slot : List ℕ → Option (ℕ × List ℕ)
slot (gate ∷ a ∷ b ∷ c ∷ d ∷ e ∷ f ∷ g ∷ h ∷ m ∷ n ∷ rest) = held (gate == 1) (from_be_bytes w64 (a ∷ b ∷ c ∷ d ∷ e ∷ f ∷ g ∷ h ∷ [])) (from_be_bytes w16 (m ∷ n ∷ [])) rest
slot short = None

-- the gate is present and closed
abbrev pub shut : List ℕ → Bool
shut [] = false
shut (gate ∷ rest) = not (gate == 1)

abbrev pub slot_at : List ℕ → Slot → Option (ℕ × List ℕ)
slot_at file s = slot (drop (start s) file)

abbrev pub shut_at : List ℕ → Slot → Bool
shut_at file s = shut (drop (start s) file)

-- the slot with the greater serial number, or A if they are equal
abbrev pub newer : Option (ℕ × List ℕ) → Option (ℕ × List ℕ) → Option (Slot × (ℕ × List ℕ))
newer None None = None
newer None (Some b) = Some (B, b)
newer (Some a) None = Some (A, a)
newer (Some a) (Some b) = if nat_lt a.0 b.0 then Some (B, b) else Some (A, a)

-- the current slot of a file, with its serial number and its record
abbrev pub current : List ℕ → Option (Slot × (ℕ × List ℕ))
current file = newer (slot_at file A) (slot_at file B)

-- the record of the current slot
abbrev pub record_in : Option (Slot × (ℕ × List ℕ)) → Option (List ℕ)
record_in now = option_map (λ s. s.1.1) now

abbrev pub record_of : List ℕ → Option (List ℕ)
record_of file = record_in (current file)

-- the last serial number, or 0 if no slot holds a record
abbrev pub last_serial : Option (Slot × (ℕ × List ℕ)) → ℕ
last_serial None = 0
last_serial (Some s) = s.1.0

-- the slot that the next save takes: the one that is not current, or A if none is
abbrev pub next_slot : Option (Slot × (ℕ × List ℕ)) → Slot
next_slot None = A
next_slot (Some (A, s)) = B
next_slot (Some (B, s)) = A

-- the bytes of a slot after its gate
abbrev pub body : ℕ → List ℕ → List ℕ
body serial bytes = to_be_bytes w64 serial ++ to_be_bytes w16 (length bytes) ++ bytes

-- the bytes of an open slot
abbrev pub open_slot : ℕ → List ℕ → List ℕ
open_slot serial bytes = 1 ∷ body serial bytes

-- the file holds the old record, or the new one
abbrev pub IsOldOrNew : Option (List ℕ) → List ℕ → List ℕ → Type 0
IsOldOrNew old new file = (record_of file ≡ old) ⊎ (record_of file ≡ Some new)

-- after a save into this slot: it is current, with the next serial number and this record
pub record IsSaved (first : List ℕ) (s : Slot) (bytes file : List ℕ) : Type 0 where
  pub now : current file ≡ Some (s, (last_serial (current first) + 1, bytes))
  pub here : shut_at file s ≡ false
  pub gate : shut_at file (other s) ≡ shut_at first (other s)

-- the serial number and the record as read from a slot
abbrev pub held_slot : Option Held → Option (ℕ × List ℕ)
held_slot None = None
held_slot (Some h) = Some (h.serial, h.content.items)
