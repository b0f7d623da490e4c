-- What was read of a file of two slots, and what is kept of it.
use Rattle.std.specs.Prelude.{◌≡◌, ℕ, List, Option}
use Rattle.std.specs.Option.{option_map}
use Rattle.slot_disk.specs.Slots.{held_slot, shut_at, slot_at}
use Rattle.slot_disk.specs.declared.reading.Both.{Both}
use Rattle.slot_disk.specs.declared.reading.Picked.{Picked}
use Rattle.slot_disk.specs.declared.current.Current.{Current}
use Rattle.slot_disk.specs.declared.slot.Slot.{Slot}
use Rattle.slot_disk.specs.declared.slot.Slot.TheVariants.{A, B}

-- both slots were read as the file has them
pub record AreSlots (file : List ℕ) (both : Both) : Type 0 where
  pub a_held : held_slot both.a.held ≡ slot_at file A
  pub b_held : held_slot both.b.held ≡ slot_at file B
  pub a_gate : both.a.is_shut ≡ shut_at file A
  pub b_gate : both.b.is_shut ≡ shut_at file B

-- the current slot, its serial number and its record
abbrev pub picked : Picked → Slot × (ℕ × List ℕ)
picked p = (p.slot, (p.held.serial, p.held.content.items))

-- the current slot, its serial number and its record, from the fields that keep them
abbrev pub kept_now : Option Current → List ℕ → Option (Slot × (ℕ × List ℕ))
kept_now now bytes = option_map (λ c. (c.slot, (c.serial, bytes))) now
