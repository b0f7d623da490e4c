-- Reading a slot as far as the file reaches.
use Rattle.std.proofs.Common.{◌≡◌, ◌⊎◌, inl, inr, ℕ, ◌-◌, ◌<◌, ◌≤◌, min, List, length, take, drop, sym, ◌∙◌, ap, arith, length-drop}
use Rattle.std.proofs.lemmas.List.{take_all, take-append-drop, take-take, length-take}
use Rattle.std.proofs.lemmas.Bool.{cases_lt}
use Rattle.slot_disk.specs.Slots.{start, slot, shut}
use Rattle.slot_disk.specs.Saving.{IsSlotOf}
use Rattle.slot_disk.specs.declared.slot.Slot.{Slot}
use Rattle.slot_disk.proofs.SlotBytes.{slot_whole, shut_prefix}

-- the first bytes determine a slot, if they are as many as a slot may have or all there are
prefix_tells : (bytes : List ℕ) (n : ℕ) → n ≡ min 491 (length bytes) → (slot (take n bytes) ≡ slot bytes) × (shut (take n bytes) ≡ shut bytes)
prefix_tells bytes n is = by (cases_lt (length bytes) 491)
  where
    by : (length bytes < 491) ⊎ (491 ≤ length bytes) → (slot (take n bytes) ≡ slot bytes) × (shut (take n bytes) ≡ shut bytes)
    by (inl short) = let all : take n bytes ≡ bytes = take_all n bytes (omega (arith, is)) in (ap slot all, ap shut all)
    by (inr long) = (
      sym (slot_whole (take n bytes) (drop n bytes) (omega (arith, is, length-take n bytes))) ∙ ap slot (take-append-drop n bytes),
      shut_prefix (take n bytes) bytes (take-take 1 n bytes (omega (arith, is))),
    )

pub slot_read : (file : List ℕ) (s : Slot) (place n size : ℕ) (bytes : List ℕ) → place ≡ start s → size ≡ 491 → n ≡ min size (length file - place) → take n bytes ≡ take n (drop place file) → IsSlotOf file s (take n bytes)
slot_read file s place n size bytes here long is same =
    let count : n ≡ min 491 (length (drop (start s) file)) = omega (arith, is, long, here, length-drop (start s) file) in
    let tells = prefix_tells (drop (start s) file) n count in
    let there : take n bytes ≡ take n (drop (start s) file) = same ∙ ap (λ (p : ℕ). take n (drop p file)) here in
    record { held = ap slot there ∙ tells.0; gate = ap shut there ∙ tells.1 }
