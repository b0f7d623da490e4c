-- A slot file at rest, before and after a save.
use Rattle.std.proofs.Common.{◌≡◌, inl, inr, ⊎_elim, ℕ, ◌+◌, ◌-◌, ◌^◌, ◌<◌, ◌≤◌, List, length, Option, Some, Bool, false, sym, ◌∙◌, ap, subst, arith}
use Rattle.slot_disk.specs.Crash.{IsOn, SeenIn}
use Rattle.slot_disk.specs.Slots.{current, record_in, record_of, last_serial, next_slot, other, shut_at, body, IsOldOrNew, IsSaved}
use Rattle.slot_disk.specs.Saving.{IsFree, IsBody}
use Rattle.slot_disk.specs.SlotFiles.{remembered, remembers_shut, IsAtRest}
use Rattle.slot_disk.specs.declared.slot.Slot.{Slot}
use Rattle.slot_disk.specs.declared.slot.Slot.TheVariants.{A, B}
use Rattle.slot_disk.specs.declared.slot_file.SlotFile.{SlotFile}

module _ {D : Type 0} (seen : D → Option (List ℕ)) (may_leave : D → List ℕ → Type 0) (file : SlotFile D) (rest : IsAtRest seen may_leave file) where
  -- if nothing was done
  pub still_seen : (bytes : List ℕ) → SeenIn seen file.disk (IsOldOrNew (record_in (remembered file)) bytes)
  still_seen bytes = (rest.bytes, rest.on.told, inl (sym (ap record_in rest.now)))

  pub free : (s : Slot) (is_shut : Bool) → s ≡ next_slot (remembered file) → is_shut ≡ remembers_shut file s → IsFree rest.bytes s is_shut
  free s is_shut next gate = record { next = sym (next ∙ ap next_slot rest.now); gate = gate ∙ rest.gates s }

  pub has_body : (last : ℕ) (bytes spelled : List ℕ) → last ≡ last_serial (remembered file) → last < 2 ^ 64 - 1 → length bytes ≤ 480 → spelled ≡ body (last + 1) bytes → IsBody rest.bytes bytes spelled
  has_body last bytes spelled is small short so =
      let serial : last ≡ last_serial (current rest.bytes) = is ∙ ap last_serial rest.now in
      record { spelled_so = so ∙ ap (λ (n : ℕ). body (n + 1) bytes) serial; short = short; serial = omega (arith, serial) }

  -- what a read returns after the writes
  pub seen_after : (bytes : List ℕ) (disk : D) → SeenIn seen disk (IsOldOrNew (record_of rest.bytes) bytes) → SeenIn seen disk (IsOldOrNew (record_in (remembered file)) bytes)
  seen_after bytes disk there = (there.0, there.1, ⊎_elim (λ e. inl (e ∙ sym (ap record_in rest.now))) (λ e. inr e) there.2)

  -- the file after a save
  pub at_rest_after : (s : Slot) (last : ℕ) (bytes : List ℕ) (disk : D) (new : SlotFile D) → last ≡ last_serial (remembered file)
      → (after : List ℕ) × IsOn seen may_leave disk after × IsSaved rest.bytes s bytes after
      → remembered new ≡ Some (s, (last + 1, bytes)) → remembers_shut new s ≡ false → remembers_shut new (other s) ≡ remembers_shut file (other s) → new.disk ≡ disk → IsAtRest seen may_leave new
  at_rest_after s last bytes disk new is saved now here there same_disk = record {
    bytes = saved.0;
    on = subst (λ (d : D). IsOn seen may_leave d saved.0) (sym same_disk) saved.1;
    now = now ∙ ap (λ (n : ℕ). Some (s, (n + 1, bytes))) (is ∙ ap last_serial rest.now) ∙ sym saved.2.now;
    gates = λ t. gates s t here there saved.2.here saved.2.gate;
  }
    where
      others : (s : Slot) → remembers_shut new (other s) ≡ remembers_shut file (other s) → shut_at saved.0 (other s) ≡ shut_at rest.bytes (other s) → remembers_shut new (other s) ≡ shut_at saved.0 (other s)
      others s there gate = there ∙ rest.gates (other s) ∙ sym gate

      gates : (s t : Slot) → remembers_shut new s ≡ false → remembers_shut new (other s) ≡ remembers_shut file (other s) → shut_at saved.0 s ≡ false → shut_at saved.0 (other s) ≡ shut_at rest.bytes (other s) → remembers_shut new t ≡ shut_at saved.0 t
      gates A A here there open_gate gate = here ∙ sym open_gate
      gates B B here there open_gate gate = here ∙ sym open_gate
      gates A B here there open_gate gate = others A there gate
      gates B A here there open_gate gate = others B there gate
