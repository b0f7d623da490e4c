-- The files between the writes of a save, and what a crash makes of each write.
use Rattle.std.proofs.Common.{◌≡◌, ◌⊎◌, inl, inr, ⊎_elim, ℕ, ◌+◌, ◌-◌, ◌<◌, ◌≤◌, ◌^◌, List, [], ◌∷◌, ◌++◌, length, take, drop, replicate, None, Some, true, false, refl, sym, ◌∙◌, ap, arith, append_assoc}
use Rattle.std.proofs.lemmas.List.{drop_all, drop-take, drop-drop, drop_at}
use Rattle.std.proofs.lemmas.Bool.{cases_lt}
use Rattle.std.proofs.lemmas.Bool.Decides.{nat_tests}
use Rattle.slot_disk.specs.Crash.{written, Torn}
use Rattle.slot_disk.specs.Slots.{IsSaved, start, slot, shut, slot_at, shut_at, newer, current, last_serial, next_slot, body}
use Rattle.slot_disk.specs.declared.slot.Slot.{Slot}
use Rattle.slot_disk.specs.declared.slot.Slot.TheVariants.{A, B}
use Rattle.slot_disk.specs.Saving.{IsKept, IsClosed}
use Rattle.slot_disk.proofs.SlotBytes.{slot_open, slot_shut, slot_gate, slot_spelled, shut_prefix}
use Rattle.slot_disk.proofs.SlotFiles.{torn_behind, torn_before, first_kept, first_current, newer_without_a, newer_without_b, newer_with_a, newer_with_b}
use Rattle.slot_disk.specs.Outcomes.{torn_whole, length-prefix}

-- the bytes from the place of a write on
drop-written : (old : List ℕ) (at : ℕ) (bytes : List ℕ) → drop at (written old at bytes) ≡ bytes ++ drop (at + length bytes) old
drop-written old at [] = ap (λ (n : ℕ). drop n old) (let e : at ≡ at + 0 = omega arith in e)
drop-written old at (byte ∷ rest) =
    let bytes = byte ∷ rest in
    let prefix = take at old ++ replicate (at - length old) 0 in
    ap (λ (l : List ℕ). drop at l) (append_assoc prefix bytes (drop (at + length bytes) old)) ∙ drop_at prefix (bytes ++ drop (at + length bytes) old) at (length-prefix old at)

-- after a crash during a write of the gate: the slot holds nothing, or what an open gate shows
torn_gate : (at : ℕ) (old new : List ℕ) → Torn at 1 old new → (slot (drop at new) ≡ None) ⊎ (slot (drop at new) ≡ slot (1 ∷ drop (at + 1) old))
torn_gate at old new torn = by (drop at new) refl
  where
    by : (l : List ℕ) → drop at new ≡ l → (slot (drop at new) ≡ None) ⊎ (slot (drop at new) ≡ slot (1 ∷ drop (at + 1) old))
    by [] is = inl (ap slot is)
    by (gate ∷ rest) is =
        let behind : rest ≡ drop (at + 1) old = ap (λ (l : List ℕ). drop 1 l) (sym is) ∙ drop-drop 1 at new ∙ torn.after in
        let here : drop at new ≡ gate ∷ drop (at + 1) old = is ∙ ap (λ (l : List ℕ). gate ∷ l) behind in
        ⊎_elim (λ e. inl (ap slot here ∙ e)) (λ e. inr (ap slot here ∙ e)) (slot_gate gate (drop (at + 1) old))

-- a write after a closed gate leaves it closed
torn_body : (at n : ℕ) (old new : List ℕ) → Torn (at + 1) n old new → shut (drop at old) ≡ true → shut (drop at new) ≡ true
torn_body at n old new torn closed = by (cases_lt at (length old))
  where
    by : (at < length old) ⊎ (length old ≤ at) → shut (drop at new) ≡ true
    by (inl within) =
        let same : take 1 (drop at new) ≡ take 1 (drop at old) =
        sym (drop-take at 1 new) ∙ ap (λ (l : List ℕ). drop at l) (torn_before (at + 1) (at + 1) n old new torn (omega arith)) ∙ drop-take at 1 old in
        shut_prefix (drop at new) (drop at old) same ∙ closed
    by (inr le) = absurd (false_is_true (sym (ap shut (drop_all at old le)) ∙ closed))
      where
        false_is_true : false ≡ true → ⊥
        false_is_true e = grind (arith, e)

-- a write lies in this slot, or in the part of the file that is its own
abbrev pub IsIn : Slot → ℕ → ℕ → Type 0
IsIn A at n = at + n ≤ 512
IsIn B at n = 512 ≤ at

pub kept_first : (first : List ℕ) (s : Slot) → IsKept first s first
kept_first first s = record { held = refl; gate = refl }

-- a write in the slot that is not current leaves the other one unchanged
kept_by : (s : Slot) (first file new : List ℕ) (at n : ℕ) → next_slot (current first) ≡ s → IsKept first s file → IsIn s at n → Torn at n file new → IsKept first s new
kept_by A first file new at n is kept inside torn =
    let same = torn_behind 512 at n file new torn inside in
    record { held = ap slot same ∙ kept.held; gate = ap shut same ∙ kept.gate }
kept_by B first file new at n is kept inside torn =
    let here = first_current (slot_at first A) (slot_at first B) is in
    let there = first_kept at n file new here.0 torn inside (kept.held ∙ here.1) in
    record { held = there ∙ sym here.1; gate = slot_open new here.0 there ∙ sym (slot_open first here.0 here.1) }

-- if the other slot is unchanged and this one holds nothing, the current slot is unchanged
current_without : (s : Slot) (first file : List ℕ) → next_slot (current first) ≡ s → IsKept first s file → slot_at file s ≡ None → current file ≡ current first
current_without A first file is kept none =
    ap (λ o. newer o (slot_at file B)) none ∙ ap (λ o. newer None o) kept.held ∙ newer_without_a (slot_at first A) (slot_at first B) is
current_without B first file is kept none =
    ap (λ o. newer (slot_at file A) o) none ∙ ap (λ o. newer o None) kept.held ∙ newer_without_b (slot_at first A) (slot_at first B) is

-- so it is if this slot is unchanged too
current_same : (s : Slot) (first file : List ℕ) → IsKept first s file → slot_at file s ≡ slot_at first s → current file ≡ current first
current_same A first file kept same = ap (λ o. newer o (slot_at file B)) same ∙ ap (λ o. newer (slot_at first A) o) kept.held
current_same B first file kept same = ap (λ o. newer (slot_at file A) o) same ∙ ap (λ o. newer o (slot_at first B)) kept.held

-- if this slot holds a record with the next serial number, it is current
current_with : (s : Slot) (first file bytes : List ℕ) → next_slot (current first) ≡ s → IsKept first s file → slot_at file s ≡ Some (last_serial (current first) + 1, bytes) → current file ≡ Some (s, (last_serial (current first) + 1, bytes))
current_with A first file bytes is kept some =
    ap (λ o. newer o (slot_at file B)) some ∙ ap (λ o. newer (Some (last_serial (current first) + 1, bytes)) o) kept.held ∙ newer_with_a (slot_at first A) (slot_at first B) bytes is
current_with B first file bytes is kept some =
    ap (λ o. newer (slot_at file A) o) some ∙ ap (λ o. newer o (Some (last_serial (current first) + 1, bytes))) kept.held ∙ newer_with_b (slot_at first A) (slot_at first B) bytes is

-- a slot with an open gate, or with none, holds what one with an open gate would
gate_open : (bytes : List ℕ) → shut bytes ≡ false → slot (1 ∷ drop 1 bytes) ≡ slot bytes
gate_open [] is = refl
gate_open (gate ∷ rest) is = ap (λ (g : ℕ). slot (g ∷ rest)) (let e : 1 ≡ gate = grind (arith, nat_tests, is) in e)

-- the gate of a slot lies in it, and so does its body
gate_in : (s : Slot) → IsIn s (start s) 1
gate_in A = omega arith
gate_in B = omega arith

body_in : (s : Slot) (n : ℕ) → n ≤ 490 → IsIn s (start s + 1) n
body_in A n le = omega arith
body_in B n le = omega arith

pub closed_current : (s : Slot) (first file : List ℕ) → next_slot (current first) ≡ s → IsClosed first s file → current file ≡ current first
closed_current s first file is stage = current_without s first file is stage.kept (slot_shut (drop (start s) file) stage.closed)

-- the first write closes the gate
pub closing_current : (s : Slot) (first new : List ℕ) → next_slot (current first) ≡ s → shut_at first s ≡ false → Torn (start s) 1 first new → current new ≡ current first
closing_current s first new is open_gate torn =
    let kept = kept_by s first first new (start s) 1 is (kept_first first s) (gate_in s) torn in
    let before : slot (1 ∷ drop (start s + 1) first) ≡ slot_at first s =
    ap (λ (l : List ℕ). slot (1 ∷ l)) (sym (drop-drop 1 (start s) first)) ∙ gate_open (drop (start s) first) open_gate in
    ⊎_elim (λ none. current_without s first new is kept none) (λ same. current_same s first new kept (same ∙ before)) (torn_gate (start s) first new torn)

pub closing_done : (s : Slot) (first : List ℕ) → next_slot (current first) ≡ s → IsClosed first s (written first (start s) (0 ∷ []))
closing_done s first is = record {
  kept = kept_by s first first (written first (start s) (0 ∷ [])) (start s) 1 is (kept_first first s) (gate_in s) (torn_whole first (start s) (0 ∷ []));
  closed = ap shut (drop-written first (start s) (0 ∷ []));
}

-- the second write writes the body
pub body_closed : (s : Slot) (first file new : List ℕ) (n : ℕ) → next_slot (current first) ≡ s → n ≤ 490 → IsClosed first s file → Torn (start s + 1) n file new → IsClosed first s new
body_closed s first file new n is short stage torn = record {
  kept = kept_by s first file new (start s + 1) n is stage.kept (body_in s n short) torn;
  closed = torn_body (start s) n file new torn stage.closed;
}

-- the bytes after the gate then
pub body_spelled : (s : Slot) (file : List ℕ) (serial : ℕ) (bytes : List ℕ) → serial < 2 ^ 64 → length bytes ≤ 480
    → slot (1 ∷ drop (start s + 1) (written file (start s + 1) (body serial bytes))) ≡ Some (serial, bytes)
body_spelled s file serial bytes small short =
    ap (λ (l : List ℕ). slot (1 ∷ l)) (drop-written file (start s + 1) (body serial bytes)) ∙ slot_spelled serial bytes (drop (start s + 1 + length (body serial bytes)) file) small short

-- the third write opens the gate
pub opening_current : (s : Slot) (first file new bytes : List ℕ) → next_slot (current first) ≡ s → IsClosed first s file → slot (1 ∷ drop (start s + 1) file) ≡ Some (last_serial (current first) + 1, bytes) → Torn (start s) 1 file new
    → (current new ≡ current first) ⊎ (current new ≡ Some (s, (last_serial (current first) + 1, bytes)))
opening_current s first file new bytes is stage behind torn =
    let kept = kept_by s first file new (start s) 1 is stage.kept (gate_in s) torn in
    ⊎_elim (λ none. inl (current_without s first new is kept none)) (λ some. inr (current_with s first new bytes is kept (some ∙ behind))) (torn_gate (start s) file new torn)

pub opening_done : (s : Slot) (first file bytes : List ℕ) → next_slot (current first) ≡ s → IsClosed first s file → slot (1 ∷ drop (start s + 1) file) ≡ Some (last_serial (current first) + 1, bytes)
    → IsSaved first s bytes (written file (start s) (1 ∷ []))
opening_done s first file bytes is stage behind =
    let kept = kept_by s first file (written file (start s) (1 ∷ [])) (start s) 1 is stage.kept (gate_in s) (torn_whole file (start s) (1 ∷ [])) in
    record {
      now = current_with s first (written file (start s) (1 ∷ [])) bytes is kept (ap slot (drop-written file (start s) (1 ∷ [])) ∙ behind);
      here = ap shut (drop-written file (start s) (1 ∷ []));
      gate = kept.gate;
    }
