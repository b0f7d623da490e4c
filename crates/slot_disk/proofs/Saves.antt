-- What the second and the third write of a save leave.
use Rattle.std.proofs.Common.{Bool, Option, ◌≡◌, inl, inr, ⊎_elim, ℕ, ◌+◌, ◌≤◌, List, [], ◌∷◌, length, drop, Result, Ok, Err, ◌∙◌, ap, arith}
use Rattle.std.specs.Prelude.{OnOk, Some}
use Rattle.slot_disk.specs.Crash.{written, Torn, IsOn}
use Rattle.slot_disk.specs.Slots.{start, slot, current, record_in, record_of, next_slot, last_serial, body, IsOldOrNew, IsSaved}
use Rattle.slot_disk.specs.Saving.{IsFree, IsBody, IsClosed}
use Rattle.slot_disk.specs.declared.slot.Slot.{Slot}
use Rattle.slot_disk.specs.Outcomes.{torn_whole}
use Rattle.slot_disk.proofs.Stages.{closing_done, closed_current, body_closed, body_spelled, opening_current, opening_done}

-- the outcomes of a sequence, from those of its last write
module _ {D E : Type 0} (seen : D → Option (List ℕ)) (may_leave : D → List ℕ → Type 0) (old mid new : D) (s : Slot) (is_shut : Bool) where
  pub close_done : (r : Result (Unit {0}) E) → OnOk r ((file : List ℕ) → IsOn seen may_leave old file → IsOn seen may_leave new (written file (start s) (0 ∷ [])))
      → OnOk r ((file : List ℕ) → IsOn seen may_leave old file → IsFree file s is_shut → (after : List ℕ) × IsOn seen may_leave new after × IsClosed file s after)
  close_done (Ok x) done = λ file on free. (written file (start s) (0 ∷ []), done file on, closing_done s file free.next)
  close_done (Err e) done = done

  pub replace_done : (spelled : List ℕ) (r : Result (Unit {0}) E) → OnOk r ((file : List ℕ) → IsOn seen may_leave mid file → IsOn seen may_leave new (written file (start s) (1 ∷ [])))
      → ((file bytes : List ℕ) → IsOn seen may_leave old file → IsFree file s is_shut → IsBody file bytes spelled → (full : List ℕ) × IsOn seen may_leave mid full × IsSaved file s bytes (written full (start s) (1 ∷ [])))
      → OnOk r ((file bytes : List ℕ) → IsOn seen may_leave old file → IsFree file s is_shut → IsBody file bytes spelled → (after : List ℕ) × IsOn seen may_leave new after × IsSaved file s bytes after)
  replace_done spelled (Ok x) done before = λ file bytes on free has_body. let full = before file bytes on free has_body in (written full.0 (start s) (1 ∷ []), done full.0 full.1, full.2)
  replace_done spelled (Err e) done before = done

-- if the current slot is unchanged, so is the record
pub old_stays : (file new bytes : List ℕ) → current new ≡ current file → IsOldOrNew (record_of file) bytes new
old_stays file new bytes is = inl (ap record_in is)

pub length-body : (serial : ℕ) (bytes : List ℕ) → length (body serial bytes) ≡ 10 + length bytes
length-body serial bytes = omega arith

module _ (s : Slot) (file mid spelled bytes : List ℕ) (next : next_slot (current file) ≡ s) (has_body : IsBody file bytes spelled) (stage : IsClosed file s mid) where
  short : length spelled ≤ 490
  short = omega (arith, ap (λ (l : List ℕ). length l) has_body.spelled_so, length-body (last_serial (current file) + 1) bytes, has_body.short)

  still_closed : (new : List ℕ) → Torn (start s + 1) (length spelled) mid new → IsClosed file s new
  still_closed new torn = body_closed s file mid new (length spelled) next short stage torn

  -- a crash during the second write
  pub body_safe : (new : List ℕ) → Torn (start s + 1) (length spelled) mid new → current new ≡ current file
  body_safe new torn = closed_current s file new next (still_closed new torn)

  full : IsClosed file s (written mid (start s + 1) spelled)
  full = still_closed (written mid (start s + 1) spelled) (torn_whole mid (start s + 1) spelled)

  behind : slot (1 ∷ drop (start s + 1) (written mid (start s + 1) spelled)) ≡ Some (last_serial (current file) + 1, bytes)
  behind =
      ap (λ (l : List ℕ). slot (1 ∷ drop (start s + 1) (written mid (start s + 1) l))) has_body.spelled_so
      ∙ body_spelled s mid (last_serial (current file) + 1) bytes has_body.serial has_body.short

  -- a crash during the third write
  pub gate_safe : (new : List ℕ) → Torn (start s) 1 (written mid (start s + 1) spelled) new → IsOldOrNew (record_of file) bytes new
  gate_safe new torn = ⊎_elim (old_stays file new bytes) (λ is. inr (ap record_in is)) (opening_current s file (written mid (start s + 1) spelled) new bytes next full behind torn)

  -- after the third write
  pub gate_done : IsSaved file s bytes (written (written mid (start s + 1) spelled) (start s) (1 ∷ []))
  gate_done = opening_done s file (written mid (start s + 1) spelled) bytes next full behind
