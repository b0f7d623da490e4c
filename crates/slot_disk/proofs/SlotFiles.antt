-- What a file of two slots holds while one of them is replaced.
use Rattle.std.proofs.Common.{◌≡◌, ◌⊎◌, inl, inr, ℕ, ◌+◌, ◌-◌, ◌<◌, ◌≤◌, min, List, ◌++◌, length, take, drop, Option, None, Some, Bool, true, false, refl, sym, ◌∙◌, ap, arith}
use Rattle.std.specs.Prelude.{nat_lt}
use Rattle.std.proofs.lemmas.List.{take_all, take-append-drop, take-take, drop-drop, length-take}
use Rattle.std.proofs.lemmas.Bool.Decides.{nat_tests}
use Rattle.std.proofs.lemmas.Bool.{cases_lt}
use Rattle.slot_disk.specs.Crash.{Torn}
use Rattle.slot_disk.specs.Slots.{slot, newer, last_serial, next_slot}
use Rattle.slot_disk.specs.declared.slot.Slot.TheVariants.{A, B}
use Rattle.slot_disk.proofs.SlotBytes.{slot_grows, slot_whole}

-- after the range of a write that was cut short nothing has changed
pub torn_behind : (k at n : ℕ) (old new : List ℕ) → Torn at n old new → at + n ≤ k → drop k new ≡ drop k old
torn_behind k at n old new torn le =
    let e : at + n + (k - (at + n)) ≡ k = omega arith in
    ap (λ (m : ℕ). drop m new) (sym e) ∙ sym (drop-drop (k - (at + n)) (at + n) new) ∙ ap (λ (l : List ℕ). drop (k - (at + n)) l) torn.after ∙ drop-drop (k - (at + n)) (at + n) old ∙ ap (λ (m : ℕ). drop m old) e

-- nor before it
pub torn_before : (k at n : ℕ) (old new : List ℕ) → Torn at n old new → k ≤ min at (length old) → take k new ≡ take k old
torn_before k at n old new torn le = sym (take-take k (min at (length old)) new le) ∙ ap (λ (l : List ℕ). take k l) torn.before ∙ take-take k (min at (length old)) old le

-- a record in slot A survives a write in slot B
pub first_kept : (at n : ℕ) (old new : List ℕ) (s : ℕ × List ℕ) → Torn at n old new → 512 ≤ at → slot old ≡ Some s → slot new ≡ Some s
first_kept at n old new s torn far is = by (cases_lt at (length old))
  where
    whole : (k : ℕ) → k ≤ min at (length old) → new ≡ take k old ++ drop k new
    whole k le = sym (take-append-drop k new) ∙ ap (λ (l : List ℕ). l ++ drop k new) (torn_before k at n old new torn le)

    by : (at < length old) ⊎ (length old ≤ at) → slot new ≡ Some s
    by (inl within) =
        let long : 491 ≤ length (take at old) = omega (arith, length-take at old) in
        ap slot (whole at (omega arith)) ∙ slot_whole (take at old) (drop at new) long ∙ sym (slot_whole (take at old) (drop at old) long) ∙ ap slot (take-append-drop at old) ∙ is
    by (inr le) =
        ap slot (whole (length old) (omega arith) ∙ ap (λ (l : List ℕ). l ++ drop (length old) new) (take_all (length old) old (omega arith))) ∙ slot_grows old (drop (length old) new) s is

-- the current slot determines the next one to be written
pub first_current : (a b : Option (ℕ × List ℕ)) → next_slot (newer a b) ≡ B → (s : ℕ × List ℕ) × (a ≡ Some s)
first_current None None is = absurd (a_is_b is)
  where
    a_is_b : A ≡ B → ⊥
    a_is_b e = grind (arith, e)
first_current None (Some b) is = absurd (a_is_b is)
  where
    a_is_b : A ≡ B → ⊥
    a_is_b e = grind (arith, e)
first_current (Some a) None is = (a, refl)
first_current (Some a) (Some b) is = (a, refl)

-- the current slot stays current if the other one holds nothing
pub newer_without_a : (a b : Option (ℕ × List ℕ)) → next_slot (newer a b) ≡ A → newer None b ≡ newer a b
newer_without_a None b is = refl
newer_without_a (Some a) None is = absurd (b_is_a is)
  where
    b_is_a : B ≡ A → ⊥
    b_is_a e = grind (arith, e)
newer_without_a (Some a) (Some b) is = by (nat_lt a.0 b.0) refl is
  where
    by : (t : Bool) → nat_lt a.0 b.0 ≡ t → next_slot (newer (Some a) (Some b)) ≡ A → Some (B, b) ≡ newer (Some a) (Some b)
    by true e is = grind (arith, e)
    by false e is = grind (arith, e)

pub newer_without_b : (a b : Option (ℕ × List ℕ)) → next_slot (newer a b) ≡ B → newer a None ≡ newer a b
newer_without_b None None is = refl
newer_without_b None (Some b) is = absurd (a_is_b is)
  where
    a_is_b : A ≡ B → ⊥
    a_is_b e = grind (arith, e)
newer_without_b (Some a) None is = refl
newer_without_b (Some a) (Some b) is = by (nat_lt a.0 b.0) refl is
  where
    by : (t : Bool) → nat_lt a.0 b.0 ≡ t → next_slot (newer (Some a) (Some b)) ≡ B → Some (A, a) ≡ newer (Some a) (Some b)
    by true e is = grind (arith, e)
    by false e is = grind (arith, e)

-- the other one becomes current with the next serial number
pub newer_with_a : (a b : Option (ℕ × List ℕ)) (bytes : List ℕ) → next_slot (newer a b) ≡ A → newer (Some (last_serial (newer a b) + 1, bytes)) b ≡ Some (A, (last_serial (newer a b) + 1, bytes))
newer_with_a None None bytes is = refl
newer_with_a None (Some b) bytes is = grind (arith, nat_tests)
newer_with_a (Some a) None bytes is = refl
newer_with_a (Some a) (Some b) bytes is = by (nat_lt a.0 b.0) refl is
  where
    by : (t : Bool) → nat_lt a.0 b.0 ≡ t → next_slot (newer (Some a) (Some b)) ≡ A → newer (Some (last_serial (newer (Some a) (Some b)) + 1, bytes)) (Some b) ≡ Some (A, (last_serial (newer (Some a) (Some b)) + 1, bytes))
    by true e is = grind (arith, nat_tests, e)
    by false e is = grind (arith, nat_tests, e)

pub newer_with_b : (a b : Option (ℕ × List ℕ)) (bytes : List ℕ) → next_slot (newer a b) ≡ B → newer a (Some (last_serial (newer a b) + 1, bytes)) ≡ Some (B, (last_serial (newer a b) + 1, bytes))
newer_with_b None None bytes is = refl
newer_with_b None (Some b) bytes is = refl
newer_with_b (Some a) None bytes is = grind (arith, nat_tests)
newer_with_b (Some a) (Some b) bytes is = by (nat_lt a.0 b.0) refl is
  where
    by : (t : Bool) → nat_lt a.0 b.0 ≡ t → next_slot (newer (Some a) (Some b)) ≡ B → newer (Some a) (Some (last_serial (newer (Some a) (Some b)) + 1, bytes)) ≡ Some (B, (last_serial (newer (Some a) (Some b)) + 1, bytes))
    by true e is = grind (arith, nat_tests, e)
    by false e is = grind (arith, nat_tests, e)
