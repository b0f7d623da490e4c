-- Which numbers came, bit by bit, and why none is taken twice.
use Rattle.std.proofs.Common.{◌≡◌, ◌∙◌, ◌+◌, ◌-◌, ◌*◌, ◌/◌, ◌%◌, ◌^◌, ◌<◌, ◌≤◌, ◌==◌, ◌||◌, ◌⊎◌, inl, inr, ℕ, suc, Bool, true, false, List, [], ◌∷◌, sym, ap, arith, add-zero, mul_comm}
use Rattle.std.specs.Int.{bit_at, w64}
use Rattle.std.proofs.Math.Nat.{div-add-mod}
use Rattle.std.proofs.lemmas.Nat.{pow_pos}
use Rattle.std.specs.Int.RustNames.{bit_or}
use Rattle.std.proofs.lemmas.Bool.{cases_order, cases_lt}
use Rattle.std.proofs.lemmas.Bool.Decides.{nat_tests}
use Rattle.std.proofs.lemmas.Nat.Bits.{bit_at-zero, bit_at_cat_high, bit_at_cat_low, bit_at_set_same, bit_at_set_other}
use Rattle.ens_base.specs.Lists.{◌∈◌, AreDistinct}
use Rattle.repeat_link.specs.Received.{came, is_old, Takes, Took}
use Rattle.repeat_link.specs.declared.received.Received.{Received}

-- a number told of: the greatest, one above it, and one below it
pub came_at_greatest : (r : Received) (m : ℕ) → m ≡ r.greatest → came r m ≡ true
came_at_greatest r m is = grind (arith, nat_tests)

pub came_above : (r : Received) (m : ℕ) → r.greatest < m → came r m ≡ false
came_above r m above = grind (arith, nat_tests)

pub came_below : (r : Received) (m : ℕ) → m < r.greatest → came r m ≡ (bit_at r.bits (r.greatest - 1 - m) == 1)
came_below r m below = grind (arith, nat_tests)

-- what was old stays old
old_stays : (r s : Received) (n m : ℕ) → Takes r n s → is_old r m ≡ true → is_old s m ≡ true
old_stays r s n m takes old =
    elim (cases_lt 64 (s.greatest - m)) [
      | inl past ↦ grind (arith, nat_tests)
      | inr within ↦ let told = takes.told m (omega arith) in let risen = takes.greatest in grind (arith, nat_tests)
    ]

-- what was taken is old
taken_is_old : (r s : Received) (n : ℕ) → Takes r n s → is_old s n ≡ true
taken_is_old r s n takes =
    elim (cases_lt 64 (s.greatest - n)) [
      | inl past ↦ grind (arith, nat_tests)
      | inr within ↦ let told = takes.told n (omega arith) in grind (arith, nat_tests)
    ]

pub old_after : (r s : Received) (n : ℕ) → Takes r n s → ((m : ℕ) → is_old r m ≡ true → is_old s m ≡ true) × (is_old s n ≡ true)
old_after r s n takes = ((λ m. old_stays r s n m takes), taken_is_old r s n takes)

-- a number that is old is not among those that are taken later
never : (r s : Received) (ns : List ℕ) (m : ℕ) → is_old r m ≡ true → Took r ns s → m ∈ ns → ⊥
never r s [] m old took is = is
never r s (n ∷ ns) m old took (inl is) = let new = took.1 in absurd (cc (old, new, is))
never r s (n ∷ ns) m old took (inr later) = never took.0 s ns m (old_stays r took.0 n m took.2 old) took.3 later

pub taken_once : (r s : Received) (ns : List ℕ) → Took r ns s → AreDistinct ns
taken_once r s [] took = tt
taken_once r s (n ∷ ns) took = (never took.0 s ns n (taken_is_old r took.0 n took.2) took.3, taken_once took.0 s ns took.3)

-- the low k bits of a number, and the bits of one that is shifted
low_bits_of : (k x i : ℕ) → i < k → bit_at (x % 2 ^ k) i ≡ bit_at x i
low_bits_of k x i within = sym (bit_at_cat_low (x / 2 ^ k) k (x % 2 ^ k) i within) ∙ ap (λ n. bit_at n i) (ap (λ n. n + x % 2 ^ k) (mul_comm (x / 2 ^ k) (2 ^ k)) ∙ div-add-mod x (2 ^ k))

low_bits : (x i : ℕ) → i < 64 → bit_at (x % 2 ^ 64) i ≡ bit_at x i
low_bits x i within = low_bits_of 64 x i within

shifted_high : (x s i : ℕ) → s ≤ i → bit_at (x * 2 ^ s) i ≡ bit_at x (i - s)
shifted_high x s i le = ap (λ n. bit_at n i) (sym (add-zero (x * 2 ^ s))) ∙ bit_at_cat_high x s 0 i (pow_pos s) le

shifted_low : (x s i : ℕ) → i < s → bit_at (x * 2 ^ s) i ≡ 0
shifted_low x s i lt = ap (λ n. bit_at n i) (sym (add-zero (x * 2 ^ s))) ∙ bit_at_cat_low x s 0 i lt ∙ bit_at-zero i

-- the bits, moved up by s + 1 places within 64
moved_high : (b s i : ℕ) → s < i → i < 64 → bit_at (b * 2 ^ s % 2 ^ 64 * 2 % 2 ^ 64) i ≡ bit_at b (i - 1 - s)
moved_high b s i above within = low_bits _ i within ∙ shifted_high _ 1 i (omega arith) ∙ low_bits _ (i - 1) (omega arith) ∙ shifted_high b s (i - 1) (omega arith)

moved_low : (b s i : ℕ) → i < s → i < 64 → bit_at (b * 2 ^ s % 2 ^ 64 * 2 % 2 ^ 64) i ≡ 0
moved_low b s i below within =
    elim (cases_lt 0 i) [
      | inl above ↦ low_bits _ i within ∙ shifted_high _ 1 i (omega arith) ∙ low_bits _ (i - 1) (omega arith) ∙ shifted_low b s (i - 1) (omega arith)
      | inr none ↦ low_bits _ i within ∙ shifted_low _ 1 i (omega arith)
    ]

by_equal : (m n : ℕ) (b : Bool) → m ≡ n → (m == n || b) ≡ true
by_equal m n b is = grind (arith, nat_tests)

by_other : (m n : ℕ) (b : Bool) → (m ≡ n → ⊥) → (m == n || b) ≡ b
by_other m n b away = grind (arith, nat_tests)

not_equal : (m n : ℕ) → (m < n) ⊎ (n < m) → m ≡ n → ⊥
not_equal m n (inl less) e = omega arith
not_equal m n (inr more) e = omega arith

-- a number above the greatest is taken
abbrev pub raised_to : Received → ℕ → ℕ → Received
raised_to r n s = record { greatest = n; bits = bit_or (r.bits * 2 ^ s % 2 ^ 64 * 2 % 2 ^ 64) (1 * 2 ^ s % 2 ^ 64) }

raised_below : (r : Received) (n s m : ℕ) → n ≡ r.greatest + suc s → s < 64 → m < n → n ≤ m + 64 → came (raised_to r n s) m ≡ came r m
raised_below r n s m n_is short below within =
    elim (cases_order m r.greatest) [
      | inl is ↦
          let at : n - 1 - m ≡ s = omega arith in
          let set : bit_at (raised_to r n s).bits (n - 1 - m) ≡ 1 = ap (bit_at (raised_to r n s).bits) at ∙ bit_at_set_same w64 (r.bits * 2 ^ s % 2 ^ 64 * 2 % 2 ^ 64) s short in
          came_below (raised_to r n s) m below ∙ ap (λ b. b == 1) set ∙ sym (came_at_greatest r m is)
      | inr (inl less) ↦
          let high : s < n - 1 - m = omega arith in
          let width : n - 1 - m < 64 = omega arith in
          let at : n - 1 - m - 1 - s ≡ r.greatest - 1 - m = omega arith in
          let moved = bit_at_set_other w64 (r.bits * 2 ^ s % 2 ^ 64 * 2 % 2 ^ 64) s short (n - 1 - m) (λ e. omega arith) ∙ moved_high r.bits s (n - 1 - m) high width ∙ ap (bit_at r.bits) at in
          came_below (raised_to r n s) m below ∙ ap (λ b. b == 1) moved ∙ sym (came_below r m less)
      | inr (inr more) ↦
          let low : n - 1 - m < s = omega arith in
          let clear = bit_at_set_other w64 (r.bits * 2 ^ s % 2 ^ 64 * 2 % 2 ^ 64) s short (n - 1 - m) (λ e. omega arith) ∙ moved_low r.bits s (n - 1 - m) low (omega arith) in
          came_below (raised_to r n s) m below ∙ ap (λ b. b == 1) clear ∙ sym (came_above r m more)
    ]

pub raised_takes : (r : Received) (n s : ℕ) → n ≡ r.greatest + suc s → s < 64 → Takes r n (raised_to r n s)
raised_takes r n s n_is short = record {
  greatest = omega arith;
  told = λ m within. told m within (cases_order m n);
}
  where
    told : (m : ℕ) → n ≤ m + 64 → (m ≡ n) ⊎ ((m < n) ⊎ (n < m)) → came (raised_to r n s) m ≡ (m == n || came r m)
    told m within (inl is) = came_at_greatest (raised_to r n s) m is ∙ sym (by_equal m n (came r m) is)
    told m within (inr (inl less)) = raised_below r n s m n_is short less within ∙ sym (by_other m n (came r m) (λ e. omega arith))
    told m within (inr (inr more)) = came_above (raised_to r n s) m more ∙ sym (by_other m n (came r m) (λ e. omega arith) ∙ came_above r m (omega arith))

-- a number below the greatest is taken
abbrev pub marked_with : Received → ℕ → Received
marked_with r n = record { greatest = r.greatest; bits = bit_or r.bits (1 * 2 ^ (r.greatest - 1 - n) % 2 ^ 64) }

pub marked_takes : (r : Received) (n : ℕ) → n < r.greatest → r.greatest ≤ n + 64 → Takes r n (marked_with r n)
marked_takes r n below within = record {
  greatest = omega arith;
  told = λ m near. told m (cases_order m n) (cases_order m r.greatest);
}
  where
    told : (m : ℕ) → (m ≡ n) ⊎ ((m < n) ⊎ (n < m)) → (m ≡ r.greatest) ⊎ ((m < r.greatest) ⊎ (r.greatest < m)) → came (marked_with r n) m ≡ (m == n || came r m)
    told m (inl is) at =
        let set : bit_at (marked_with r n).bits (r.greatest - 1 - m) ≡ 1 = ap (λ k. bit_at (marked_with r n).bits (r.greatest - 1 - k)) is ∙ bit_at_set_same w64 r.bits (r.greatest - 1 - n) (omega arith) in
        came_below (marked_with r n) m (omega arith) ∙ ap (λ b. b == 1) set ∙ sym (by_equal m n (came r m) is)
    told m (inr away) (inl is) = came_at_greatest (marked_with r n) m is ∙ sym (came_at_greatest r m is) ∙ sym (by_other m n (came r m) (λ e. not_equal m n away e))
    told m (inr away) (inr (inl less)) =
        let other = bit_at_set_other w64 r.bits (r.greatest - 1 - n) (omega arith) (r.greatest - 1 - m) (λ e. not_equal m n away (omega arith)) in
        came_below (marked_with r n) m less ∙ ap (λ b. b == 1) other ∙ sym (came_below r m less) ∙ sym (by_other m n (came r m) (λ e. not_equal m n away e))
    told m (inr away) (inr (inr more)) = came_above (marked_with r n) m more ∙ sym (came_above r m more) ∙ sym (by_other m n (came r m) (λ e. not_equal m n away e))
