-- Numbers of five digits that are spelled twice.
use Rattle.std.proofs.Common.{◌≡◌, ◌⊎◌, inl, inr, ⊎_elim, ℕ, zero, suc, ◌-◌, ◌/◌, ◌^◌, ◌<◌, ◌≤◌, List, length, get_or, Some, sym, ap, ◌∙◌, arith}
use Rattle.std.proofs.Math.Nat.{pow-suc}
use Rattle.std.proofs.lemmas.Bool.{cases_eq}
use Rattle.std.proofs.lemmas.Bool.Decides.{nat_tests}
use Rattle.commit_frames.specs.Digits.{digits, either}
use Rattle.commit_frames.specs.Frames.{IsLostFrom}
use Rattle.commit_frames.proofs.Numbers.{length-digits}
use Rattle.commit_frames.proofs.Leftovers.{same_some}

-- each digit of a number
pub digit_range : (k n i : ℕ) → i < k → (128 ≤ get_or (digits k n) i 0) × (get_or (digits k n) i 0 < 256)
unfolding digits
digit_range zero n i lt = absurd (omega arith)
digit_range (suc k) n zero lt = (omega arith, omega arith)
digit_range (suc k) n (suc i) lt = digit_range k (n / 128) i (omega arith)

-- each digit of what is left of a number is 383 less that of the number
pub twin_digit : (k n i : ℕ) → n < 128 ^ k → i < k → get_or (digits k (128 ^ k - 1 - n)) i 0 ≡ 383 - get_or (digits k n) i 0
unfolding digits
twin_digit zero n i fits lt = absurd (omega arith)
twin_digit (suc k) n zero fits lt = omega (arith, pow-suc 128 k, fits)
twin_digit (suc k) n (suc i) fits lt =
    let rest : (128 ^ suc k - 1 - n) / 128 ≡ 128 ^ k - 1 - n / 128 = omega (arith, pow-suc 128 k, fits) in
    let room : n / 128 < 128 ^ k = omega (arith, pow-suc 128 k, fits) in
    ap (λ (m : ℕ). get_or (digits k m) i 0) rest ∙ twin_digit k (n / 128) i room (omega arith)

-- what two bytes tell
told : (b t m : ℕ) → either b t ≡ Some m → ((t ≡ 0) × (m ≡ b)) ⊎ ((128 ≤ t) × (t < 256) × (m ≡ 383 - t) × ((b ≡ 0) ⊎ (b ≡ m)))
told b t m is = by (cases_eq t 0)
  where
    by : (t ≡ 0) ⊎ (t ≡ 0 → ⊥) → ((t ≡ 0) × (m ≡ b)) ⊎ ((128 ≤ t) × (t < 256) × (m ≡ 383 - t) × ((b ≡ 0) ⊎ (b ≡ m)))
    by (inl z) = inl (z, grind (arith, nat_tests))
    by (inr ne) =
        let low : 128 ≤ t = grind (arith, nat_tests) in
        let high : t < 256 = grind (arith, nat_tests) in
        let same : m ≡ 383 - t = grind (arith, nat_tests) in
        inr (low, high, same, kept (cases_eq b 0) same)
      where
        kept : (b ≡ 0) ⊎ (b ≡ 0 → ⊥) → m ≡ 383 - t → (b ≡ 0) ⊎ (b ≡ m)
        kept (inl z) same = inl z
        kept (inr some) same = inr (grind (arith, nat_tests))

one_there : (b t m d : ℕ) → 128 ≤ d → d < 256 → either b t ≡ Some m → (m ≡ 0) ⊎ (m ≡ d) → ((b ≡ 0) ⊎ (b ≡ d)) × ((t ≡ 0) ⊎ (t ≡ 383 - d))
one_there b t m d low high is left = by (told b t m is) left
  where
    by : ((t ≡ 0) × (m ≡ b)) ⊎ ((128 ≤ t) × (t < 256) × (m ≡ 383 - t) × ((b ≡ 0) ⊎ (b ≡ m))) → (m ≡ 0) ⊎ (m ≡ d) → ((b ≡ 0) ⊎ (b ≡ d)) × ((t ≡ 0) ⊎ (t ≡ 383 - d))
    by (inl (z, e)) (inl none) = (inl (sym e ∙ none), inl z)
    by (inl (z, e)) (inr one) = (inr (sym e ∙ one), inl z)
    by (inr (low', high', same, kept)) (inl none) = absurd (omega (arith, none, same, low', high'))
    by (inr (low', high', same, kept)) (inr one) = (⊎_elim (λ z. inl z) (λ (e : b ≡ m). inr (e ∙ one)) kept, inr (omega (arith, one, same, low', high')))

one_back : (b t d : ℕ) → 128 ≤ d → d < 256 → (b ≡ 0) ⊎ (b ≡ d) → (t ≡ 0) ⊎ (t ≡ 383 - d) → (m : ℕ) × (either b t ≡ Some m) × ((m ≡ 0) ⊎ (m ≡ d))
one_back b t d low high left (inl z) = (b, grind (arith, nat_tests), left)
one_back b t d low high (inl none) (inr e) = (383 - t, grind (arith, nat_tests), inr (omega (arith, e)))
one_back b t d low high (inr one) (inr e) = (383 - t, grind (arith, nat_tests), inr (omega (arith, e)))

-- digits that were put together from two spellings
pub record AreMerged (bytes twins merged : List ℕ) : Type 0 where
  pub size : length merged ≡ 5
  pub bytes_size : length bytes ≡ 5
  pub twins_size : length twins ≡ 5
  pub each : (i : ℕ) → i < 5 → either (get_or bytes i 0) (get_or twins i 0) ≡ Some (get_or merged i 0)

pub merged_there : (bytes twins merged : List ℕ) (n : ℕ) → AreMerged bytes twins merged → n < 128 ^ 5 → IsLostFrom (digits 5 n) merged → IsLostFrom (digits 5 n) bytes × IsLostFrom (digits 5 (128 ^ 5 - 1 - n)) twins
merged_there bytes twins merged n are fits lost = (
  record { size = are.bytes_size ∙ sym (length-digits 5 n); each = λ i lt. (at i (omega (arith, lt, length-digits 5 n))).0 },
  record {
    size = are.twins_size ∙ sym (length-digits 5 (128 ^ 5 - 1 - n));
    each = λ i lt.
        let small : i < 5 = omega (arith, lt, length-digits 5 (128 ^ 5 - 1 - n)) in
        ⊎_elim (λ z. inl z) (λ (e : get_or twins i 0 ≡ 383 - get_or (digits 5 n) i 0). inr (e ∙ sym (twin_digit 5 n i fits small))) (at i small).1;
  },
)
  where
    at : (i : ℕ) → i < 5 → ((get_or bytes i 0 ≡ 0) ⊎ (get_or bytes i 0 ≡ get_or (digits 5 n) i 0)) × ((get_or twins i 0 ≡ 0) ⊎ (get_or twins i 0 ≡ 383 - get_or (digits 5 n) i 0))
    at i lt =
        let range = digit_range 5 n i lt in
        one_there (get_or bytes i 0) (get_or twins i 0) (get_or merged i 0) (get_or (digits 5 n) i 0) range.0 range.1 (are.each i lt) (lost.each i (omega (arith, lt, length-digits 5 n)))

-- two bytes of two spellings tell a digit that is lost or that of the number
pub merged_each : (bytes twins : List ℕ) (n i : ℕ) → n < 128 ^ 5 → i < 5 → IsLostFrom (digits 5 n) bytes → IsLostFrom (digits 5 (128 ^ 5 - 1 - n)) twins
    → (m : ℕ) × (either (get_or bytes i 0) (get_or twins i 0) ≡ Some m) × ((m ≡ 0) ⊎ (m ≡ get_or (digits 5 n) i 0))
merged_each bytes twins n i fits lt first second =
    let range = digit_range 5 n i lt in
    one_back (get_or bytes i 0) (get_or twins i 0) (get_or (digits 5 n) i 0) range.0 range.1 (first.each i (omega (arith, lt, length-digits 5 n)))
    (⊎_elim (λ z. inl z) (λ (e : get_or twins i 0 ≡ get_or (digits 5 (128 ^ 5 - 1 - n)) i 0). inr (e ∙ twin_digit 5 n i fits lt)) (second.each i (omega (arith, lt, length-digits 5 (128 ^ 5 - 1 - n)))))

pub merged_lost : (bytes twins merged : List ℕ) (n : ℕ) → AreMerged bytes twins merged → n < 128 ^ 5 → IsLostFrom (digits 5 n) bytes → IsLostFrom (digits 5 (128 ^ 5 - 1 - n)) twins → IsLostFrom (digits 5 n) merged
merged_lost bytes twins merged n are fits first second = record {
  size = are.size ∙ sym (length-digits 5 n);
  each = λ i lt.
      let small : i < 5 = omega (arith, lt, length-digits 5 n) in
      let m = merged_each bytes twins n i fits small first second in
      let e : get_or merged i 0 ≡ m.0 = same_some (either (get_or bytes i 0) (get_or twins i 0)) (get_or merged i 0) m.0 (sym (are.each i small)) m.1 in
      ⊎_elim (λ (z : m.0 ≡ 0). inl (e ∙ z)) (λ (d : m.0 ≡ get_or (digits 5 n) i 0). inr (e ∙ d)) m.2;
}

pub five : (P : ℕ → Type 0) → P 0 → P 1 → P 2 → P 3 → P 4 → (i : ℕ) → i < 5 → P i
five P a b c d e zero lt = a
five P a b c d e (suc zero) lt = b
five P a b c d e (suc (suc zero)) lt = c
five P a b c d e (suc (suc (suc zero))) lt = d
five P a b c d e (suc (suc (suc (suc zero)))) lt = e
five P a b c d e (suc (suc (suc (suc (suc i))))) lt = absurd (omega arith)
