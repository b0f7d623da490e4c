-- A header of which one byte was changed.
use Rattle.std.proofs.Common.{◌≡◌, ◌⊎◌, inl, inr, ⊎_elim, ℕ, ◌+◌, ◌^◌, ◌<◌, ◌≤◌, List, [], take, drop, get_or, Some, sym, ap, ◌∙◌, arith}
use Rattle.std.proofs.lemmas.Bool.{cases_eq}
use Rattle.std.proofs.lemmas.List.{get_or-take, get_or-drop, append-nil, ext_get_or}
use Rattle.commit_frames.specs.Digits.{digits, number_in}
use Rattle.commit_frames.specs.Headers.{header_bytes, rest_of, FitsHeader}
use Rattle.commit_frames.specs.Frames.{IsLostFrom}
use Rattle.commit_frames.specs.declared.header.Header.{Header}
use Rattle.commit_frames.proofs.Numbers.{length-digits, number_digits}
use Rattle.commit_frames.proofs.Pieces.{length-header, read_back, digits_at}
use Rattle.commit_frames.proofs.Torn.{no_zero_header}
use Rattle.commit_frames.proofs.Twins.{digit_range, twin_digit}

-- where a digit of a header stands
digit_stands : (h : Header) (i k n j : ℕ) → i + k ≤ 44 → j < k → number_in 0 (take k (drop i (header_bytes h))) ≡ Some n → get_or (header_bytes h) (i + j) 0 ≡ get_or (digits k n) j 0
digit_stands h i k n j le lt is =
    sym (get_or-drop i (header_bytes h) j 0) ∙ sym (get_or-take k (drop i (header_bytes h)) j 0 lt) ∙ ap (λ (l : List ℕ). get_or l j 0) (digits_at (header_bytes h) i k n (omega (arith, le, length-header h)) is)

-- a header, and what may be left of another one when one byte of it is changed
module _ (h g : Header) (bytes : List ℕ) (place : ℕ) (fits : FitsHeader h) (fits' : FitsHeader g) (kept : (i : ℕ) → (i ≡ place → ⊥) → get_or bytes i 0 ≡ get_or (header_bytes h) i 0) (lost : IsLostFrom (header_bytes g) bytes) where
  -- a byte that was not changed is read as it was
  read_same : (i : ℕ) → i < 44 → (i ≡ place → ⊥) → get_or (header_bytes g) i 0 ≡ get_or (header_bytes h) i 0
  read_same i lt ne =
      ⊎_elim (λ (z : get_or bytes i 0 ≡ 0). absurd (omega (arith, z, kept i ne, (no_zero_header h).each i (omega (arith, lt, length-header h)))))
      (λ (e : get_or bytes i 0 ≡ get_or (header_bytes g) i 0). sym e ∙ kept i ne)
      (lost.each i (omega (arith, lt, length-header g)))

  -- of two spellings of a number one was not changed
  number_same : (i t n m : ℕ) → i + 5 ≤ t → t + 5 ≤ 44 → n < 2 ^ 35 → m < 2 ^ 35
      → number_in 0 (take 5 (drop i (header_bytes h))) ≡ Some n → number_in 0 (take 5 (drop t (header_bytes h))) ≡ Some (rest_of n)
      → number_in 0 (take 5 (drop i (header_bytes g))) ≡ Some m → number_in 0 (take 5 (drop t (header_bytes g))) ≡ Some (rest_of m) → m ≡ n
  number_same i t n m le le' small small' a b c d =
      let same : digits 5 m ≡ digits 5 n = ext_get_or 0 (digits 5 m) (digits 5 n) (length-digits 5 m ∙ sym (length-digits 5 n)) (λ j lt. at j (omega (arith, lt, length-digits 5 m))) in
      let read : Some m ≡ Some n = sym (number_digits 0 5 m small') ∙ ap (number_in 0) same ∙ number_digits 0 5 n small in
      cc
    where
      at : (j : ℕ) → j < 5 → get_or (digits 5 m) j 0 ≡ get_or (digits 5 n) j 0
      at j lt = by (cases_eq (i + j) place)
        where
          by : (i + j ≡ place) ⊎ (i + j ≡ place → ⊥) → get_or (digits 5 m) j 0 ≡ get_or (digits 5 n) j 0
          by (inr ne) = sym (digit_stands g i 5 m j (omega arith) lt c) ∙ read_same (i + j) (omega arith) ne ∙ digit_stands h i 5 n j (omega arith) lt a
          by (inl e) =
              let twins : get_or (digits 5 (rest_of m)) j 0 ≡ get_or (digits 5 (rest_of n)) j 0 =
              sym (digit_stands g t 5 (rest_of m) j (omega arith) lt d) ∙ read_same (t + j) (omega arith) (λ e'. absurd (omega (arith, e, e', le, lt))) ∙ digit_stands h t 5 (rest_of n) j (omega arith) lt b in
              omega (arith, twins, twin_digit 5 m j small' lt, twin_digit 5 n j small lt, (digit_range 5 m j lt).1, (digit_range 5 n j lt).1)

  pub changed_byte : (g.length ≡ h.length) × (g.zeros ≡ h.zeros)
  changed_byte =
      let a = read_back (header_bytes h) h [] fits (sym (append-nil (header_bytes h))) in
      let b = read_back (header_bytes g) g [] fits' (sym (append-nil (header_bytes g))) in (
        number_same 19 29 h.length g.length (omega arith) (omega arith) fits.size fits'.size a.size a.size_twin b.size b.size_twin,
        number_same 24 34 h.zeros g.zeros (omega arith) (omega arith) fits.zeros fits'.zeros a.zeros a.zeros_twin b.zeros b.zeros_twin,
      )
