-- Digits of a number, and the number of digits.
use Rattle.std.proofs.Common.{◌≡◌, ℕ, zero, suc, ◌+◌, ◌*◌, ◌-◌, ◌/◌, ◌%◌, ◌^◌, ◌<◌, ◌≤◌, Bool, true, false, List, [], ◌∷◌, ◌++◌, length, Option, Some, None, refl, sym, ap, ◌∙◌, arith, append_assoc, lit<, cond, Result, Ok, Err, OnOk, is_ok}
use Rattle.std.proofs.Math.Nat.{pow-suc, pow-le-pow_right}
use Rattle.std.proofs.lemmas.List.{append-nil}
use Rattle.std.proofs.lemmas.Bool.Decides.{nat_tests}
use Rattle.commit_frames.specs.Digits.{digits, kept_or, is_digit, below, number_in}

pub length-digits : (k n : ℕ) → length (digits k n) ≡ k
unfolding digits
length-digits zero n = refl
length-digits (suc k) n = ap suc (length-digits k (n / 128))

pub digits_step : (k j n : ℕ) → k ≡ j + 1 → digits k n ≡ (128 + n % 128) ∷ digits j (n / 128)
unfolding digits
digits_step zero j n is = absurd (omega arith)
digits_step (suc k) j n is = let e : k ≡ j = omega arith in ap (λ (i : ℕ). (128 + n % 128) ∷ digits i (n / 128)) e

-- one digit more
pub digit_put : (out before : List ℕ) (count i n number : ℕ) → i < count → out ++ digits (count - i) n ≡ before ++ digits count number
    → (out ++ (128 + n % 128) ∷ []) ++ digits (count - (i + 1)) (n / 128) ≡ before ++ digits count number
digit_put out before count i n number lt is =
    let e : count - i ≡ count - (i + 1) + 1 = omega arith in
    append_assoc out ((128 + n % 128) ∷ []) (digits (count - (i + 1)) (n / 128)) ∙ ap (λ (l : List ℕ). out ++ l) (sym (digits_step (count - i) (count - (i + 1)) n e)) ∙ is

digit_kept : (lost n : ℕ) → kept_or lost (128 + n % 128) ≡ 128 + n % 128
digit_kept lost n = grind (arith, nat_tests)

digit_is : (n : ℕ) → is_digit (128 + n % 128) ≡ true
digit_is n = grind (arith, nat_tests)

-- a number that fits in its digits is read back, whatever stands for a lost digit
pub number_digits : (lost k n : ℕ) → n < 128 ^ k → number_in lost (digits k n) ≡ Some n
unfolding digits
number_digits lost zero n lt = let e : 0 ≡ n = omega arith in ap Some e
number_digits lost (suc k) n lt =
    let room : n / 128 < 128 ^ k = omega (arith, pow-suc 128 k) in
    let b = 128 + n % 128 in
    let e : b - 128 + 128 * (n / 128) ≡ n = omega arith in
    ap (λ (d : ℕ). below (is_digit d) d (number_in lost (digits k (n / 128)))) (digit_kept lost n)
    ∙ ap (λ (t : Bool). below t b (number_in lost (digits k (n / 128)))) (digit_is n)
    ∙ ap (λ (o : Option ℕ). below true b o) (number_digits lost k (n / 128) room)
    ∙ ap Some e

-- a digit that was not lost
pub record IsKept (byte : ℕ) : Type 0 where
  pub same : kept_or 0 byte ≡ byte
  pub low : 128 ≤ byte
  pub high : byte < 256

kept_digit : (byte : ℕ) → is_digit (kept_or 0 byte) ≡ true → IsKept byte
kept_digit byte is = grind (arith, nat_tests)

-- the digits that were read are those of their number
pub digits_number : (bytes : List ℕ) (n : ℕ) → number_in 0 bytes ≡ Some n → digits (length bytes) n ≡ bytes
unfolding digits
digits_number [] n is = refl
digits_number (byte ∷ bytes) n is = by (is_digit (kept_or 0 byte)) (number_in 0 bytes) refl refl is (digits_number bytes)
  where
    by : (t : Bool) (o : Option ℕ) → is_digit (kept_or 0 byte) ≡ t → number_in 0 bytes ≡ o → below t (kept_or 0 byte) o ≡ Some n → ((q : ℕ) → number_in 0 bytes ≡ Some q → digits (length bytes) q ≡ bytes) → (128 + n % 128) ∷ digits (length bytes) (n / 128) ≡ byte ∷ bytes
    by true (Some q) digit others value higher =
        let kept = kept_digit byte digit in
        let v : kept_or 0 byte - 128 + 128 * q ≡ n = cc in
        let low : 128 + n % 128 ≡ byte = omega (arith, v, kept.same, kept.low, kept.high) in
        let high : n / 128 ≡ q = omega (arith, v, kept.same, kept.low, kept.high) in
        let rest : digits (length bytes) (n / 128) ≡ bytes = ap (λ (m : ℕ). digits (length bytes) m) high ∙ higher q others in
        (λ i. low i ∷ rest i)
    by true None digit others value higher = absurd (cc)
    by false o digit others value higher = absurd (cc)

digits_none : (k n : ℕ) → k ≡ 0 → digits k n ≡ []
unfolding digits
digits_none zero n is = refl
digits_none (suc k) n is = absurd (omega arith)

-- all digits
pub digits_all : (out before : List ℕ) (count i n number : ℕ) → count ≤ i → out ++ digits (count - i) n ≡ before ++ digits count number → out ≡ before ++ digits count number
digits_all out before count i n number le is =
    let e : count - i ≡ 0 = omega arith in
    sym (append-nil out) ∙ ap (λ (l : List ℕ). out ++ l) (sym (digits_none (count - i) n e)) ∙ is

-- the powers that fit
pub room_of : (k n : ℕ) → k ≤ 8 → n < 128 ^ k → 128 * n + 127 < 2 ^ 64
room_of k n le lt = let most : 128 ^ k ≤ 128 ^ 8 = pow-le-pow_right {n = 128} (lit< tt) {i = k} {j = 8} le in omega (arith, most, lt)

-- what was appended, if the call succeeded
pub ok_items : {T E : Type 0} (r : Result T E) (x a b : List ℕ) → x ≡ cond (is_ok r) a b → OnOk r (x ≡ a)
ok_items (Ok v) x a b e = e
ok_items (Err v) x a b e = tt

pub on_ok_all : {T E P : Type 0} (r : Result T E) → P → OnOk r P
on_ok_all (Ok v) p = p
on_ok_all (Err v) p = tt
