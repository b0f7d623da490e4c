-- Numerals: what parsing answers, and that a number has one spelling.
use Rattle.std.proofs.Common.{◌≡◌, ℕ, zero, suc, ◌-◌, ◌<◌, ◌≤◌, ◌^◌, ◌≢◌, Bool, true, false, not, ◌&&◌, ◌||◌, ◌==◌, nat_le, if◌then◌else◌, List, length, slice_index, get_or, Some, None, Result, Ok, Err, refl, sym, ap, ◌∙◌, arith, lit<}
use Rattle.std.proofs.lemmas.Bool.Decides.{nat_tests}
use Rattle.std.proofs.lemmas.Str.{IsUtf8-from_ascii}
use Rattle.std.proofs.lemmas.Str.Parse.{IsNumeralModel, numerals_by_value, tells_all_ascii_digits, parse_plain}
use Rattle.std.proofs.lemmas.Fmt.{IsAscii-from_digits, decimal-digits_value, digits_decimal, digits_value-decimal, decimal_nonempty, first_decimal, decimal_digit}
use Rattle.std.specs.Fmt.{decimal}
use Rattle.std.specs.Str.{all_ascii_digits, IsUtf8}
use Rattle.std.specs.Str.Parse.{digits_value, ParsesUnsigned}
use Rattle.std.specs.Result.{OkIff, result_ok}
use Rattle.lexemes.specs.Words.{is_numeral, number_within}

-- the words of std for digits and their value
pub own : IsNumeralModel (λ ds. all_ascii_digits ds ≡ true) (digits_value 10)
own = numerals_by_value (λ ds. all_ascii_digits ds ≡ true) tells_all_ascii_digits

-- what is no text is no numeral
pub number_within_no_text : (low high : ℕ) (w : List ℕ) → ¬ (IsUtf8 w) → number_within low high w ≡ None
number_within_no_text low high w bad = by (all_ascii_digits w) refl
  where
    by : (b : Bool) → all_ascii_digits w ≡ b → number_within low high w ≡ None
    by true e = absurd (bad (IsUtf8-from_ascii w (IsAscii-from_digits w (own.to w e))))
    by false e = rw e refl

-- no zero stands in front of another digit
abbrev pub is_unpadded : List ℕ → Bool
is_unpadded w = not (slice_index w 0 == 48) || length w == 1

parsed_ok : (w : List ℕ) (v : ℕ) → all_ascii_digits w ≡ true → 0 < length w → is_unpadded w ≡ true → v < 2 ^ 64 → digits_value 10 w ≡ v → Some v ≡ number_within 0 (2 ^ 64 - 1) w
parsed_ok w v d l u s e = grind (arith, nat_tests)

parsed_err : (w : List ℕ) → (all_ascii_digits w ≡ true → 0 < length w → digits_value 10 w < 2 ^ 64 → ⊥) → None ≡ number_within 0 (2 ^ 64 - 1) w
parsed_err w bad = grind (arith, nat_tests)

-- parsing answers the number of an unpadded numeral
pub number_within-parsed : {E : Type 0} (w : List ℕ) (r : Result ℕ E) → ParsesUnsigned 64 10 w r → get_or w 0 0 ≢ 43 → is_unpadded w ≡ true
    → result_ok r ≡ number_within 0 (2 ^ 64 - 1) w
number_within-parsed {E = E} w r parses plus unpadded = by r (parse_plain own 64 w r parses plus)
  where
    by : (r : Result ℕ E) → OkIff r ((all_ascii_digits w ≡ true) × (0 < length w) × (digits_value 10 w < 2 ^ 64)) (digits_value 10 w)
        → result_ok r ≡ number_within 0 (2 ^ 64 - 1) w
    by (Ok v) (h, e) = ap Some e ∙ parsed_ok w (digits_value 10 w) h.0 h.1 unpadded h.2 refl
    by (Err e) bad = parsed_err w (λ d l s. bad (d, l, s))

-- what the test of a numeral says
abbrev NumeralParts : List ℕ → Type 0
NumeralParts w = (all_ascii_digits w ≡ true) × (0 < length w) × (get_or w 0 0 ≡ 48 → length w ≡ 1)

numeral_parts : (w : List ℕ) → is_numeral w ≡ true → NumeralParts w
numeral_parts w h = grind (arith, nat_tests)

is_numeral_from : (w : List ℕ) → all_ascii_digits w ≡ true → 0 < length w → (get_or w 0 0 ≡ 48 → length w ≡ 1) → is_numeral w ≡ true
is_numeral_from w d l p = grind (arith, nat_tests)

within_parts : (b c d : Bool) (n m : ℕ) → (if b && c && d then Some n else None) ≡ Some m → (b ≡ true) × (c ≡ true) × (d ≡ true) × (n ≡ m)
within_parts b c d n m h = grind arith

-- the word of a number is its decimal spelling
pub number_within-some : (low high : ℕ) (w : List ℕ) (n : ℕ) → high < 2 ^ 64 → number_within low high w ≡ Some n
    → (w ≡ decimal n) × (low ≤ n) × (n ≤ high)
number_within-some low high w n fits h =
    let parts = within_parts (is_numeral w) (nat_le low (digits_value 10 w)) (nat_le (digits_value 10 w) high) (digits_value 10 w) n h in
    let digits = numeral_parts w parts.0 in
    let least : low ≤ digits_value 10 w = grind (arith, nat_tests, parts.1) in
    let most : digits_value 10 w ≤ high = grind (arith, nat_tests, parts.2) in
    let small : digits_value 10 w < 2 ^ 64 = omega arith in
    let spelled : decimal (digits_value 10 w) ≡ w = decimal-digits_value own w digits.0 digits.1 digits.2 small in
    let value : digits_value 10 w ≡ n = parts.3 in
    (sym spelled ∙ ap decimal value, omega arith, omega arith)

length_of_zero : (n : ℕ) → n < 2 ^ 64 → get_or (decimal n) 0 0 ≡ 48 → length (decimal n) ≡ 1
length_of_zero zero fits h = ap length (decimal_digit 0 (lit< tt))
length_of_zero (suc n) fits h = let first = first_decimal (suc n) (omega arith) fits in absurd (omega (arith, first))

-- the decimal spelling of a number in range is read as the number
pub number_within-decimal : (low high n : ℕ) → low ≤ n → n ≤ high → n < 2 ^ 64 → number_within low high (decimal n) ≡ Some n
number_within-decimal low high n least most fits =
    let numeral : is_numeral (decimal n) ≡ true =
    is_numeral_from (decimal n) (digits_decimal own n fits) (decimal_nonempty n fits) (length_of_zero n fits) in
    let value : digits_value 10 (decimal n) ≡ n = digits_value-decimal own n fits in
    rw (numeral, value) (grind (arith, nat_tests))
