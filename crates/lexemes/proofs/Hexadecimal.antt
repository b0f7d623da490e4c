-- Bytes in lower-case hexadecimal digits have one spelling.
use Rattle.std.proofs.Common.{◌≡◌, ℕ, zero, suc, ◌+◌, ◌*◌, ◌/◌, ◌%◌, ◌<◌, ◌≤◌, ◌==◌, nat_le, Bool, true, false, not, ◌&&◌, ◌||◌, inl, inr, if◌then◌else◌, List, [], ◌∷◌, length, slice_index, Option, Some, None, Result, Ok, Err, refl, sym, ap, ◌∙◌, arith}
use Rattle.std.proofs.lemmas.Bool.{and_parts, cases_lt, eqb-true, or_parts}
use Rattle.std.proofs.lemmas.Bool.Decides.{nat_tests}
use Rattle.std.specs.Char.{is_ascii_uppercase}
use Rattle.std.specs.List.{list_any}
use Rattle.std.specs.Result.{result_ok}
use Rattle.hex.specs.Hex.{IsBytes, decode_of, decode_pairs, digit_or_error, encode_lower, encode_with, hex_digit_value, lower_digits, pair_value, value_at, ◌>>=◌}
use Rattle.hex.specs.declared.error.FromHexError.{FromHexError}
use Rattle.hex.specs.declared.error.FromHexError.TheVariants.{OddLength}
use Rattle.hex.proofs.HexLemmas.{decode_of-encode_lower, decode_pairs-ok}
use Rattle.lexemes.specs.Spelling.{HasBytes}
use Rattle.lexemes.specs.Words.{bytes_within, with_length}

-- ---- one digit

-- a digit that is not upper-case is the digit of its value
abbrev is_lower_digit : ℕ → Option ℕ → Bool
is_lower_digit c None = true
is_lower_digit c (Some v) = is_ascii_uppercase c || slice_index lower_digits v == c

abbrev all_lower : ℕ → Bool
all_lower zero = true
all_lower (suc n) = is_lower_digit n (hex_digit_value n) && all_lower n

all_lower-at : (n k : ℕ) → all_lower n ≡ true → k < n → is_lower_digit k (hex_digit_value k) ≡ true
all_lower-at zero k h lt = absurd (omega arith)
all_lower-at (suc n) k h lt =
    let parts = and_parts (is_lower_digit n (hex_digit_value n)) (all_lower n) h in
    elim (cases_lt k n) [
      | inl below ↦ all_lower-at n k parts.1 below
      | inr top ↦
          let e : k ≡ n = omega arith in
          rw e parts.0
    ]

hex_digit_value-below : (c v : ℕ) → hex_digit_value c ≡ Some v → c < 103
hex_digit_value-below c v h = grind (arith)

hex_digit_value-small : (c v : ℕ) → hex_digit_value c ≡ Some v → v < 16
hex_digit_value-small c v h = grind (arith)

-- the digit of a value
digit_back : (c v : ℕ) → hex_digit_value c ≡ Some v → is_ascii_uppercase c ≡ false → slice_index lower_digits v ≡ c
digit_back c v read lower =
    let all = all_lower-at 103 c refl (hex_digit_value-below c v read) in
    let one : (is_ascii_uppercase c || slice_index lower_digits v == c) ≡ true = rw read at all in
    eqb-true _ _ (rw lower at one)

-- ---- the pairs

bind_ok : {A B : Type 0} (r : Result A FromHexError) (f : A → Result B FromHexError) (y : B)
    → (r >>= f) ≡ Ok y → (x : A) × (r ≡ Ok x) × (f x ≡ Ok y)
bind_ok (Ok x) f y h = (x, refl, h)
bind_ok (Err e) f y h = cc h

digit_read : (c i : ℕ) (o : Option ℕ) (v : ℕ) → digit_or_error c i o ≡ Ok v → o ≡ Some v
digit_read c i (Some w) v h = cc h
digit_read c i None v h = cc h

ok_same : {A : Type 0} {x y : A} → ◌≡◌ {A = Result A FromHexError} (Ok x) (Ok y) → x ≡ y
ok_same h = cc h

-- the digits of a byte are those that it was made of
pair_back : (high low byte a b : ℕ) → low < 16 → high * 16 + low ≡ byte → slice_index lower_digits high ≡ a → slice_index lower_digits low ≡ b
    → (slice_index lower_digits (byte / 16) ≡ a) × (slice_index lower_digits (byte % 16) ≡ b)
pair_back high low byte a b small made digit_a digit_b =
    let first : byte / 16 ≡ high = omega arith in
    let second : byte % 16 ≡ low = omega arith in
    (ap (slice_index lower_digits) first ∙ digit_a, ap (slice_index lower_digits) second ∙ digit_b)

cons_2 : {a b c d : ℕ} {xs ys : List ℕ} → a ≡ b → c ≡ d → xs ≡ ys → a ∷ c ∷ xs ≡ b ∷ d ∷ ys
cons_2 p q r = λ i. p i ∷ q i ∷ r i

-- lower-case digits are the digits of the bytes that they decode to
encode-decode_pairs : (i : ℕ) (word bytes : List ℕ) → decode_pairs i word ≡ Ok bytes → list_any is_ascii_uppercase word ≡ false
    → encode_lower bytes ≡ word
unfolding encode_with decode_pairs
encode-decode_pairs i [] bytes h lower = rw (← (ok_same h)) refl
encode-decode_pairs i (a ∷ []) bytes h lower = cc h
encode-decode_pairs i (a ∷ b ∷ rest) bytes h lower =
    let p0 = bind_ok (pair_value a b i) _ bytes h in
    let p1 = bind_ok (value_at a i) _ p0.0 p0.1 in
    let p2 = bind_ok (value_at b (i + 1)) _ p0.0 p1.2 in
    let p3 = bind_ok (decode_pairs (i + 2) rest) _ bytes p0.2 in
    let first = or_parts (is_ascii_uppercase a) _ lower in
    let second = or_parts (is_ascii_uppercase b) _ first.1 in
    let read_a = digit_read a i (hex_digit_value a) p1.0 p1.1 in
    let read_b = digit_read b (i + 1) (hex_digit_value b) p2.0 p2.1 in
    let pair = pair_back p1.0 p2.0 p0.0 a b (hex_digit_value-small b p2.0 read_b) (ok_same p2.2) (digit_back a p1.0 read_a first.0) (digit_back b p2.0 read_b second.0) in
    ap encode_lower (sym (ok_same p3.2)) ∙ cons_2 pair.0 pair.1 (encode-decode_pairs (i + 2) rest p3.0 p3.1 second.1)

-- ---- words

decoded_pairs : (word bytes : List ℕ) → decode_of word ≡ Ok bytes → decode_pairs 0 word ≡ Ok bytes
decoded_pairs word bytes h = by (length word % 2 == 1) h
  where
    by : (b : Bool) → (if b then Err OddLength else decode_pairs 0 word) ≡ Ok bytes → decode_pairs 0 word ≡ Ok bytes
    by true e = cc e
    by false e = e

result_ok_some : {A : Type 0} (r : Result A FromHexError) (x : A) → result_ok r ≡ Some x → r ≡ Ok x
result_ok_some (Ok y) x h = cc h
result_ok_some (Err e) x h = cc h

with_length_some : (low high : ℕ) (o : Option (List ℕ)) (bytes : List ℕ) → with_length low high o ≡ Some bytes
    → (o ≡ Some bytes) × (low ≤ length bytes) × (length bytes ≤ high)
with_length_some low high None bytes h = cc h
with_length_some low high (Some b) bytes h = by (nat_le low (length b) && nat_le (length b) high) refl h
  where
    by : (t : Bool) → nat_le low (length b) && nat_le (length b) high ≡ t → (if t then Some b else None) ≡ Some bytes
        → (Some b ≡ Some bytes) × (low ≤ length bytes) × (length bytes ≤ high)
    by true e h = let same : b ≡ bytes = cc h in (h, grind (arith, nat_tests), grind (arith, nat_tests))
    by false e h = cc h

-- a word of bytes is their spelling
pub bytes_within-some : (low high : ℕ) (word bytes : List ℕ) → bytes_within low high word ≡ Some bytes
    → (word ≡ encode_lower bytes) × HasBytes low high bytes
bytes_within-some low high word bytes h = by (list_any is_ascii_uppercase word) refl h
  where
    by : (t : Bool) → list_any is_ascii_uppercase word ≡ t → (if t then None else with_length low high (result_ok (decode_of word))) ≡ Some bytes
        → (word ≡ encode_lower bytes) × HasBytes low high bytes
    by true e h = cc h
    by false e h =
        let sized = with_length_some low high (result_ok (decode_of word)) bytes h in
        let pairs = decoded_pairs word bytes (result_ok_some (decode_of word) bytes sized.0) in (
          sym (encode-decode_pairs 0 word bytes pairs e),
          record {
            least = sized.1;
            most = sized.2;
            each = (decode_pairs-ok 0 word bytes pairs).2;
          },
        )

-- ---- the spelling is read

abbrev no_upper_digit : ℕ → Bool
no_upper_digit zero = true
no_upper_digit (suc n) = not (is_ascii_uppercase (slice_index lower_digits n)) && no_upper_digit n

no_upper_digit-at : (n k : ℕ) → no_upper_digit n ≡ true → k < n → is_ascii_uppercase (slice_index lower_digits k) ≡ false
no_upper_digit-at zero k h lt = absurd (omega arith)
no_upper_digit-at (suc n) k h lt =
    let parts = and_parts (not (is_ascii_uppercase (slice_index lower_digits n))) (no_upper_digit n) h in
    elim (cases_lt k n) [
      | inl below ↦ no_upper_digit-at n k parts.1 below
      | inr top ↦
          let e : k ≡ n = omega arith in
          rw e (not_true (is_ascii_uppercase (slice_index lower_digits n)) parts.0)
    ]
  where
    not_true : (b : Bool) → not b ≡ true → b ≡ false
    not_true true h = cc h
    not_true false h = refl

lower_encode : (bytes : List ℕ) → IsBytes bytes → list_any is_ascii_uppercase (encode_lower bytes) ≡ false
unfolding encode_with
lower_encode [] h = refl
lower_encode (b ∷ rest) h =
    let fits : b < 256 = h 0 in
    rw (no_upper_digit-at 16 (b / 16) refl (omega arith), no_upper_digit-at 16 (b % 16) refl (omega arith)) (lower_encode rest (λ k. h (suc k)))

-- the spelling of bytes is read as them
pub bytes_within-encode : (low high : ℕ) (bytes : List ℕ) → HasBytes low high bytes → bytes_within low high (encode_lower bytes) ≡ Some bytes
bytes_within-encode low high bytes h =
    let lower : list_any is_ascii_uppercase (encode_lower bytes) ≡ false = lower_encode bytes h.each in
    let read : decode_of (encode_lower bytes) ≡ Ok bytes = decode_of-encode_lower bytes h.each in
    let least : low ≤ length bytes = h.least in
    let most : length bytes ≤ high = h.most in
    rw lower (ap (λ (r : Result (List ℕ) FromHexError). with_length low high (result_ok r)) read ∙ grind (arith, nat_tests, least, most))
