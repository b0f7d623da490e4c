-- Words joined by a byte are parted at it again.
use Rattle.std.proofs.Common.{◌≡◌, ℕ, zero, suc, nat_le, Option, Some, None, ◌/◌, ◌%◌, ◌<◌, ◌≤◌, ◌^◌, ◌==◌, Bool, true, false, ◌&&◌, inl, inr, List, [], ◌∷◌, ◌++◌, length, slice_index, refl, ap, ◌∙◌, arith, lit<}
use Rattle.std.proofs.lemmas.Bool.{and_parts, cases_lt, or_parts}
use Rattle.std.proofs.lemmas.Bool.Decides.{nat_tests}
use Rattle.std.proofs.lemmas.Str.Parse.{digit_from_value}
use Rattle.std.proofs.lemmas.Fmt.{decimal_is_IsNumeral, decimal_nonempty}
use Rattle.std.specs.Fmt.{decimal}
use Rattle.std.specs.List.{list_all, list_any, join_with_byte}
use Rattle.std.specs.Str.Parse.{AllDigits}
use Rattle.hex.specs.Hex.{IsBytes, encode_lower, encode_with, lower_digits}
use Rattle.ens_base.specs.Words.{value_word}
use Rattle.ens_base.proofs.Tests.{itself}
use Rattle.lexemes.specs.Spelling.{IsContent, content_word}
use Rattle.lexemes.specs.Words.{parts_of}

-- whether the byte stands in the text
abbrev pub has : ℕ → List ℕ → Bool
has at text = list_any (λ b. b == at) text

pub has-append : (at : ℕ) (xs ys : List ℕ) → has at xs ≡ false → has at ys ≡ false → has at (xs ++ ys) ≡ false
has-append at [] ys p q = q
has-append at (x ∷ xs) ys p q = let parts = or_parts (x == at) _ p in rw parts.0 (has-append at xs ys parts.1 q)

-- a text without the byte is one part
pub parts_of-one : (at : ℕ) (text : List ℕ) → has at text ≡ false → parts_of at text ≡ text ∷ []
parts_of-one at [] h = refl
parts_of-one at (x ∷ xs) h = let parts = or_parts (x == at) _ h in rw (parts.0, parts_of-one at xs parts.1) refl

-- the first part ends at the byte
pub parts_of-more : (at : ℕ) (text rest : List ℕ) → has at text ≡ false → parts_of at (text ++ (at ∷ rest)) ≡ text ∷ parts_of at rest
parts_of-more at [] rest h = rw itself refl
parts_of-more at (x ∷ xs) rest h = let parts = or_parts (x == at) _ h in rw (parts.0, parts_of-more at xs rest parts.1) refl

-- each word has bytes, and none of them is the one that parts words
abbrev pub AreWords : ℕ → List (List ℕ) → Type 0
AreWords at [] = Unit {0}
AreWords at (word ∷ more) = (has at word ≡ false) × (0 < length word) × AreWords at more

-- words that are joined are parted again
pub parts_of-join : (at : ℕ) (word : List ℕ) (more : List (List ℕ)) → AreWords at (word ∷ more) → parts_of at (join_with_byte at (word ∷ more)) ≡ word ∷ more
parts_of-join at word [] h = parts_of-one at word h.0
parts_of-join at word (next ∷ more) h = parts_of-more at word (join_with_byte at (next ∷ more)) h.0 ∙ ap (λ (ws : List (List ℕ)). word ∷ ws) (parts_of-join at next more h.2)

-- ---- which bytes a spelling has

digit_other : (at c : ℕ) → at < 48 → 48 ≤ c → (c == at) ≡ false
digit_other at c h k = grind (arith, nat_tests)

has-digits : (at : ℕ) (ds : List ℕ) → at < 48 → AllDigits 10 ds → has at ds ≡ false
has-digits at [] low h = refl
has-digits at (c ∷ cs) low h = rw (digit_other at c low (digit_from_value c h.0).0) (has-digits at cs low h.1)

pub has-decimal : (at n : ℕ) → at < 48 → n < 2 ^ 64 → has at (decimal n) ≡ false
has-decimal at n low fits = has-digits at (decimal n) low (decimal_is_IsNumeral n fits).0.1

pub length-decimal : (n : ℕ) → n < 2 ^ 64 → 0 < length (decimal n)
length-decimal n fits = decimal_nonempty n fits

-- the digits of the table are not below 48
abbrev are_high : ℕ → Bool
are_high zero = true
are_high (suc n) = nat_le 48 (slice_index lower_digits n) && are_high n

are_high-at : (n k : ℕ) → are_high n ≡ true → k < n → 48 ≤ slice_index lower_digits k
are_high-at zero k h lt = absurd (omega arith)
are_high-at (suc n) k h lt =
    let parts = and_parts (nat_le 48 (slice_index lower_digits n)) (are_high n) h in
    elim (cases_lt k n) [
      | inl below ↦ are_high-at n k parts.1 below
      | inr top ↦
          let e : k ≡ n = omega arith in
          rw e (true_le 48 (slice_index lower_digits n) parts.0)
    ]
  where
    true_le : (a b : ℕ) → nat_le a b ≡ true → a ≤ b
    true_le a b h = grind (arith, nat_tests)

-- no byte below 48 stands in the digits of bytes
pub has-encode : (at : ℕ) (bytes : List ℕ) → at < 48 → IsBytes bytes → has at (encode_lower bytes) ≡ false
unfolding encode_with
has-encode at [] low h = refl
has-encode at (b ∷ rest) low h =
    let fits : b < 256 = h 0 in
    rw (digit_other at _ low (are_high-at 16 (b / 16) refl (omega arith)), digit_other at _ low (are_high-at 16 (b % 16) refl (omega arith)))
    (has-encode at rest low (λ k. h (suc k)))

-- bytes have digits
pub length-encode : (bytes : List ℕ) → 0 < length bytes → 0 < length (encode_lower bytes)
unfolding encode_with
length-encode [] h = absurd (omega arith)
length-encode (b ∷ rest) h = omega arith

-- nor in a word of letters
pub has-letters : (at : ℕ) (word : List ℕ) → at < 48 → list_all (λ c. nat_le 48 c) word ≡ true → has at word ≡ false
has-letters at [] low h = refl
has-letters at (c ∷ cs) low h =
    let parts = and_parts (nat_le 48 c) (list_all (λ c. nat_le 48 c) cs) h in
    rw (digit_other at c low (true_le 48 c parts.0)) (has-letters at cs low parts.1)
  where
    true_le : (a b : ℕ) → nat_le a b ≡ true → a ≤ b
    true_le a b h = grind (arith, nat_tests)

-- two bytes that are not one
pub other : (at c : ℕ) → at < c → (c == at) ≡ false
other at c h = grind (arith, nat_tests)

pub has-value : (at : ℕ) (value : List ℕ) → at < 45 → IsBytes value → has at (value_word value) ≡ false
has-value at [] low h = rw (other at 45 low) refl
has-value at (b ∷ rest) low h = has-encode at (b ∷ rest) (omega arith) h

pub length-value : (value : List ℕ) → 0 < length (value_word value)
length-value [] = lit< tt
length-value (b ∷ rest) = length-encode (b ∷ rest) (omega arith)

pub has-content : (at : ℕ) (content : Option (List ℕ)) → at < 45 → IsContent content → has at (content_word content) ≡ false
has-content at None low h = rw (other at 45 low) refl
has-content at (Some bytes) low h = has-encode at bytes (omega arith) h.each

pub length-content : (content : Option (List ℕ)) → IsContent content → 0 < length (content_word content)
length-content None h = lit< tt
length-content (Some bytes) h = let some : 1 ≤ length bytes = h.least in length-encode bytes (omega arith)
