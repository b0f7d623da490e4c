-- What a slot holds, from its bytes.
use Rattle.std.proofs.Common.{◌≡◌, ◌⊎◌, inl, inr, ℕ, ◌+◌, ◌<◌, ◌≤◌, ◌^◌, List, [], ◌∷◌, ◌++◌, length, take, None, Some, Bool, true, false, refl, sym, ◌∙◌, ap, arith, length-append}
use Rattle.std.specs.Prelude.{nat_le, ◌==◌}
use Rattle.std.specs.Int.{w16, w64, from_be_bytes, to_be_bytes}
use Rattle.std.proofs.lemmas.Nat.{from_be_bytes-to_be_bytes_2, from_be_bytes-to_be_bytes_8}
use Rattle.std.proofs.Math.Seq.{take-append_seam}
use Rattle.std.proofs.lemmas.List.{take-append-le}
use Rattle.std.proofs.lemmas.Bool.Decides.{nat_tests}
use Rattle.std.proofs.lemmas.Bool.{cases_lt}
use Rattle.slot_disk.specs.Slots.{held, slot, shut, body}

empty_is_full : (y : ℕ) → [] ≡ y ∷ [] → ⊥
empty_is_full y is = grind (arith, is)

pub none_is_some : (s : ℕ × List ℕ) → None ≡ Some s → ⊥
none_is_some s is = grind (arith, is)

held_more : (is_open : Bool) (serial size : ℕ) (rest more : List ℕ) → size ≤ length rest → held is_open serial size (rest ++ more) ≡ held is_open serial size rest
held_more is_open serial size rest more le =
    let same : take size (rest ++ more) ≡ take size rest = take-append-le size rest more le in
    let long : length (rest ++ more) ≡ length rest + length more = length-append rest more in
    let fits : nat_le size (length (rest ++ more)) ≡ true = grind (arith, nat_tests, long) in
    let fits_too : nat_le size (length rest) ≡ true = grind (arith, nat_tests) in
    grind (arith, same, fits, fits_too)

-- more bytes after a slot that holds something change nothing
held_grows : (is_open : Bool) (serial size : ℕ) (rest more : List ℕ) (s : ℕ × List ℕ) → held is_open serial size rest ≡ Some s → held is_open serial size (rest ++ more) ≡ Some s
held_grows is_open serial size rest more s is = grind (arith, nat_tests, held_more is_open serial size rest more)

-- nor do they if all the bytes that a slot may have are there
held_whole : (is_open : Bool) (serial size : ℕ) (rest more : List ℕ) → 480 ≤ length rest → held is_open serial size (rest ++ more) ≡ held is_open serial size rest
held_whole is_open serial size rest more long = by (cases_lt 480 size)
  where
    by : (480 < size) ⊎ (size ≤ 480) → held is_open serial size (rest ++ more) ≡ held is_open serial size rest
    by (inl past) = grind (arith, nat_tests)
    by (inr le) = held_more is_open serial size rest more (omega arith)

pub slot_grows : (bytes more : List ℕ) (s : ℕ × List ℕ) → slot bytes ≡ Some s → slot (bytes ++ more) ≡ Some s
slot_grows (gate ∷ a ∷ b ∷ c ∷ d ∷ e ∷ f ∷ g ∷ h ∷ m ∷ n ∷ rest) more s is = held_grows (gate == 1) (from_be_bytes w64 (a ∷ b ∷ c ∷ d ∷ e ∷ f ∷ g ∷ h ∷ [])) (from_be_bytes w16 (m ∷ n ∷ [])) rest more s is
slot_grows [] more s is = absurd (none_is_some s is)
slot_grows (gate ∷ []) more s is = absurd (none_is_some s is)
slot_grows (gate ∷ a ∷ []) more s is = absurd (none_is_some s is)
slot_grows (gate ∷ a ∷ b ∷ []) more s is = absurd (none_is_some s is)
slot_grows (gate ∷ a ∷ b ∷ c ∷ []) more s is = absurd (none_is_some s is)
slot_grows (gate ∷ a ∷ b ∷ c ∷ d ∷ []) more s is = absurd (none_is_some s is)
slot_grows (gate ∷ a ∷ b ∷ c ∷ d ∷ e ∷ []) more s is = absurd (none_is_some s is)
slot_grows (gate ∷ a ∷ b ∷ c ∷ d ∷ e ∷ f ∷ []) more s is = absurd (none_is_some s is)
slot_grows (gate ∷ a ∷ b ∷ c ∷ d ∷ e ∷ f ∷ g ∷ []) more s is = absurd (none_is_some s is)
slot_grows (gate ∷ a ∷ b ∷ c ∷ d ∷ e ∷ f ∷ g ∷ h ∷ []) more s is = absurd (none_is_some s is)
slot_grows (gate ∷ a ∷ b ∷ c ∷ d ∷ e ∷ f ∷ g ∷ h ∷ m ∷ []) more s is = absurd (none_is_some s is)

pub slot_whole : (bytes more : List ℕ) → 491 ≤ length bytes → slot (bytes ++ more) ≡ slot bytes
slot_whole (gate ∷ a ∷ b ∷ c ∷ d ∷ e ∷ f ∷ g ∷ h ∷ m ∷ n ∷ rest) more long = held_whole (gate == 1) (from_be_bytes w64 (a ∷ b ∷ c ∷ d ∷ e ∷ f ∷ g ∷ h ∷ [])) (from_be_bytes w16 (m ∷ n ∷ [])) rest more (omega arith)
slot_whole [] more long = absurd (omega arith)
slot_whole (gate ∷ []) more long = absurd (omega arith)
slot_whole (gate ∷ a ∷ []) more long = absurd (omega arith)
slot_whole (gate ∷ a ∷ b ∷ []) more long = absurd (omega arith)
slot_whole (gate ∷ a ∷ b ∷ c ∷ []) more long = absurd (omega arith)
slot_whole (gate ∷ a ∷ b ∷ c ∷ d ∷ []) more long = absurd (omega arith)
slot_whole (gate ∷ a ∷ b ∷ c ∷ d ∷ e ∷ []) more long = absurd (omega arith)
slot_whole (gate ∷ a ∷ b ∷ c ∷ d ∷ e ∷ f ∷ []) more long = absurd (omega arith)
slot_whole (gate ∷ a ∷ b ∷ c ∷ d ∷ e ∷ f ∷ g ∷ []) more long = absurd (omega arith)
slot_whole (gate ∷ a ∷ b ∷ c ∷ d ∷ e ∷ f ∷ g ∷ h ∷ []) more long = absurd (omega arith)
slot_whole (gate ∷ a ∷ b ∷ c ∷ d ∷ e ∷ f ∷ g ∷ h ∷ m ∷ []) more long = absurd (omega arith)

-- a slot with a closed gate holds nothing
slot_closed : (gate : ℕ) (rest : List ℕ) → (gate == 1) ≡ false → slot (gate ∷ rest) ≡ None
slot_closed gate (a ∷ b ∷ c ∷ d ∷ e ∷ f ∷ g ∷ h ∷ m ∷ n ∷ rest) is = grind (arith, is)
slot_closed gate [] is = refl
slot_closed gate (a ∷ []) is = refl
slot_closed gate (a ∷ b ∷ []) is = refl
slot_closed gate (a ∷ b ∷ c ∷ []) is = refl
slot_closed gate (a ∷ b ∷ c ∷ d ∷ []) is = refl
slot_closed gate (a ∷ b ∷ c ∷ d ∷ e ∷ []) is = refl
slot_closed gate (a ∷ b ∷ c ∷ d ∷ e ∷ f ∷ []) is = refl
slot_closed gate (a ∷ b ∷ c ∷ d ∷ e ∷ f ∷ g ∷ []) is = refl
slot_closed gate (a ∷ b ∷ c ∷ d ∷ e ∷ f ∷ g ∷ h ∷ []) is = refl
slot_closed gate (a ∷ b ∷ c ∷ d ∷ e ∷ f ∷ g ∷ h ∷ m ∷ []) is = refl

pub slot_shut : (bytes : List ℕ) → shut bytes ≡ true → slot bytes ≡ None
slot_shut [] is = refl
slot_shut (gate ∷ rest) is = slot_closed gate rest (let e : (gate == 1) ≡ false = grind (arith, is) in e)

-- with any gate in front, a slot holds nothing or what an open one holds
pub slot_gate : (gate : ℕ) (rest : List ℕ) → (slot (gate ∷ rest) ≡ None) ⊎ (slot (gate ∷ rest) ≡ slot (1 ∷ rest))
slot_gate gate rest = by (gate == 1) refl
  where
    by : (b : Bool) → (gate == 1) ≡ b → (slot (gate ∷ rest) ≡ None) ⊎ (slot (gate ∷ rest) ≡ slot (1 ∷ rest))
    by false is = inl (slot_closed gate rest is)
    by true is = inr (ap (λ (g : ℕ). slot (g ∷ rest)) (let e : gate ≡ 1 = grind (arith, nat_tests) in e))

-- a slot with an open gate holds what its bytes encode
pub slot_spelled : (serial : ℕ) (bytes rest : List ℕ) → serial < 2 ^ 64 → length bytes ≤ 480 → slot (1 ∷ body serial bytes ++ rest) ≡ Some (serial, bytes)
slot_spelled serial bytes rest small short =
    let wide : from_be_bytes w64 (to_be_bytes w64 serial) ≡ serial = from_be_bytes-to_be_bytes_8 serial small in
    let size : from_be_bytes w16 (to_be_bytes w16 (length bytes)) ≡ length bytes = from_be_bytes-to_be_bytes_2 (length bytes) (omega (arith, short)) in
    ap (λ (n : ℕ). held true n (from_be_bytes w16 (to_be_bytes w16 (length bytes))) (bytes ++ rest)) wide
    ∙ ap (λ (n : ℕ). held true serial n (bytes ++ rest)) size
    ∙ whole
  where
    whole : held true serial (length bytes) (bytes ++ rest) ≡ Some (serial, bytes)
    whole =
        let seam : take (length bytes) (bytes ++ rest) ≡ bytes = take-append_seam bytes rest in
        let long : length (bytes ++ rest) ≡ length bytes + length rest = length-append bytes rest in
        let fits : nat_le (length bytes) 480 ≡ true = grind (arith, nat_tests) in
        let fits_too : nat_le (length bytes) (length (bytes ++ rest)) ≡ true = grind (arith, nat_tests, long) in
        grind (arith, seam, fits, fits_too)

-- the gate is the first byte
pub shut_prefix : (xs ys : List ℕ) → take 1 xs ≡ take 1 ys → shut xs ≡ shut ys
shut_prefix [] [] is = refl
shut_prefix [] (y ∷ ys) is = absurd (empty_is_full y is)
shut_prefix (x ∷ xs) [] is = absurd (empty_is_full x (sym is))
shut_prefix (x ∷ xs) (y ∷ ys) is = ap (λ (l : List ℕ). shut l) is

pub slot_open : (bytes : List ℕ) (s : ℕ × List ℕ) → slot bytes ≡ Some s → shut bytes ≡ false
slot_open bytes s is = by (shut bytes) refl
  where
    by : (b : Bool) → shut bytes ≡ b → shut bytes ≡ false
    by false e = e
    by true e = absurd (none_is_some s (sym (slot_shut bytes e) ∙ is))
