-- Numbers in bytes of which none is 0: 128 and seven bits each, the lowest bits first.
use Rattle.std.specs.Prelude.{ℕ, zero, suc, ◌+◌, ◌*◌, ◌-◌, ◌/◌, ◌%◌, List, [], ◌∷◌, Option, Some, None, Bool, true, ◌==◌, ◌&&◌, ◌||◌, nat_le, nat_lt, if◌then◌else◌}

-- the digits of a number, so many
unfoldable pub digits : ℕ → ℕ → List ℕ
digits zero n = []
digits (suc k) n = (128 + n % 128) ∷ digits k (n / 128)

-- this byte, or another one in its place if it was lost, which makes it 0
abbrev pub kept_or : ℕ → ℕ → ℕ
kept_or lost byte = if byte == 0 then lost else byte

abbrev pub is_digit : ℕ → Bool
is_digit byte = nat_le 128 byte && nat_lt byte 256

-- one digit more below the others, if it is one
abbrev pub below : Bool → ℕ → Option ℕ → Option ℕ
below true byte (Some n) = Some (byte - 128 + 128 * n)
below is byte others = None

-- the number of these digits, with this one in place of each that was lost; none if a byte is no digit
abbrev pub number_in : ℕ → List ℕ → Option ℕ
number_in lost [] = Some 0
number_in lost (byte ∷ bytes) = below (is_digit (kept_or lost byte)) (kept_or lost byte) (number_in lost bytes)

-- a digit that was spelled twice, the second time as 383 less it: the one that the two bytes tell, 0 if both were lost;
-- none if they tell no digit or two
abbrev pub either : (byte twin : ℕ) → Option ℕ
either byte twin = if twin == 0 then Some byte else (if is_digit twin && (byte == 0 || byte == 383 - twin) then Some (383 - twin) else None)
