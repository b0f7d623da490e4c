-- Drawing: a number x moves with each draw, and each draw gives a value.
use Rattle.std.specs.Prelude.{ℕ, ◌+◌, ◌*◌, ◌/◌, ◌%◌, ◌^◌, zero, suc, List, [], ◌∷◌}

-- what is drawn from a number x: the number that x becomes, and a value
abbrev pub Drawing : Type 0 → Type 0
Drawing A = ℕ → ℕ × A

-- draw nothing
abbrev pub gives : {A : Type 0} → A → Drawing A
gives value x = (x, value)

-- draw one after the other
infixl 10 ◌>>=◌
abbrev pub ◌>>=◌ : {A B : Type 0} → Drawing A → (A → Drawing B) → Drawing B
(first >>= next) x = next (first x).1 (first x).0

-- the number that follows x
unfoldable pub moved : ℕ → ℕ
moved x = (x * 6364136223846793005 + 1442695040888963407) % 2 ^ 64

-- a number below m: the upper 31 bits of the number that x becomes, modulo m
abbrev pub draw : ℕ → Drawing ℕ
draw m x = (moved x, moved x / 2 ^ 33 % m)

-- so many bytes
abbrev pub draw_bytes : ℕ → Drawing (List ℕ)
draw_bytes zero = gives []
draw_bytes (suc count) = do
  byte ← draw 256
  bytes ← draw_bytes count
  gives (byte ∷ bytes)
