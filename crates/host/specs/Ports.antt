-- The ports of numbers.
use Rattle.std.specs.Prelude.{◌≡◌, ◌≤◌, ◌+◌, ◌^◌, ℕ, Option, None, Some}

-- the port of a number lies so far above the base; there is none past the last port
abbrev pub PortOf : ℕ → ℕ → Option ℕ → Type 0
PortOf base number (Some port) = port ≡ base + number
PortOf base number None = 2 ^ 16 ≤ base + number
