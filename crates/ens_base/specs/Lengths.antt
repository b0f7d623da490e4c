-- The lengths of keys and of values.
use Rattle.std.specs.Prelude.{ℕ, ◌≤◌}

-- a key has 1 to 64 bytes
abbrev pub IsKeyLength : ℕ → Type 0
IsKeyLength n = (1 ≤ n) × (n ≤ 64)

-- a value has at most 1,024 bytes
abbrev pub IsValueLength : ℕ → Type 0
IsValueLength n = n ≤ 1024
