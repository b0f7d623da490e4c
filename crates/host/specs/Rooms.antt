-- The datagram that the front of some room holds.
use Rattle.std.specs.Prelude.{◌≤◌, ℕ, List, length, take, Option, None, Some}

-- the bytes at the front, if so many are held there
abbrev pub prefix : Option ℕ → List ℕ → Option (List ℕ)
prefix None bytes = None
prefix (Some count) bytes = Some (take count bytes)

-- what is held fits the room
abbrev pub IsWithin : Option ℕ → List ℕ → Type 0
IsWithin None bytes = Unit {0}
IsWithin (Some count) bytes = count ≤ length bytes
