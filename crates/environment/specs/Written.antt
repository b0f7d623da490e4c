-- What a sequence of writes leaves.
use Rattle.std.specs.Prelude.{◌≡◌, ℕ, ◌<◌, List, length, take, Option}
use Rattle.std.specs.Io.KnownBytes.{Appends}

-- the known bytes grew by a prefix of these
abbrev pub AppendsPrefix : Option (List ℕ) → Option (List ℕ) → List ℕ → Type 0
AppendsPrefix old new bytes = (n : ℕ) × Appends old new (take n bytes)

-- there are bytes to write, and the sink is full
abbrev pub IsWithoutRoom : ℕ → List ℕ → List ℕ → Type 0
IsWithoutRoom room held bytes = (0 < length bytes) × (length held ≡ room)
