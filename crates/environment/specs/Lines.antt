-- The next line of the bytes to come.
use Rattle.std.specs.Prelude.{◌≡◌, ◌≢◌, ℕ, ◌+◌, ◌<◌, ◌≤◌, List, [], ◌∷◌, ◌++◌, length, take, Option, Some, None, Result, Ok, Err, All}
use Rattle.std.specs.Io.KnownBytes.{Consumes, Keeps, IsAtEnd}
use Rattle.environment.specs.declared.lines.Next.{Next}
use Rattle.environment.specs.declared.lines.NextError.{NextError}
use Rattle.environment.specs.declared.lines.Next.TheVariants.{Line, Rest, TooLong}

-- these bytes contain no line feed
abbrev pub HasNoFeed : List ℕ → Type 0
HasNoFeed xs = All (λ b. b ≢ 10) xs

-- at most 4,400 bytes without a line feed
pub record IsLine (xs : List ℕ) : Type 0 where
  pub no_feed : HasNoFeed xs
  pub short : length xs ≤ 4400

-- the bytes, if known, begin with 4,401 bytes without a line feed
abbrev pub BeginsLong : Option (List ℕ) → Type 0
BeginsLong None = Unit {0}
BeginsLong (Some xs) = (4400 < length xs) × HasNoFeed (take 4401 xs)

-- what a call returned of the bytes to come: a line and its line feed are consumed, or the rest up
-- to the end, or nothing of a line that is too long
abbrev pub IsNext : Option (List ℕ) → Option (List ℕ) → Next → Type 0
IsNext old new (Line v) = IsLine v.items × Consumes old new (v.items ++ 10 ∷ [])
IsNext old new (Rest v) = IsLine v.items × Consumes old new v.items × IsAtEnd new
IsNext old new TooLong = BeginsLong old × Keeps old new

-- the same law for the pending bytes alone, which never show the end of the source
abbrev pub IsReady : List ℕ → List ℕ → Next → Type 0
IsReady old new (Line v) = IsLine v.items × (old ≡ (v.items ++ 10 ∷ []) ++ new)
IsReady old new (Rest v) = ⊥
IsReady old new TooLong = (4400 < length old) × HasNoFeed (take 4401 old) × (new ≡ old)

-- the number of bytes in what a call returned
abbrev pub bytes_in : Result Next NextError → ℕ
bytes_in (Ok (Line v)) = length v.items + 1
bytes_in (Ok (Rest v)) = length v.items
bytes_in (Ok TooLong) = 0
bytes_in (Err e) = 0
