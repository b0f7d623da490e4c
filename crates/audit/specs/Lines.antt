-- The next line of the bytes to come, where a line has at most so many bytes.
use Rattle.std.specs.Prelude.{◌≡◌, ℕ, ◌+◌, ◌<◌, ◌≤◌, List, [], ◌∷◌, ◌++◌, length, take, Option, Some, None, Result, Ok, Err}
use Rattle.std.specs.Io.KnownBytes.{Consumes, Keeps, IsAtEnd}
use Rattle.environment.specs.Lines.{HasNoFeed}
use Rattle.environment.specs.declared.lines.Next.{Next}
use Rattle.environment.specs.declared.lines.Next.TheVariants.{Line, Rest, TooLong}
use Rattle.environment.specs.declared.lines.NextError.{NextError}

-- at most so many bytes without a line feed
pub record IsLine (most : ℕ) (xs : List ℕ) : Type 0 where
  pub no_feed : HasNoFeed xs
  pub short : length xs ≤ most

-- the bytes, if known, begin with more bytes than these without a line feed
abbrev pub BeginsLong : ℕ → Option (List ℕ) → Type 0
BeginsLong most None = Unit {0}
BeginsLong most (Some xs) = (most < length xs) × HasNoFeed (take (most + 1) xs)

-- what a call returned of the bytes to come: a line and its line feed are consumed, or the rest up
-- to the end, or nothing of a line that is too long
abbrev pub IsNext : ℕ → Option (List ℕ) → Option (List ℕ) → Next → Type 0
IsNext most old new (Line v) = IsLine most v.items × Consumes old new (v.items ++ 10 ∷ [])
IsNext most old new (Rest v) = IsLine most v.items × Consumes old new v.items × IsAtEnd new
IsNext most old new TooLong = BeginsLong most old × Keeps old new

-- the same law for the pending bytes alone, which never show the end of the source
abbrev pub IsReady : ℕ → List ℕ → List ℕ → Next → Type 0
IsReady most old new (Line v) = IsLine most v.items × (old ≡ (v.items ++ 10 ∷ []) ++ new)
IsReady most old new (Rest v) = ⊥
IsReady most old new TooLong = (most < length old) × HasNoFeed (take (most + 1) old) × (new ≡ old)

-- the pending bytes, with those of the line that a call returned, are at most one more than a line may have
abbrev pub AreFew : ℕ → ℕ → Result Next NextError → Type 0
AreFew most pending (Ok (Line v)) = length v.items + 1 + pending ≤ most + 1
AreFew most pending (Ok (Rest v)) = length v.items + pending ≤ most + 1
AreFew most pending (Ok TooLong) = pending ≤ most + 1
AreFew most pending (Err e) = pending ≤ most + 1
