-- How much of a source a reader took that counts its lines.
use Rattle.std.specs.Prelude.{◌≡◌, ◌≤◌, ◌+◌, ◌*◌, ◌++◌, ℕ, List, [], length, Option, None, Some, Result}
use Rattle.environment.specs.Lines.{IsLine}
use Rattle.schedule_input.specs.LineReading.{ComeTo, HasTaken}

-- the bytes of 200,000 lines of 4,400 bytes, each with its line feed, and one byte more
abbrev pub most_taken : ℕ
most_taken = 200000 * 4401 + 1

-- A reader: what the next line makes of what was read so far, and what the end of the text makes of it.
module _ {S R E : Type 0} (next : S → List ℕ → Result S E) (end : S → List ℕ → Result R E) where
  -- Of a source that held the first bytes the second ones are left. It gave lines none of which is bad, and
  -- more bytes after them, which are as they should be.
  pub record HasGiven (first : S) (AreFit : List ℕ → List ℕ → S → Type 0) (bytes left : List ℕ) : Type 0 where
    pub lines : List ℕ
    pub more : List ℕ
    pub s : S
    pub are : bytes ≡ lines ++ (more ++ left)
    pub good : ComeTo next end first lines s
    pub fit : AreFit lines more s

  -- the same if the bytes are known
  abbrev pub Gave : S → (List ℕ → List ℕ → S → Type 0) → Option (List ℕ) → Option (List ℕ) → Type 0
  Gave first AreFit None left = Unit {0}
  Gave first AreFit (Some bytes) None = ⊥
  Gave first AreFit (Some bytes) (Some left) = HasGiven first AreFit bytes left

  -- some bytes, read from the beginning, are what was read so far
  abbrev pub IsReached : S → S → Type 0
  IsReached first s = (lines : List ℕ) × ComeTo next end first lines s

-- The number of the lines that were read so far.
module _ {S : Type 0} (count : S → ℕ) where
  -- the pending bytes are at most one line with its line feed, and a source gave no more bytes than so many
  -- lines may have
  abbrev pub AreFew : Option (List ℕ) → List ℕ → Option (List ℕ) → S → Type 0
  AreFew None pending left s = Unit {0}
  AreFew (Some bytes) pending None s = ⊥
  AreFew (Some bytes) pending (Some left) s = (length pending ≤ 4401) × (length bytes ≤ 4401 * count s + length left)

  -- A source gave at most 200,000 lines, and after them at most 4,401 bytes more, as many as the longest line
  -- has with its line feed; on the whole no more than `most_taken`.
  pub record AreTaken (lines more : List ℕ) (s : S) : Type 0 where
    pub few : count s ≤ 200000
    pub short : length more ≤ 4401
    pub bound : length lines + length more ≤ most_taken

  -- what came after the lines decides nothing: at most 4,400 bytes without a line feed, and none after line
  -- 200,000
  pub record AreUndecided (lines more : List ℕ) (s : S) : Type 0 where
    pub taken : AreTaken lines more s
    pub undecided : IsLine more
    pub last : count s ≡ 200000 → more ≡ []

-- A reader of lines, and the number of the lines that it read so far.
module _ {S R E : Type 0} (next : S → List ℕ → Result S E) (end : S → List ℕ → Result R E) (first : S) (count : S → ℕ) where
  -- a source gave the lines so far and the pending bytes after them, and only few bytes
  abbrev pub HasCounted : Option (List ℕ) → List ℕ → Option (List ℕ) → S → Type 0
  HasCounted source pending left s = HasTaken next end first source pending left s × AreFew count source pending left s

  -- Of a source that held the first bytes the second ones are left. It gave at most 200,000 lines, none of which
  -- is bad, and after them no more bytes than the longest line has; on the whole no more than `most_taken`.
  abbrev pub WasTakenTo : Option (List ℕ) → Option (List ℕ) → Type 0
  WasTakenTo source left = Gave next end first (AreTaken count) source left

  -- the source failed before the bytes that it gave decided anything
  abbrev pub WasCutOff : Option (List ℕ) → Option (List ℕ) → Type 0
  WasCutOff source left = Gave next end first (AreUndecided count) source left
