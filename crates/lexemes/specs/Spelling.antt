-- How words are written, and what has a spelling.
use Rattle.std.specs.Prelude.{ℕ, ◌+◌, ◌≤◌, List, [], ◌∷◌, map, length, codes, Option, Some, None}
use Rattle.std.specs.Fmt.{decimal}
use Rattle.ens_base.specs.Words.{bytes_word}
use Rattle.ens_base.specs.Limits.{IsBytes}

-- raw bytes for a store: themselves, or a dash where what is there is to be gone
abbrev pub content_word : Option (List ℕ) → List ℕ
content_word None = codes "-"
content_word (Some bytes) = bytes_word bytes

-- members, a word each
abbrev pub member_words : List ℕ → List (List ℕ)
member_words members = map decimal members

-- low to high bytes
pub record HasBytes (low high : ℕ) (bytes : List ℕ) : Type 0 where
  pub least : low ≤ length bytes
  pub most : length bytes ≤ high
  pub each : IsBytes bytes

-- 1 to 2,000 bytes, or none where what is there is to be gone
abbrev pub IsContent : Option (List ℕ) → Type 0
IsContent None = Unit {0}
IsContent (Some bytes) = HasBytes 1 2000 bytes

-- one of the peers from 1 on
pub record IsAmong (peers peer : ℕ) : Type 0 where
  pub first : 1 ≤ peer
  pub last : peer ≤ peers

-- numbers from low to the last peer, each greater than the one before
abbrev pub AscendFrom : ℕ → ℕ → List ℕ → Type 0
AscendFrom low peers [] = Unit {0}
AscendFrom low peers (m ∷ ms) = (low ≤ m) × (m ≤ peers) × AscendFrom (m + 1) peers ms

-- members: ascending numbers of peers
abbrev pub AreMembers : ℕ → List ℕ → Type 0
AreMembers peers members = AscendFrom 1 peers members
