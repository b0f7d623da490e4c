-- Which bytes a spelling takes.
use Rattle.std.specs.Prelude.{◌≡◌, ℕ, ◌+◌, List, ◌++◌, length, take, drop}

-- the spelling stands in the bytes from `at` to `end`
pub record Spells (bytes : List ℕ) (at : ℕ) (spelling : List ℕ) (end : ℕ) : Type 0 where
  pub parts : drop at bytes ≡ spelling ++ drop end bytes
  pub place : end ≡ at + length spelling

-- the spelling was written from `at` to `end`, and all other bytes are as they were
pub record Writes (old new : List ℕ) (at : ℕ) (spelling : List ℕ) (end : ℕ) : Type 0 where
  pub prefix : take end new ≡ take at old ++ spelling
  pub back : drop end new ≡ drop end old
  pub place : end ≡ at + length spelling
