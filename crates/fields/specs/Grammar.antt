-- When a spelling and a reading belong to each other.
use Rattle.std.specs.Prelude.{◌≡◌, ℕ, ◌+◌, List, ◌++◌, length, drop, Result, Ok}
use Rattle.ens_base.specs.Limits.{IsBytes}
use Rattle.fields.specs.Places.{Spells}

-- What is read at a place is spelled there and is valid; and each valid value that is spelled at a
-- place is read there, whatever follows. So each value has one spelling, and none begins another's.
pub record IsGrammar {A E : Type 0} (IsValid : A → Type 0) (spelling : A → List ℕ) (read : List ℕ → ℕ → Result (A × ℕ) E) : Type 0 where
  pub found : (bytes : List ℕ) (at : ℕ) (x : A) (end : ℕ) → IsBytes bytes → read bytes at ≡ Ok (x, end) → Spells bytes at (spelling x) end × IsValid x
  pub again : (bytes : List ℕ) (at : ℕ) (x : A) (rest : List ℕ) → IsValid x → drop at bytes ≡ spelling x ++ rest → read bytes at ≡ Ok (x, at + length (spelling x))
