-- Several items, one after the other.
use Rattle.std.specs.Prelude.{ℕ, zero, suc, List, [], ◌∷◌, Result, Ok}
use Rattle.ens_base.specs.Results.{◌>>=◌}

-- n items, where what may follow an item depends on it, and the first on `before`
unfoldable pub list_at : {B A E : Type 0} → (B → List ℕ → ℕ → Result (A × ℕ) E) → (A → B) → ℕ → B → List ℕ → ℕ → Result (List A × ℕ) E
list_at item after zero before bytes at = Ok ([], at)
list_at item after (suc n) before bytes at = do
  first ← item before bytes at
  others ← list_at item after n (after first.0) bytes first.1
  Ok (first.0 ∷ others.0, others.1)

-- each item is valid behind the one before it
abbrev pub AreListed : {B A : Type 0} → (B → A → Type 0) → (A → B) → B → List A → Type 0
AreListed IsValid after before [] = Unit {0}
AreListed IsValid after before (x ∷ xs) = IsValid before x × AreListed IsValid after (after x) xs
