-- Entries in the order of their keys, which may have a key more than once.
use Rattle.std.specs.Prelude.{◌≡◌, ◌≢◌, ℕ, List, [], ◌∷◌, ◌++◌}
use Rattle.std.specs.declared.cmp.Ordering.TheVariants.{Greater}
use Rattle.ens_base.specs.Lists.{bytes_cmp}
use Rattle.ens_base.specs.declared.entry.Entry.{Entry}

-- no key is below the one before it, and the first not below `low`
abbrev pub Rises : List ℕ → List Entry → Type 0
Rises low [] = Unit {0}
Rises low (e ∷ es) = (bytes_cmp low e.key ≢ Greater) × Rises e.key es

-- two entries that stand beside each other have the same key
pub record IsTwice (es : List Entry) : Type 0 where
  pub before : List Entry
  pub first : Entry
  pub second : Entry
  pub behind : List Entry
  pub split : es ≡ before ++ first ∷ second ∷ behind
  pub same : first.key ≡ second.key
