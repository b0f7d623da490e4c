-- A map from keys to entries, as the list of its entries in ascending order of keys.
use Rattle.std.specs.Prelude.{◌≡◌, ◌<◌, ◌^◌, ℕ, List, [], ◌∷◌, Option, length, find}
use Rattle.std.specs.List.{AllByRecursion}
use Rattle.std.specs.declared.cmp.Ordering.{Ordering}
use Rattle.std.specs.declared.cmp.Ordering.TheVariants.{Less, Equal, Greater}
use Rattle.ens_base.specs.declared.entry.Entry.{Entry}
use Rattle.ens_base.specs.Lists.{bytes_cmp, same_bytes}
use Rattle.fields.specs.Entries.{IsEntry}

-- the key is below the keys of all entries
abbrev pub IsBelowAll : List ℕ → List Entry → Type 0
IsBelowAll k [] = Unit {0}
IsBelowAll k (e ∷ es) = (bytes_cmp k e.key ≡ Less) × IsBelowAll k es

-- the keys ascend strictly
abbrev pub Ascends : List Entry → Type 0
Ascends [] = Unit {0}
Ascends (e ∷ es) = IsBelowAll e.key es × Ascends es

-- entries that nodes can encode, with one entry for each key
pub record IsMap (m : List Entry) : Type 0 where
  pub ascends : Ascends m
  pub entries : AllByRecursion IsEntry m
  pub few : length m < 2 ^ 32

-- an entry before another, in place of it, or after it
abbrev pub placed : Ordering → Entry → Entry → List Entry → List Entry → List Entry
placed Less e x xs with_e = e ∷ x ∷ xs
placed Equal e x xs with_e = e ∷ xs
placed Greater e x xs with_e = x ∷ with_e

-- the map with this entry, which replaces the entry of its key
abbrev pub put : Entry → List Entry → List Entry
put e [] = e ∷ []
put e (x ∷ xs) = placed (bytes_cmp e.key x.key) e x xs (put e xs)

-- the entry of a key
abbrev pub lookup : List ℕ → List Entry → Option Entry
lookup k m = find (λ e. same_bytes e.key k) m
