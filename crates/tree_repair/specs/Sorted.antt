-- Entries in the order of their keys.
use Rattle.std.specs.Prelude.{List, [], ◌∷◌}
use Rattle.std.specs.declared.cmp.Ordering.{Ordering}
use Rattle.std.specs.declared.cmp.Ordering.TheVariants.{Less, Equal, Greater}
use Rattle.ens_base.specs.declared.entry.Entry.{Entry}
use Rattle.ens_base.specs.Lists.{bytes_cmp}

-- an entry before another unless its key is greater
abbrev pub stepped : Ordering → Entry → Entry → List Entry → List Entry → List Entry
stepped Less e x xs after = e ∷ x ∷ xs
stepped Equal e x xs after = e ∷ x ∷ xs
stepped Greater e x xs after = x ∷ after

-- the entry before all entries whose keys are not less
abbrev pub place : Entry → List Entry → List Entry
place e [] = e ∷ []
place e (x ∷ xs) = stepped (bytes_cmp e.key x.key) e x xs (place e xs)

-- the entries in ascending order of keys; those of one key keep their order
abbrev pub sorted : List Entry → List Entry
sorted [] = []
sorted (e ∷ es) = place e (sorted es)
