-- Entries sorted into segments.
use Rattle.std.specs.Prelude.{◌+◌, ℕ, List, [], ◌∷◌, filter_map, slice_get}
use Rattle.ens_base.specs.declared.entry.Entry.{Entry}
use Rattle.tree_repair.specs.declared.order.Placed.{Placed}

-- each entry's place with its segment, the first place being i
abbrev pub placed : List ℕ → ℕ → List Placed
placed [] i = []
placed (s ∷ ss) i = record { segment = s; entry = i } ∷ placed ss (i + 1)

-- the entries at these places
abbrev pub taken : List Entry → List Placed → List Entry
taken es ps = filter_map (λ p. slice_get es p.entry) ps
