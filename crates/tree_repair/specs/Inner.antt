-- A level of inner nodes, from the nodes of the level below that are there: their indexes, and beside
-- each its digest. Inner nodes have w children.
use Rattle.std.specs.Prelude.{ℕ, zero, suc, ◌/◌, ◌%◌, ◌==◌, List, [], ◌∷◌, Option, None, map, nat_eq, replicate, set, if◌then◌else◌}
use Rattle.std.specs.List.{dedup}

-- the indexes of the nodes above nodes with these ascending indexes; the root is always there
abbrev pub indexes_above : ℕ → ℕ → List ℕ → List ℕ
indexes_above w zero below = 0 ∷ []
indexes_above w (suc level) below = dedup nat_eq (map (λ i. i / w) below)

-- these children, and then each of these nodes as the child of its number
abbrev pub filled : ℕ → List (Option (List ℕ)) → List ℕ → List (Option (List ℕ)) → List (Option (List ℕ))
filled w cs [] names = cs
filled w cs (i ∷ is) [] = cs
filled w cs (i ∷ is) (n ∷ names) = filled w (set cs (i % w) n) is names

-- these children of the node p, and then each of these nodes that is its child
abbrev pub filled_at : ℕ → ℕ → List (Option (List ℕ)) → List ℕ → List (Option (List ℕ)) → List (Option (List ℕ))
filled_at w p cs [] names = cs
filled_at w p cs (i ∷ is) [] = cs
filled_at w p cs (i ∷ is) (n ∷ names) = filled_at w p (if i / w == p then set cs (i % w) n else cs) is names

-- the children of the node p
abbrev pub children_of : ℕ → ℕ → List ℕ → List (Option (List ℕ)) → List (Option (List ℕ))
children_of w p below names = filled_at w p (replicate w None) below names
