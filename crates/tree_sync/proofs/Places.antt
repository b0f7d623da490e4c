-- Places of asks.
use Rattle.std.proofs.Common.{◌≡◌, ℕ, zero, suc, ◌+◌, ◌<◌, ◌≤◌, List, [], ◌∷◌, length, get_or, drop, refl, ap, arith}
use Rattle.std.specs.Prelude.{◌==◌, if◌then◌else◌}
use Rattle.std.proofs.lemmas.List.{drop_more}
use Rattle.tree_sync.specs.Asks.{place_of}
use Rattle.tree_sync.specs.declared.asking.Asking.{Asking}

pub place_next : (all : List Asking) (i : ℕ) (d : Asking) (p : ℕ) → i < length all → place_of p (drop i all) ≡ (if (get_or all i d).peer == p then 0 else place_of p (drop (i + 1) all) + 1)
place_next all i d p h = ap (place_of p) (drop_more all i d h)

pub place_end : (all : List Asking) (i p : ℕ) → length all ≤ i → place_of p (drop i all) ≡ 0
place_end [] i p h = by i
  where
    by : (j : ℕ) → place_of p (drop j []) ≡ 0
    by zero = refl
    by (suc j) = refl
place_end (a ∷ all) zero p h = absurd (omega arith)
place_end (a ∷ all) (suc i) p h = place_end all i p (omega arith)
