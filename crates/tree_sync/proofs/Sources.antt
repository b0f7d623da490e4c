-- Loops over the sources that have finished.
use Rattle.std.proofs.Common.{◌≡◌, ℕ, zero, suc, ◌+◌, ◌<◌, ◌≤◌, false, List, [], ◌∷◌, length, get_or, drop, refl, ap, arith}
use Rattle.std.specs.Prelude.{◌==◌, ◌&&◌, ◌||◌}
use Rattle.std.proofs.lemmas.List.{drop_more}
use Rattle.tree_sync.specs.Syncs.{is_source, is_trusted_source}
use Rattle.tree_sync.specs.declared.sync.Source.{Source}

pub source_next : (ss : List Source) (i : ℕ) (d : Source) (p : ℕ) → i < length ss → is_source (drop i ss) p ≡ ((get_or ss i d).peer == p || is_source (drop (i + 1) ss) p)
source_next ss i d p h = ap (λ (xs : List Source). is_source xs p) (drop_more ss i d h)

pub source_end : (ss : List Source) (i : ℕ) (p : ℕ) → length ss ≤ i → is_source (drop i ss) p ≡ false
source_end [] i p h = by i
  where
    by : (j : ℕ) → is_source (drop j []) p ≡ false
    by zero = refl
    by (suc j) = refl
source_end (s ∷ ss) zero p h = absurd (omega arith)
source_end (s ∷ ss) (suc i) p h = source_end ss i p (omega arith)

pub trusted_next : (ss : List Source) (i : ℕ) (d : Source) (p : ℕ) → i < length ss → is_trusted_source (drop i ss) p ≡ (((get_or ss i d).peer == p && (get_or ss i d).trusted) || is_trusted_source (drop (i + 1) ss) p)
trusted_next ss i d p h = ap (λ (xs : List Source). is_trusted_source xs p) (drop_more ss i d h)

pub trusted_end : (ss : List Source) (i : ℕ) (p : ℕ) → length ss ≤ i → is_trusted_source (drop i ss) p ≡ false
trusted_end [] i p h = by i
  where
    by : (j : ℕ) → is_trusted_source (drop j []) p ≡ false
    by zero = refl
    by (suc j) = refl
trusted_end (s ∷ ss) zero p h = absurd (omega arith)
trusted_end (s ∷ ss) (suc i) p h = trusted_end ss i p (omega arith)
