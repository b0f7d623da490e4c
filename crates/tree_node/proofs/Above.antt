-- A key above another, as a test and as an order of bytes.
use Rattle.std.proofs.Common.{◌≡◌, ◌≤◌, ℕ, true, List, [], ◌∷◌, length, Ordering, Less, Equal, Greater, refl, ap, sym, ◌∙◌, arith}
use Rattle.std.specs.Ordering.{ordering_reverse}
use Rattle.std.specs.Cmp.Lexicographic.{nat_list_cmp_total}
use Rattle.ens_base.specs.Lists.{bytes_cmp}
use Rattle.tree_node.specs.Entries.{is_above, is_less}

pub above_less : (low key : List ℕ) → bytes_cmp low key ≡ Less → is_above low key ≡ true
above_less low key e = ap is_less e

pub less_above : (low key : List ℕ) → is_above low key ≡ true → bytes_cmp low key ≡ Less
less_above low key e = by (bytes_cmp low key) e
  where
    by : (o : Ordering) → is_less o ≡ true → o ≡ Less
    by Less e = refl
    by Equal e = absurd cc
    by Greater e = absurd cc

pub key_above : (key : List ℕ) → 1 ≤ length key → is_above [] key ≡ true
key_above [] l = absurd (omega arith)
key_above (x ∷ key) l = refl

pub not_above_itself : (k : List ℕ) → bytes_cmp k k ≡ Less → ⊥
not_above_itself k l = let back : Less ≡ Greater = sym l ∙ nat_list_cmp_total.antisymm k k ∙ ap ordering_reverse l in absurd cc
