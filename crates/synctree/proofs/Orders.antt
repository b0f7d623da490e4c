-- The order of keys, and of entries by their keys.
use Rattle.std.proofs.Common.{◌≡◌, ℕ, Bool, true, false, List, refl, ap, sym, ◌∙◌}
use Rattle.ens_base.proofs.Lists.{bytes_same}
use Rattle.std.specs.declared.cmp.Ordering.{Ordering}
use Rattle.std.specs.declared.cmp.Ordering.TheVariants.{Less, Equal, Greater}
use Rattle.std.specs.Ordering.{ordering_reverse}
use Rattle.std.specs.Cmp.Lexicographic.{nat_list_cmp_total}
use Rattle.std.proofs.lemmas.Map.Lookups.{exact_bytes}
use Rattle.ens_base.specs.Lists.{bytes_cmp, same_bytes}

pub cmp_same : (a : List ℕ) → bytes_cmp a a ≡ Equal
cmp_same a = by (bytes_cmp a a) refl
  where
    by : (o : Ordering) → bytes_cmp a a ≡ o → bytes_cmp a a ≡ Equal
    by Less e = let back : bytes_cmp a a ≡ ordering_reverse (bytes_cmp a a) = nat_list_cmp_total.antisymm a a in let no : Less ≡ Greater = sym e ∙ back ∙ ap ordering_reverse e in absurd cc
    by Equal e = e
    by Greater e = let back : bytes_cmp a a ≡ ordering_reverse (bytes_cmp a a) = nat_list_cmp_total.antisymm a a in let no : Greater ≡ Less = sym e ∙ back ∙ ap ordering_reverse e in absurd cc

pub cmp_back : (a b : List ℕ) → bytes_cmp a b ≡ ordering_reverse (bytes_cmp b a)
cmp_back a b = nat_list_cmp_total.antisymm a b

pub less_back : (a b : List ℕ) → bytes_cmp a b ≡ Greater → bytes_cmp b a ≡ Less
less_back a b e = cmp_back b a ∙ ap ordering_reverse e

pub less_trans : (a b c : List ℕ) → bytes_cmp a b ≡ Less → bytes_cmp b c ≡ Less → bytes_cmp a c ≡ Less
less_trans a b c = nat_list_cmp_total.trans a b c

pub cmp_equal : (a b : List ℕ) → bytes_cmp a b ≡ Equal → a ≡ b
cmp_equal a b e = exact_bytes a b e

pub not_same : (a b : List ℕ) → (a ≡ b → ⊥) → same_bytes a b ≡ false
not_same a b ne = by (same_bytes a b) refl
  where
    by : (t : Bool) → same_bytes a b ≡ t → t ≡ false
    by true e = absurd (ne (bytes_same a b e))
    by false e = refl

pub less_not_same : (a b : List ℕ) → bytes_cmp a b ≡ Less → (a ≡ b → ⊥)
less_not_same a b l e = let no : Less ≡ Equal = sym l ∙ ap (bytes_cmp a) (sym e) ∙ cmp_same a in absurd cc
