-- The entries of a merge ascend, and the order of entries agrees with that of the ranks of their versions.
use Rattle.std.proofs.Common.{◌≡◌, ℕ, ◌≤◌, true, false, List, [], ◌∷◌, arith, refl, sym, ap, ◌∙◌}
use Rattle.std.specs.Ordering.{on, then_cmp, is_lt}
use Rattle.std.specs.declared.cmp.Ordering.{Ordering}
use Rattle.std.specs.declared.cmp.Ordering.TheVariants.{Less, Equal, Greater}
use Rattle.std.proofs.lemmas.Bool.Decides.{nat_tests}
use Rattle.ens_base.specs.Epochs.{version_cmp}
use Rattle.ens_base.specs.Limits as limits
use Rattle.ens_base.specs.Lists.{bytes_cmp}
use Rattle.ens_base.specs.declared.entry.Entry.{Entry}
use Rattle.ens_base.specs.declared.epoch.Version.{Version}
use Rattle.phase_rules.specs.Requests.{is_version_below}
use Rattle.peer_refinement.specs.LeaderRefinement.{rank}
use Rattle.peer_refinement.proofs.Numbers.{version_fits, not_below_version}
use Rattle.tree_sync.specs.Merges.{is_lower, Ascend}
use Rattle.synctree.proofs.Parts.{below_trans}
use Rattle.synctree.specs.Entries.{IsBelowAll, Ascends}
use Rattle.tree_node.specs.Entries.{AreAbove, is_less}

-- ## Ascending entries

less_so : (o : Ordering) → is_less o ≡ true → o ≡ Less
less_so Less h = refl
less_so Equal h = absurd cc
less_so Greater h = absurd cc

-- entries above a key ascend, and the key is below them all
above_ascends : (k : List ℕ) (m : List Entry) → AreAbove k m → IsBelowAll k m × Ascends m
above_ascends k [] a = (tt, tt)
above_ascends k (e ∷ m) a =
    let less : bytes_cmp k e.key ≡ Less = less_so (bytes_cmp k e.key) a.0 in
    let rest : IsBelowAll e.key m × Ascends m = above_ascends e.key m a.1 in ((less, below_trans k e.key m less rest.0), rest)

-- the entries of a merge ascend
pub merge_ascends : (m : List Entry) → Ascend m → Ascends m
merge_ascends [] a = tt
merge_ascends (e ∷ m) a = above_ascends e.key m a

-- ## The order of versions

below_same : (a b : Version) → is_lt (version_cmp a b) ≡ is_version_below a b
below_same a b = grind (arith, nat_tests)

first_not_less : (R S : Entry → Entry → Ordering) (a b : Entry) → is_lt (then_cmp R S a b) ≡ false → is_lt (R a b) ≡ false
first_not_less R S a b h = by_first (R a b) refl
  where
    by_first : (o : Ordering) → R a b ≡ o → is_lt (R a b) ≡ false
    by_first Less e = let so : is_lt Less ≡ false = rw e at h in absurd cc
    by_first Equal e = ap is_lt e
    by_first Greater e = ap is_lt e

-- an entry that is not lower has no lower version
pub no_lower : (a b : Entry) → limits.IsVersion a.version → limits.IsVersion b.version → is_lower a b ≡ false → rank b.version ≤ rank a.version
no_lower a b h k low = not_below_version a.version b.version (version_fits a.version h) (version_fits b.version k)
    (sym (below_same a.version b.version) ∙ first_not_less (on (λ (e : Entry). e.version) version_cmp) (on (λ (e : Entry). e.digest) bytes_cmp) a b low)
