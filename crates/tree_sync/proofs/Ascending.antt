-- The keys of a merge ascend, and none is empty.
use Rattle.std.proofs.Common.{◌≡◌, ◌≤◌, ℕ, List, [], ◌∷◌, ◌++◌, length, ap, subst, sym}
use Rattle.std.specs.List.{AllByRecursion}
use Rattle.std.specs.List.Sorted.{IsStrictlySortedBy}
use Rattle.std.specs.Map.{keys_of}
use Rattle.std.specs.declared.cmp.Ordering.TheVariants.{Less}
use Rattle.std.proofs.lemmas.Map.Keys.{sorted_head, sorted_tail}
use Rattle.ens_base.specs.Lists.{bytes_cmp}
use Rattle.ens_base.specs.declared.entry.Entry.{Entry}
use Rattle.tree_node.specs.Entries.{AreAbove, is_less}
use Rattle.tree_node.proofs.Above.{key_above}
use Rattle.tree_sync.specs.Ranks.{entries_of, HaveKeys}
use Rattle.tree_sync.specs.declared.merging.Rank.{Rank}

-- one more entry
pub with_key : (es : List Entry) (e : Entry) → HaveKeys es → 1 ≤ length e.key → HaveKeys (es ++ e ∷ [])
with_key [] e h k = (k, tt)
with_key (x ∷ es) e h k = (h.0, with_key es e h.1 k)

above_key : (low : List ℕ) (xs : List (List ℕ × Rank)) → AllByRecursion (λ q. bytes_cmp low q ≡ Less) (keys_of xs) → IsStrictlySortedBy bytes_cmp (keys_of xs) → AreAbove low (entries_of xs)
above_key low [] h s = tt
above_key low (x ∷ xs) h s = (ap is_less h.0, above_key x.0 xs (sorted_head bytes_cmp x.0 (keys_of xs) s) (sorted_tail bytes_cmp x.0 (keys_of xs) s))

above_none : (xs : List (List ℕ × Rank)) → HaveKeys (entries_of xs) → IsStrictlySortedBy bytes_cmp (keys_of xs) → AreAbove [] (entries_of xs)
above_none [] k s = tt
above_none (x ∷ xs) k s = (key_above x.0 k.0, above_key x.0 xs (sorted_head bytes_cmp x.0 (keys_of xs) s) (sorted_tail bytes_cmp x.0 (keys_of xs) s))

-- the entries of a merge, in the order of their keys
pub merge_above : (es : List Entry) (xs : List (List ℕ × Rank)) → es ≡ entries_of xs → HaveKeys es → IsStrictlySortedBy bytes_cmp (keys_of xs) → AreAbove [] es
merge_above es xs e k s = subst (AreAbove []) (sym e) (above_none xs (subst HaveKeys e k) s)
