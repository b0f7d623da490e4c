-- The ranks of a merge, after one more entry.
use Rattle.std.proofs.Common.{◌≡◌, ℕ, true, false, List, [], ◌∷◌, Option, None, refl, ap, sym, ◌∙◌}
use Rattle.std.proofs.lemmas.Bool.{not-false, not-true}
use Rattle.std.specs.List.{AllByRecursion}
use Rattle.std.specs.List.Sorted.{IsStrictlySortedBy}
use Rattle.std.specs.Map.{lookup, keys_of}
use Rattle.std.specs.BTreeMap.{is_at, insert_entry}
use Rattle.std.specs.declared.cmp.Ordering.{Ordering}
use Rattle.std.specs.declared.cmp.Ordering.TheVariants.{Less, Equal, Greater}
use Rattle.std.specs.Cmp.Lexicographic.{nat_list_cmp_total}
use Rattle.std.proofs.lemmas.Map.Lookups.{exact_bytes}
use Rattle.std.proofs.lemmas.Map.Keys.{sorted_head, sorted_tail}
use Rattle.ens_base.specs.Lists.{bytes_cmp}
use Rattle.ens_base.specs.declared.entry.Entry.{Entry}
use Rattle.tree_sync.specs.Merges.{with_entry, greater, is_lower}
use Rattle.tree_sync.specs.Ranks.{entry_at, entries_of, is_below, is_at_least}
use Rattle.tree_sync.specs.declared.merging.Rank.{Rank}

abbrev Ranks : Type 0
Ranks = List (List ℕ × Rank)

-- the rank of the key, if it has one
abbrev rank_at : List ℕ → Ranks → Option Rank
rank_at k xs = lookup (is_at (bytes_cmp k)) xs

same_place : (k l : List ℕ) (r : Rank) → bytes_cmp k l ≡ Equal → entry_at (l, r) ≡ entry_at (k, r)
same_place k l r e = ap (λ q. entry_at (q, r)) (sym (exact_bytes k l e))

second_wins : (a b : Entry) → is_lower a b ≡ true → b ≡ greater a b
second_wins a b h = rw h refl

first_wins : (a b : Entry) → is_lower a b ≡ false → a ≡ greater a b
first_wins a b h = rw h refl

-- a key that has no rank, or a lower one, gets the new one
pub inserted : (k : List ℕ) (r : Rank) (xs : Ranks) → is_at_least (rank_at k xs) r ≡ false → entries_of (insert_entry bytes_cmp xs k r) ≡ with_entry (entry_at (k, r)) (entries_of xs)
inserted k r [] h = refl
inserted k r (x ∷ xs) h = by (bytes_cmp k x.0) refl (inserted k r xs)
  where
    by : (o : Ordering) → bytes_cmp k x.0 ≡ o → (is_at_least (rank_at k xs) r ≡ false → entries_of (insert_entry bytes_cmp xs k r) ≡ with_entry (entry_at (k, r)) (entries_of xs))
        → entries_of (insert_entry bytes_cmp (x ∷ xs) k r) ≡ with_entry (entry_at (k, r)) (entries_of (x ∷ xs))
    by Less e later = rw e refl
    by Equal e later =
        let below : is_below x.1 r ≡ true = not-false (is_below x.1 r) (rw e at h) in
        rw e (ap (λ z. z ∷ entries_of xs) (same_place k x.0 r e ∙ second_wins (entry_at x) (entry_at (k, r)) below))
    by Greater e later = rw e (ap (λ zs. entry_at x ∷ zs) (later (rw e at h)))

not_found : (k : List ℕ) (xs : Ranks) → AllByRecursion (λ q. bytes_cmp k q ≡ Less) (keys_of xs) → rank_at k xs ≡ None
not_found k [] h = refl
not_found k (x ∷ xs) h = rw h.0 (not_found k xs h.1)

below_all : (k l : List ℕ) (qs : List (List ℕ)) → bytes_cmp k l ≡ Less → AllByRecursion (λ q. bytes_cmp l q ≡ Less) qs → AllByRecursion (λ q. bytes_cmp k q ≡ Less) qs
below_all k l [] e h = tt
below_all k l (q ∷ qs) e h = (nat_list_cmp_total.trans k l q e h.0, below_all k l qs e h.1)

-- a key that has a rank which is not lower keeps it
pub kept : (k : List ℕ) (r : Rank) (xs : Ranks) → IsStrictlySortedBy bytes_cmp (keys_of xs) → is_at_least (rank_at k xs) r ≡ true → entries_of xs ≡ with_entry (entry_at (k, r)) (entries_of xs)
kept k r [] s h = absurd cc
kept k r (x ∷ xs) s h = by (bytes_cmp k x.0) refl (kept k r xs (sorted_tail bytes_cmp x.0 (keys_of xs) s))
  where
    by : (o : Ordering) → bytes_cmp k x.0 ≡ o → (is_at_least (rank_at k xs) r ≡ true → entries_of xs ≡ with_entry (entry_at (k, r)) (entries_of xs))
        → entries_of (x ∷ xs) ≡ with_entry (entry_at (k, r)) (entries_of (x ∷ xs))
    by Less e later =
        let none : rank_at k xs ≡ None = not_found k xs (below_all k x.0 (keys_of xs) e (sorted_head bytes_cmp x.0 (keys_of xs) s)) in
        let here : is_at_least (rank_at k xs) r ≡ true = rw e at h in
        let no : false ≡ true = rw none at here in
        absurd cc
    by Equal e later =
        let above : is_below x.1 r ≡ false = not-true (is_below x.1 r) (rw e at h) in
        rw e (ap (λ z. z ∷ entries_of xs) (first_wins (entry_at x) (entry_at (k, r)) above))
    by Greater e later = rw e (ap (λ zs. entry_at x ∷ zs) (later (rw e at h)))
