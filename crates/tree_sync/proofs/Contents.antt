-- What a merge holds, and that entries have only one.
use Rattle.std.proofs.Common.{◌≡◌, ℕ, Bool, true, false, List, [], ◌∷◌, refl, ap, sym, subst, ◌∙◌, inl, inr}
use Rattle.std.specs.Prelude.{◌⊎◌}
use Rattle.std.specs.Cmp.{IsTotalOrder}
use Rattle.std.specs.Cmp.Lexicographic.{nat_list_cmp_total}
use Rattle.std.specs.Ordering.{on, ordering_reverse, is_lt}
use Rattle.std.specs.declared.cmp.Ordering.{Ordering}
use Rattle.std.specs.declared.cmp.Ordering.TheVariants.{Less, Equal, Greater}
use Rattle.std.proofs.lemmas.Cmp.{then_total, on_total}
use Rattle.std.proofs.lemmas.Map.Lookups.{exact_bytes}
use Rattle.ens_base.proofs.Orders.{versions, both_equal, equal_versions}
use Rattle.ens_base.specs.Epochs.{version_cmp}
use Rattle.ens_base.specs.Lists.{bytes_cmp, ◌∈◌}
use Rattle.ens_base.specs.declared.entry.Entry.{Entry}
use Rattle.tree_node.specs.Entries.{AreAbove, is_above}
use Rattle.tree_node.proofs.Above.{above_less, less_above, not_above_itself}
use Rattle.tree_sync.specs.Merges.{rank_cmp, is_lower, greater, with_entry, with_entries, merged, Ascend, Exceeds, IsMerge}

-- ## The order of entries by version and digest

ranks : IsTotalOrder rank_cmp
ranks = then_total (on_total (λ (e : Entry). e.version) versions) (on_total (λ (e : Entry). e.digest) nat_list_cmp_total)

same_entries : (a b : Entry) → a.key ≡ b.key → rank_cmp a b ≡ Equal → a ≡ b
same_entries a b k h =
    let parts = both_equal (on (λ (e : Entry). e.version) version_cmp) (on (λ (e : Entry). e.digest) bytes_cmp) a b h in
    λ i. record { key = k i; version = equal_versions a.version b.version parts.0 i; digest = exact_bytes a.digest b.digest parts.1 i }

not_less : (o : Ordering) → is_lt o ≡ false → (o ≡ Less → ⊥)
not_less Less h e = absurd cc
not_less Equal h e = absurd cc
not_less Greater h e = absurd cc

is_lower_false : (a b : Entry) → (rank_cmp a b ≡ Less → ⊥) → is_lower a b ≡ false
is_lower_false a b h = by (rank_cmp a b) refl
  where
    by : (o : Ordering) → rank_cmp a b ≡ o → is_lt (rank_cmp a b) ≡ false
    by Less e = absurd (h e)
    by Equal e = rw e refl
    by Greater e = rw e refl

less_up : (a b c : Entry) → rank_cmp a c ≡ Less → is_lower b c ≡ false → rank_cmp a b ≡ Less
less_up a b c l n = by (rank_cmp b c) refl
  where
    by : (o : Ordering) → rank_cmp b c ≡ o → rank_cmp a b ≡ Less
    by Less e = absurd (not_less (rank_cmp b c) n e)
    by Equal e = ranks.antisymm a b ∙ ap ordering_reverse (ranks.congr b c a e) ∙ sym (ranks.antisymm a c) ∙ l
    by Greater e = ranks.trans a c b l (ranks.antisymm c b ∙ ap ordering_reverse e)

not_lower_itself : (a : Entry) → is_lower a a ≡ false
not_lower_itself a = is_lower_false a a (λ l. let back : Less ≡ Greater = sym l ∙ ranks.antisymm a a ∙ ap ordering_reverse l in absurd cc)

not_lower_trans : (a b c : Entry) → is_lower a b ≡ false → is_lower b c ≡ false → is_lower a c ≡ false
not_lower_trans a b c f g = is_lower_false a c (λ l. not_less (rank_cmp a b) f (less_up a b c l g))

-- entries of one key, of which neither is lower, are equal
neither_lower : (a b : Entry) → a.key ≡ b.key → is_lower a b ≡ false → is_lower b a ≡ false → a ≡ b
neither_lower a b k f g = by (rank_cmp a b) refl
  where
    by : (o : Ordering) → rank_cmp a b ≡ o → a ≡ b
    by Less e = absurd (not_less (rank_cmp a b) f e)
    by Equal e = same_entries a b k e
    by Greater e = absurd (not_less (rank_cmp b a) g (ranks.antisymm b a ∙ ap ordering_reverse e))

exceeds_itself : (e : Entry) → Exceeds e e
exceeds_itself e = record { key = refl; not_lower = not_lower_itself e }

-- ## The greater of two entries of a key

greater_first : (a b : Entry) → is_lower a b ≡ false → greater a b ≡ a
greater_first a b e = rw e refl

greater_second : (a b : Entry) → is_lower a b ≡ true → greater a b ≡ b
greater_second a b e = rw e refl

greater_is : (a b : Entry) → (greater a b ≡ a) ⊎ (greater a b ≡ b)
greater_is a b = by (is_lower a b) refl
  where
    by : (t : Bool) → is_lower a b ≡ t → (greater a b ≡ a) ⊎ (greater a b ≡ b)
    by true e = inr (greater_second a b e)
    by false e = inl (greater_first a b e)

greater_key : (a b : Entry) → b.key ≡ a.key → (greater a b).key ≡ a.key
greater_key a b k = by (greater_is a b)
  where
    by : (greater a b ≡ a) ⊎ (greater a b ≡ b) → (greater a b).key ≡ a.key
    by (inl e) = ap (λ (x : Entry). x.key) e
    by (inr e) = ap (λ (x : Entry). x.key) e ∙ k

lower_once : (a b : Entry) → is_lower a b ≡ true → is_lower b a ≡ false
lower_once a b h = is_lower_false b a (λ l. let o : rank_cmp a b ≡ Greater = ranks.antisymm a b ∙ ap ordering_reverse l in let no : false ≡ true = sym (ap is_lt o) ∙ h in absurd cc)

over_first : (a b : Entry) → b.key ≡ a.key → Exceeds (greater a b) a
over_first a b k = by (is_lower a b) refl
  where
    by : (t : Bool) → is_lower a b ≡ t → Exceeds (greater a b) a
    by true e = subst (λ (x : Entry). Exceeds x a) (sym (greater_second a b e)) (record { key = k; not_lower = lower_once a b e })
    by false e = subst (λ (x : Entry). Exceeds x a) (sym (greater_first a b e)) (exceeds_itself a)

over_second : (a b : Entry) → b.key ≡ a.key → Exceeds (greater a b) b
over_second a b k = by (is_lower a b) refl
  where
    by : (t : Bool) → is_lower a b ≡ t → Exceeds (greater a b) b
    by true e = subst (λ (x : Entry). Exceeds x b) (sym (greater_second a b e)) (exceeds_itself b)
    by false e = subst (λ (x : Entry). Exceeds x b) (sym (greater_first a b e)) (record { key = sym k; not_lower = e })

-- ## One more entry

with_from : (e : Entry) (m : List Entry) (x : Entry) → x ∈ with_entry e m → (x ≡ e) ⊎ (x ∈ m)
with_from e [] x h = h
with_from e (y ∷ ys) x h = by (bytes_cmp e.key y.key) refl (with_from e ys x)
  where
    either : (greater y e ≡ y) ⊎ (greater y e ≡ e) → (x ≡ greater y e) ⊎ (x ∈ ys) → (x ≡ e) ⊎ (x ∈ (y ∷ ys))
    either (inl g) (inl p) = inr (inl (p ∙ g))
    either (inr g) (inl p) = inl (p ∙ g)
    either g (inr p) = inr (inr p)

    later : (x ∈ with_entry e ys → (x ≡ e) ⊎ (x ∈ ys)) → (x ≡ y) ⊎ (x ∈ with_entry e ys) → (x ≡ e) ⊎ (x ∈ (y ∷ ys))
    later rest (inl p) = inr (inl p)
    later rest (inr p) = past (rest p)
      where
        past : (x ≡ e) ⊎ (x ∈ ys) → (x ≡ e) ⊎ (x ∈ (y ∷ ys))
        past (inl q) = inl q
        past (inr q) = inr (inr q)

    by : (o : Ordering) → bytes_cmp e.key y.key ≡ o → (x ∈ with_entry e ys → (x ≡ e) ⊎ (x ∈ ys)) → (x ≡ e) ⊎ (x ∈ (y ∷ ys))
    by Less o rest = rw o at h
    by Equal o rest = either (greater_is y e) (rw o at h)
    by Greater o rest = later rest (rw o at h)

-- an entry that exceeds this one is in the list
abbrev Covers : List Entry → Entry → Type 0
Covers m x = (g : Entry) × (g ∈ m) × Exceeds g x

further : (y : Entry) (m : List Entry) (x : Entry) → Covers m x → Covers (y ∷ m) x
further y m x c = (c.0, inr c.1, c.2)

with_covers : (e : Entry) (m : List Entry) → Covers (with_entry e m) e
with_covers e [] = (e, inl refl, exceeds_itself e)
with_covers e (y ∷ ys) = by (bytes_cmp e.key y.key) refl (with_covers e ys)
  where
    by : (o : Ordering) → bytes_cmp e.key y.key ≡ o → Covers (with_entry e ys) e → Covers (with_entry e (y ∷ ys)) e
    by Less o rest = rw o (e, inl refl, exceeds_itself e)
    by Equal o rest = rw o (greater y e, inl refl, over_second y e (exact_bytes e.key y.key o))
    by Greater o rest = rw o (further y (with_entry e ys) e rest)

with_keeps : (e : Entry) (m : List Entry) (x : Entry) → x ∈ m → Covers (with_entry e m) x
with_keeps e [] x h = absurd h
with_keeps e (y ∷ ys) x h = by (bytes_cmp e.key y.key) refl h (with_keeps e ys x)
  where
    by : (o : Ordering) → bytes_cmp e.key y.key ≡ o → (x ≡ y) ⊎ (x ∈ ys) → (x ∈ ys → Covers (with_entry e ys) x) → Covers (with_entry e (y ∷ ys)) x
    by Less o p rest = rw o (x, inr p, exceeds_itself x)
    by Equal o (inl p) rest = rw o (greater y e, inl refl, subst (λ (z : Entry). Exceeds (greater y e) z) (sym p) (over_first y e (exact_bytes e.key y.key o)))
    by Equal o (inr p) rest = rw o (x, inr p, exceeds_itself x)
    by Greater o (inl p) rest = rw o (x, inl p, exceeds_itself x)
    by Greater o (inr p) rest = rw o (further y (with_entry e ys) x (rest p))

is_above_back : (j k : List ℕ) → bytes_cmp j k ≡ Greater → is_above k j ≡ true
is_above_back j k e = above_less k j (nat_list_cmp_total.antisymm k j ∙ ap ordering_reverse e)

above_with : (low : List ℕ) (e : Entry) (m : List Entry) → is_above low e.key ≡ true → AreAbove low m → AreAbove low (with_entry e m)
above_with low e [] l a = (l, tt)
above_with low e (y ∷ ys) l a = by (bytes_cmp e.key y.key) refl (λ b. above_with y.key e ys b a.1)
  where
    by : (o : Ordering) → bytes_cmp e.key y.key ≡ o → (is_above y.key e.key ≡ true → AreAbove y.key (with_entry e ys)) → AreAbove low (with_entry e (y ∷ ys))
    by Less o rest = rw o (l, (above_less e.key y.key o, a.1))
    by Equal o rest = rw o (subst (λ (k : List ℕ). (is_above low k ≡ true) × AreAbove k ys) (sym (greater_key y e (exact_bytes e.key y.key o))) a)
    by Greater o rest = rw o (a.0, rest (is_above_back e.key y.key o))

ascend_with : (e : Entry) (m : List Entry) → Ascend m → Ascend (with_entry e m)
ascend_with e [] a = tt
ascend_with e (y ∷ ys) a = by (bytes_cmp e.key y.key) refl
  where
    by : (o : Ordering) → bytes_cmp e.key y.key ≡ o → Ascend (with_entry e (y ∷ ys))
    by Less o = rw o (above_less e.key y.key o, a)
    by Equal o = rw o (subst (λ (k : List ℕ). AreAbove k ys) (sym (greater_key y e (exact_bytes e.key y.key o))) a)
    by Greater o = rw o (above_with y.key e ys (is_above_back e.key y.key o) a)

-- ## The merge

-- what a merge of the entries with a property holds
record Holds (P : Entry → Type 0) (m : List Entry) : Type 0 where
  ascend : Ascend m
  from : (e : Entry) → e ∈ m → P e
  greatest : (e : Entry) → P e → Covers m e

held_as : (P Q : Entry → Type 0) (m : List Entry) → ((e : Entry) → P e → Q e) → ((e : Entry) → Q e → P e) → Holds P m → Holds Q m
held_as P Q m f g h = record { ascend = h.ascend; from = λ e p. f e (h.from e p); greatest = λ e q. h.greatest e (g e q) }

covers_more : (e : Entry) (m : List Entry) (x : Entry) → Covers m x → Covers (with_entry e m) x
covers_more e m x c =
    let d : Covers (with_entry e m) c.0 = with_keeps e m c.0 c.1 in
    (d.0, d.1, record { key = d.2.key ∙ c.2.key; not_lower = not_lower_trans d.0 c.0 x d.2.not_lower c.2.not_lower })

one_more : (P : Entry → Type 0) (e : Entry) (m : List Entry) → Holds P m → Holds (λ x. P x ⊎ (x ≡ e)) (with_entry e m)
one_more P e m h = record {
  ascend = ascend_with e m h.ascend;
  from = λ x p. was x (with_from e m x p);
  greatest = covered;
}
  where
    was : (x : Entry) → (x ≡ e) ⊎ (x ∈ m) → P x ⊎ (x ≡ e)
    was x (inl p) = inr p
    was x (inr p) = inl (h.from x p)

    covered : (x : Entry) → P x ⊎ (x ≡ e) → Covers (with_entry e m) x
    covered x (inl p) = covers_more e m x (h.greatest x p)
    covered x (inr p) = subst (λ (y : Entry). Covers (with_entry e m) y) (sym p) (with_covers e m)

regroup : (P : Entry → Type 0) (e : Entry) (es : List Entry) (x : Entry) → (P x ⊎ (x ≡ e)) ⊎ (x ∈ es) → P x ⊎ (x ∈ (e ∷ es))
regroup P e es x (inl (inl p)) = inl p
regroup P e es x (inl (inr p)) = inr (inl p)
regroup P e es x (inr p) = inr (inr p)

ungroup : (P : Entry → Type 0) (e : Entry) (es : List Entry) (x : Entry) → P x ⊎ (x ∈ (e ∷ es)) → (P x ⊎ (x ≡ e)) ⊎ (x ∈ es)
ungroup P e es x (inl p) = inl (inl p)
ungroup P e es x (inr (inl p)) = inl (inr p)
ungroup P e es x (inr (inr p)) = inr p

unlisted : (P : Entry → Type 0) (x : Entry) → P x ⊎ (x ∈ []) → P x
unlisted P x (inl p) = p
unlisted P x (inr p) = absurd p

all_more : (P : Entry → Type 0) (m es : List Entry) → Holds P m → Holds (λ x. P x ⊎ (x ∈ es)) (with_entries m es)
all_more P m [] h = held_as P (λ x. P x ⊎ (x ∈ [])) m (λ x p. inl p) (unlisted P) h
all_more P m (e ∷ es) h =
    held_as (λ x. (P x ⊎ (x ≡ e)) ⊎ (x ∈ es)) (λ x. P x ⊎ (x ∈ (e ∷ es))) (with_entries (with_entry e m) es) (regroup P e es) (ungroup P e es)
    (all_more (λ x. P x ⊎ (x ≡ e)) (with_entry e m) es (one_more P e m h))

no_entry : Holds (λ x. ⊥) []
no_entry = record { ascend = tt; from = λ e p. p; greatest = λ e p. absurd p }

only_listed : (es : List Entry) (x : Entry) → ⊥ ⊎ (x ∈ es) → x ∈ es
only_listed es x (inl p) = absurd p
only_listed es x (inr p) = p

pub merge : (es : List Entry) → IsMerge es (merged es)
merge es =
    let h : Holds (λ x. x ∈ es) (merged es) = held_as (λ x. ⊥ ⊎ (x ∈ es)) (λ x. x ∈ es) (merged es) (only_listed es) (λ x p. inr p) (all_more (λ x. ⊥) [] es no_entry) in
    record { ascend = h.ascend; from = h.from; greatest = h.greatest }

-- ## Only one merge

above_all : (low : List ℕ) (es : List Entry) (x : Entry) → AreAbove low es → x ∈ es → bytes_cmp low x.key ≡ Less
above_all low [] x a h = absurd h
above_all low (e ∷ es) x a (inl p) = subst (λ (k : List ℕ). bytes_cmp low k ≡ Less) (ap (λ (z : Entry). z.key) (sym p)) (less_above low e.key a.0)
above_all low (e ∷ es) x a (inr p) = nat_list_cmp_total.trans low e.key x.key (less_above low e.key a.0) (above_all e.key es x a.1 p)

not_above : (a : Entry) (es : List Entry) (x : Entry) → AreAbove a.key es → x ∈ es → a.key ≡ x.key → ⊥
not_above a es x above h k = not_above_itself x.key (subst (λ (j : List ℕ). bytes_cmp j x.key ≡ Less) k (above_all a.key es x above h))

tail_ascends : (low : List ℕ) (es : List Entry) → AreAbove low es → Ascend es
tail_ascends low [] a = tt
tail_ascends low (e ∷ es) a = a.1

one_of_key : (m : List Entry) (x y : Entry) → Ascend m → x ∈ m → y ∈ m → x.key ≡ y.key → x ≡ y
one_of_key [] x y a p q k = absurd p
one_of_key (z ∷ zs) x y a (inl p) (inl q) k = p ∙ sym q
one_of_key (z ∷ zs) x y a (inl p) (inr q) k = absurd (not_above z zs y a q (ap (λ (e : Entry). e.key) (sym p) ∙ k))
one_of_key (z ∷ zs) x y a (inr p) (inl q) k = absurd (not_above z zs x a p (ap (λ (e : Entry). e.key) (sym q) ∙ sym k))
one_of_key (z ∷ zs) x y a (inr p) (inr q) k = one_of_key zs x y (tail_ascends z.key zs a) p q k

within : (es m n : List Entry) → IsMerge es m → IsMerge es n → (x : Entry) → x ∈ m → x ∈ n
within es m n f g x h =
    let c : Covers n x = g.greatest x (f.from x h) in
    let d : Covers m c.0 = f.greatest c.0 (g.from c.0 c.1) in
    let same : d.0 ≡ x = one_of_key m d.0 x f.ascend d.1 h (d.2.key ∙ c.2.key) in
    let low : is_lower x c.0 ≡ false = subst (λ (z : Entry). is_lower z c.0 ≡ false) same d.2.not_lower in
    subst (λ (z : Entry). z ∈ n) (neither_lower c.0 x c.2.key c.2.not_lower low) c.1

tail_within : (a : Entry) (xs ys : List Entry) → AreAbove a.key xs → ((z : Entry) → z ∈ (a ∷ xs) → z ∈ (a ∷ ys)) → (z : Entry) → z ∈ xs → z ∈ ys
tail_within a xs ys above f z h = by (f z (inr h))
  where
    by : (z ≡ a) ⊎ (z ∈ ys) → z ∈ ys
    by (inl p) = absurd (not_above a xs z above h (ap (λ (e : Entry). e.key) (sym p)))
    by (inr p) = p

same_lists : (m n : List Entry) → Ascend m → Ascend n → ((x : Entry) → x ∈ m → x ∈ n) → ((x : Entry) → x ∈ n → x ∈ m) → m ≡ n
same_lists [] [] a b f g = refl
same_lists [] (y ∷ ys) a b f g = absurd (g y (inl refl))
same_lists (x ∷ xs) [] a b f g = absurd (f x (inl refl))
same_lists (x ∷ xs) (y ∷ ys) a b f g = by (f x (inl refl)) (g y (inl refl)) (same_lists xs)
  where
    joined : x ≡ y → ((ns : List Entry) → Ascend xs → Ascend ns → ((z : Entry) → z ∈ xs → z ∈ ns) → ((z : Entry) → z ∈ ns → z ∈ xs) → xs ≡ ns) → x ∷ xs ≡ y ∷ ys
    joined p rest =
        let f2 : (z : Entry) → z ∈ (x ∷ xs) → z ∈ (x ∷ ys) = subst (λ (w : Entry). (z : Entry) → z ∈ (x ∷ xs) → z ∈ (w ∷ ys)) (sym p) f in
        let g2 : (z : Entry) → z ∈ (x ∷ ys) → z ∈ (x ∷ xs) = subst (λ (w : Entry). (z : Entry) → z ∈ (w ∷ ys) → z ∈ (x ∷ xs)) (sym p) g in
        let b2 : AreAbove x.key ys = subst (λ (w : Entry). AreAbove w.key ys) (sym p) b in
        let tails : xs ≡ ys = rest ys (tail_ascends x.key xs a) (tail_ascends x.key ys b2) (tail_within x xs ys a f2) (tail_within x ys xs b2 g2) in
        λ i. p i ∷ tails i

    by : (x ≡ y) ⊎ (x ∈ ys) → (y ≡ x) ⊎ (y ∈ xs) → ((ns : List Entry) → Ascend xs → Ascend ns → ((z : Entry) → z ∈ xs → z ∈ ns) → ((z : Entry) → z ∈ ns → z ∈ xs) → xs ≡ ns) → x ∷ xs ≡ y ∷ ys
    by (inl p) q rest = joined p rest
    by (inr p) (inl q) rest = joined (sym q) rest
    by (inr p) (inr q) rest = absurd (not_above_itself x.key (nat_list_cmp_total.trans x.key y.key x.key (above_all x.key xs y a q) (above_all y.key ys x b p)))

pub only_one : (es m : List Entry) → IsMerge es m → m ≡ merged es
only_one es m h =
    let g : IsMerge es (merged es) = merge es in
    same_lists m (merged es) h.ascend g.ascend (within es m (merged es) h g) (within es (merged es) m g h)
