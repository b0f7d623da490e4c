-- Keys that ascend, strictly or not.
use Rattle.std.proofs.Common.{◌≡◌, ◌≢◌, ℕ, ◌+◌, ◌<◌, ◌≤◌, true, List, [], ◌∷◌, ◌++◌, length, get_or, map, take, drop, Option, None, Some, refl, ap, sym, ◌∙◌, subst, arith, take-append-drop}
use Rattle.std.specs.List.{AllByRecursion, cons_option}
use Rattle.std.specs.declared.cmp.Ordering.{Ordering}
use Rattle.std.specs.declared.cmp.Ordering.TheVariants.{Less, Equal, Greater}
use Rattle.std.proofs.lemmas.List.{map-append}
use Rattle.std.proofs.lemmas.List.Elements.{filter_map-append}
use Rattle.ens_base.specs.Lists.{bytes_cmp}
use Rattle.ens_base.specs.declared.entry.Entry.{Entry}
use Rattle.stored_formats.specs.declared.object.Object.{Object}
use Rattle.fields.specs.Entries.{IsEntry}
use Rattle.synctree.specs.Entries.{IsBelowAll, Ascends}
use Rattle.synctree.proofs.Orders.{less_back, less_trans, cmp_equal}
use Rattle.synctree.proofs.Slices.{drop_at}
use Rattle.synctree.proofs.TreeNode.{less_above}
use Rattle.tree_node.specs.Entries.{is_less, is_above, AreAbove}
use Rattle.tree_node.specs.Repeats.{AreListed}
use Rattle.tree_repair.specs.Sorted.{stepped, place, sorted}
use Rattle.tree_backup.specs.declared.item.Item.{Item}
use Rattle.tree_backup.specs.Checks.{names, matches}
use Rattle.tree_backup.specs.Items.{IsItem, IsNext, entries_of, objects_of, KeysAbove}
use Rattle.tree_backup.specs.Order.{Rises, IsTwice}
use Rattle.tree_backup.proofs.Matches.{key_named}

above_trans : (a b c : List ℕ) → is_above a b ≡ true → is_above b c ≡ true → is_above a c ≡ true
above_trans a b c h k = ap is_less (less_trans a b c (less_above a b h) (less_above b c k))

pub lower : (low key : List ℕ) (keys : List (List ℕ)) → is_above low key ≡ true → KeysAbove key keys → KeysAbove low keys
lower low key [] h up = tt
lower low key (k ∷ ks) h up = (above_trans low key k h up.0, up.1)

pub entries_above : (low : List ℕ) (xs : List Item) → AreListed IsNext (λ x. x.entry.key) low xs → AreAbove low (entries_of xs)
entries_above low [] h = tt
entries_above low (x ∷ xs) h = (h.0.0, entries_above x.entry.key xs h.1)

pub objects_above : (low : List ℕ) (xs : List Item) → AreListed IsNext (λ x. x.entry.key) low xs → AllByRecursion (λ x. matches x ≡ true) xs → KeysAbove low (map (λ (o : Object). o.key) (objects_of xs))
objects_above low [] h all = tt
objects_above low (x ∷ xs) h all = by x.object all.0 (objects_above x.entry.key xs h.1 all.1)
  where
    by : (o : Option Object) → names x.entry o ≡ true → KeysAbove x.entry.key (map (λ (y : Object). y.key) (objects_of xs)) → KeysAbove low (map (λ (y : Object). y.key) (cons_option o (objects_of xs)))
    by None k up = lower low x.entry.key (map (λ (y : Object). y.key) (objects_of xs)) h.0.0 up
    by (Some o) k up =
        let same : x.entry.key ≡ o.key = sym (key_named x.entry o k) in
        (subst (λ (key : List ℕ). is_above low key ≡ true) same h.0.0, subst (λ (key : List ℕ). KeysAbove key (map (λ (y : Object). y.key) (objects_of xs))) same up)

-- items that keep their limits, whose entries ascend
pub items_listed : (low : List ℕ) (xs : List Item) → AreAbove low (entries_of xs) → AllByRecursion IsItem xs → AreListed IsNext (λ x. x.entry.key) low xs
items_listed low [] up all = tt
items_listed low (x ∷ xs) up all = ((up.0, all.0), items_listed x.entry.key xs up.1 all.1)

pub entries_push : (xs : List Item) (x : Item) → entries_of (xs ++ x ∷ []) ≡ entries_of xs ++ x.entry ∷ []
entries_push xs x = map-append (λ (y : Item). y.entry) xs (x ∷ [])

pub objects_push : (xs : List Item) (x : Item) → objects_of (xs ++ x ∷ []) ≡ objects_of xs ++ cons_option x.object []
objects_push xs x = filter_map-append (λ (y : Item). y.object) xs (x ∷ [])

-- ## Entries as a map

below_all : (key low : List ℕ) (es : List Entry) → bytes_cmp key low ≡ Less → AreAbove low es → IsBelowAll key es
below_all key low [] l up = tt
below_all key low (e ∷ es) l up = let m : bytes_cmp key e.key ≡ Less = less_trans key low e.key l (less_above low e.key up.0) in (m, below_all key e.key es m up.1)

below_first : (key : List ℕ) (es : List Entry) → AreAbove key es → IsBelowAll key es
below_first key [] up = tt
below_first key (e ∷ es) up = let l : bytes_cmp key e.key ≡ Less = less_above key e.key up.0 in (l, below_all key e.key es l up.1)

pub ascends_of : (low : List ℕ) (es : List Entry) → AreAbove low es → Ascends es
ascends_of low [] up = tt
ascends_of low (e ∷ es) up = (below_first e.key es up.1, ascends_of e.key es up.1)

pub entries_valid : (low : List ℕ) (xs : List Item) → AreListed IsNext (λ x. x.entry.key) low xs → AllByRecursion IsEntry (entries_of xs)
entries_valid low [] h = tt
entries_valid low (x ∷ xs) h = (h.0.1.entry, entries_valid x.entry.key xs h.1)

-- ## Entries that were sorted

nothing_first : (key : List ℕ) → bytes_cmp [] key ≢ Greater
nothing_first [] = λ e. cc
nothing_first (k ∷ key) = λ e. cc

not_greater : (a b : List ℕ) → bytes_cmp a b ≡ Less → bytes_cmp a b ≢ Greater
not_greater a b l = λ g. let no : Less ≡ Greater = sym l ∙ g in absurd cc

rises_place : (low : List ℕ) (e : Entry) (zs : List Entry) → bytes_cmp low e.key ≢ Greater → Rises low zs → Rises low (place e zs)
rises_place low e [] h up = (h, tt)
rises_place low e (z ∷ zs) h up = by (bytes_cmp e.key z.key) refl (λ k. rises_place z.key e zs k up.1)
  where
    by : (o : Ordering) → bytes_cmp e.key z.key ≡ o → (bytes_cmp z.key e.key ≢ Greater → Rises z.key (place e zs)) → Rises low (stepped o e z zs (place e zs))
    by Less k r = (h, (not_greater e.key z.key k, up.1))
    by Equal k r = (h, ((λ g. let no : Equal ≡ Greater = sym k ∙ g in absurd cc), up.1))
    by Greater k r = (up.0, r (not_greater z.key e.key (less_back e.key z.key k)))

pub rises_sorted : (xs : List Entry) → Rises [] (sorted xs)
rises_sorted [] = tt
rises_sorted (x ∷ xs) = rises_place [] x (sorted xs) (nothing_first x.key) (rises_sorted xs)

-- ## A loop over them

-- the key of an entry, at which the loop stands, is that of the entry before it
abbrev pub TwiceAt : List ℕ → List Entry → ℕ → Type 0
TwiceAt last es i = (x : Entry) (rest : List Entry) → drop i es ≡ x ∷ rest → 1 ≤ length x.key → last ≡ x.key → IsTwice es

pub twice_first : (es : List Entry) → TwiceAt [] es 0
twice_first es x rest at some same = absurd (omega (arith, some, ap length same))

pub twice_next : (es : List Entry) (i : ℕ) (e : Entry) (last : List ℕ) → i < length es → e ≡ get_or es i e → last ≡ e.key → TwiceAt last es (i + 1)
twice_next es i e last lt is at x rest next some same = record {
  before = take i es;
  first = e;
  second = x;
  behind = rest;
  split = sym (take-append-drop i es) ∙ ap (λ ys. take i es ++ ys) (drop_at es i e e lt is ∙ ap (λ ys. e ∷ ys) next);
  same = sym at ∙ same;
}

-- the step of an entry whose key is not below
pub rises_next : (last key : List ℕ) (es : List Entry) (i : ℕ) (e : Entry) → i < length es → e ≡ get_or es i e → key ≡ e.key → Rises last (drop i es) → Rises key (drop (i + 1) es)
rises_next last key es i e lt is at up = subst (λ (k : List ℕ). Rises k (drop (i + 1) es)) (sym at) (subst (λ ys. Rises last ys) (drop_at es i e e lt is) up).1

pub not_falling : (last key : List ℕ) (es : List Entry) (i : ℕ) (e : Entry) → i < length es → e ≡ get_or es i e → key ≡ e.key → Rises last (drop i es) → bytes_cmp last key ≡ Greater → ⊥
not_falling last key es i e lt is at up g = (subst (λ ys. Rises last ys) (drop_at es i e e lt is) up).0 (ap (bytes_cmp last) (sym at) ∙ g)

pub twice_here : (last key : List ℕ) (es : List Entry) (i : ℕ) (e : Entry) → i < length es → e ≡ get_or es i e → key ≡ e.key → 1 ≤ length e.key → TwiceAt last es i → bytes_cmp last key ≡ Equal → IsTwice es
twice_here last key es i e lt is at some twice same = twice e (drop (i + 1) es) (drop_at es i e e lt is) some (cmp_equal last key same ∙ at)
