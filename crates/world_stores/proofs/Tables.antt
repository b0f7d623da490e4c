-- The map of the entries of a table: what a change of the table does to it, and what it has at a key.
use Rattle.std.proofs.Common.{◌≡◌, ◌≢◌, ℕ, Bool, true, false, cond, List, [], ◌∷◌, Option, None, Some, Ordering, Less, Equal, Greater, is_eq, refl, sym, ap, subst, ◌∙◌}
use Rattle.std.proofs.lemmas.Cmp.{nat_list_cmp_total, tied_itself}
use Rattle.std.proofs.lemmas.Map.Lookups.{exact_bytes}
use Rattle.std.specs.BTreeMap.{is_at}
use Rattle.std.specs.List.{AllByRecursion}
use Rattle.std.specs.List.Sorted.{IsStrictlySortedBy}
use Rattle.std.specs.Map.{keys_of, lookup}
use Rattle.std.specs.Ordering.{ordering_reverse}
use Rattle.indexmap.specs.IndexMap.{insert_entry}
use Rattle.ens_base.specs.Lists.{bytes_cmp}
use Rattle.environment.specs.Maps.{Entries, value_at, with_value}
use Rattle.environment.proofs.MapLaws.{found_after}
use Rattle.world_stores.specs.Maps.{map_of, without}

itself : (k : List ℕ) → bytes_cmp k k ≡ Equal
itself k = tied_itself nat_list_cmp_total k

greater : (k l : List ℕ) → bytes_cmp k l ≡ Less → bytes_cmp l k ≡ Greater
greater k l h = nat_list_cmp_total.antisymm l k ∙ ap ordering_reverse h

-- ## Values stored one after another

-- the later of two values under one key stays
twice : (k v w : List ℕ) (es : Entries) → with_value k w (with_value k v es) ≡ with_value k w es
twice k v w [] = rw (itself k) refl
twice k v w (e ∷ es) = by_order (bytes_cmp k e.0) refl (twice k v w es)
  where
    by_order : (o : Ordering) → bytes_cmp k e.0 ≡ o → with_value k w (with_value k v es) ≡ with_value k w es → with_value k w (with_value k v (e ∷ es)) ≡ with_value k w (e ∷ es)
    by_order Less order later = rw (order, itself k) refl
    by_order Equal order later = rw (order, order) refl
    by_order Greater order later = rw (order, order) (ap (λ (rest : Entries). e ∷ rest) later)

-- values under two keys may be stored in either order
below : (k l v w : List ℕ) (es : Entries) → bytes_cmp k l ≡ Less → with_value k v (with_value l w es) ≡ with_value l w (with_value k v es)
below k l v w [] h = rw (h, greater k l h) refl
below k l v w (e ∷ es) h = by_order (bytes_cmp l e.0) refl (bytes_cmp k e.0) refl (below k l v w es h)
  where
    less : bytes_cmp l e.0 ≡ Less → bytes_cmp k e.0 ≡ Less
    less order = nat_list_cmp_total.trans k l e.0 h order

    tied : bytes_cmp l e.0 ≡ Equal → bytes_cmp k e.0 ≡ Less
    tied order = subst (λ (q : List ℕ). bytes_cmp k q ≡ Less) (exact_bytes l e.0 order) h

    by_order : (o : Ordering) → bytes_cmp l e.0 ≡ o → (p : Ordering) → bytes_cmp k e.0 ≡ p → with_value k v (with_value l w es) ≡ with_value l w (with_value k v es)
        → with_value k v (with_value l w (e ∷ es)) ≡ with_value l w (with_value k v (e ∷ es))
    by_order Less order p at later = rw (less order, greater k l h, order, h) refl
    by_order Equal order p at later = rw (tied order, greater k l h, order, tied order) refl
    by_order Greater order Less at later = rw (at, greater k l h, order, at) refl
    by_order Greater order Equal at later = rw (order, at, order) refl
    by_order Greater order Greater at later = rw (order, at, order) (ap (λ (rest : Entries). e ∷ rest) later)

apart : (k l v w : List ℕ) (es : Entries) → k ≢ l → with_value k v (with_value l w es) ≡ with_value l w (with_value k v es)
apart k l v w es differ = by_order (bytes_cmp k l) refl
  where
    by_order : (o : Ordering) → bytes_cmp k l ≡ o → with_value k v (with_value l w es) ≡ with_value l w (with_value k v es)
    by_order Less order = below k l v w es order
    by_order Equal order = absurd (differ (exact_bytes k l order))
    by_order Greater order = sym (below l k w v es (nat_list_cmp_total.antisymm l k ∙ ap ordering_reverse order))

-- ## What a map has at a key

at_is : (k l : List ℕ) → is_at (bytes_cmp k) l ≡ true → k ≡ l
at_is k l h = by_order (bytes_cmp k l) refl
  where
    by_order : (o : Ordering) → bytes_cmp k l ≡ o → k ≡ l
    by_order Less order = let bad : false ≡ true = sym (ap is_eq order) ∙ h in absurd cc
    by_order Equal order = exact_bytes k l order
    by_order Greater order = let bad : false ≡ true = sym (ap is_eq order) ∙ h in absurd cc

off : (k l : List ℕ) → k ≢ l → is_at (bytes_cmp k) l ≡ false
off k l differ = by_order (bytes_cmp k l) refl
  where
    by_order : (o : Ordering) → bytes_cmp k l ≡ o → is_eq (bytes_cmp k l) ≡ false
    by_order Less order = ap is_eq order
    by_order Equal order = absurd (differ (exact_bytes k l order))
    by_order Greater order = ap is_eq order

elsewhere : (k l w : List ℕ) (es : Entries) → k ≢ l → value_at k (with_value l w es) ≡ value_at k es
elsewhere k l w [] differ = rw (off k l differ) refl
elsewhere k l w (e ∷ es) differ = by_order (bytes_cmp l e.0) refl (elsewhere k l w es differ)
  where
    by_order : (o : Ordering) → bytes_cmp l e.0 ≡ o → value_at k (with_value l w es) ≡ value_at k es → value_at k (with_value l w (e ∷ es)) ≡ value_at k (e ∷ es)
    by_order Less order later = rw (order, off k l differ) refl
    by_order Equal order later = let same : is_at (bytes_cmp k) e.0 ≡ false = subst (λ (q : List ℕ). is_at (bytes_cmp k) q ≡ false) (exact_bytes l e.0 order) (off k l differ) in rw (order, same) refl
    by_order Greater order later = rw order (ap (λ (o : Option (List ℕ)). cond (is_at (bytes_cmp k) e.0) (Some e.1) o) later)

-- ## Keys in order

raised : (k x : List ℕ) (ks : List (List ℕ)) → bytes_cmp k x ≡ Less → AllByRecursion (λ y. bytes_cmp x y ≡ Less) ks → AllByRecursion (λ y. bytes_cmp k y ≡ Less) ks
raised k x [] h all = tt
raised k x (y ∷ ys) h all = (nat_list_cmp_total.trans k x y h all.0, raised k x ys h all.1)

bounded : (x k v : List ℕ) (es : Entries) → bytes_cmp x k ≡ Less → AllByRecursion (λ y. bytes_cmp x y ≡ Less) (keys_of es) → AllByRecursion (λ y. bytes_cmp x y ≡ Less) (keys_of (with_value k v es))
bounded x k v [] h all = (h, tt)
bounded x k v (e ∷ es) h all = by_order (bytes_cmp k e.0) refl (bounded x k v es h all.1)
  where
    by_order : (o : Ordering) → bytes_cmp k e.0 ≡ o → AllByRecursion (λ y. bytes_cmp x y ≡ Less) (keys_of (with_value k v es)) → AllByRecursion (λ y. bytes_cmp x y ≡ Less) (keys_of (with_value k v (e ∷ es)))
    by_order Less order later = rw order (h, all)
    by_order Equal order later = rw order all
    by_order Greater order later = rw order (all.0, later)

sorted_with : (k v : List ℕ) (es : Entries) → IsStrictlySortedBy bytes_cmp (keys_of es) → IsStrictlySortedBy bytes_cmp (keys_of (with_value k v es))
unfolding IsStrictlySortedBy
sorted_with k v [] s = (tt, tt)
sorted_with k v (e ∷ es) s = by_order (bytes_cmp k e.0) refl (sorted_with k v es s.1)
  where
    by_order : (o : Ordering) → bytes_cmp k e.0 ≡ o → IsStrictlySortedBy bytes_cmp (keys_of (with_value k v es)) → IsStrictlySortedBy bytes_cmp (keys_of (with_value k v (e ∷ es)))
    by_order Less order later = rw order ((order, raised k e.0 (keys_of es) order s.0), s)
    by_order Equal order later = rw order s
    by_order Greater order later = rw order (bounded e.0 k v es (nat_list_cmp_total.antisymm e.0 k ∙ ap ordering_reverse order) s.0, later)

sorted_map : (es : Entries) → IsStrictlySortedBy bytes_cmp (keys_of (map_of es))
unfolding IsStrictlySortedBy
sorted_map [] = tt
sorted_map (e ∷ es) = sorted_with e.0 e.1 (map_of es) (sorted_map es)

-- ## Maps with the same values

-- what is below all keys of a map is none of them
none_below : (k : List ℕ) (es : Entries) → AllByRecursion (λ y. bytes_cmp k y ≡ Less) (keys_of es) → value_at k es ≡ None
none_below k [] all = refl
none_below k (e ∷ es) all = rw all.0 (none_below k es all.1)

-- a key that is lost is no key any more
lost_here : (k : List ℕ) (es : Entries) → IsStrictlySortedBy bytes_cmp (keys_of es) → value_at k (without k es) ≡ None
unfolding IsStrictlySortedBy
lost_here k [] s = refl
lost_here k (e ∷ es) s = by_test (is_at (bytes_cmp k) e.0) refl (lost_here k es s.1)
  where
    by_test : (b : Bool) → is_at (bytes_cmp k) e.0 ≡ b → value_at k (without k es) ≡ None → value_at k (cond b es (e ∷ without k es)) ≡ None
    by_test true at later = none_below k es (subst (λ (q : List ℕ). AllByRecursion (λ y. bytes_cmp q y ≡ Less) (keys_of es)) (sym (at_is k e.0 at)) s.0)
    by_test false at later = rw at later

-- the other keys keep their values
lost_elsewhere : (k q : List ℕ) (es : Entries) → q ≢ k → value_at q (without k es) ≡ value_at q es
lost_elsewhere k q [] differ = refl
lost_elsewhere k q (e ∷ es) differ = by_test (is_at (bytes_cmp k) e.0) refl (lost_elsewhere k q es differ)
  where
    by_test : (b : Bool) → is_at (bytes_cmp k) e.0 ≡ b → value_at q (without k es) ≡ value_at q es → value_at q (cond b es (e ∷ without k es)) ≡ value_at q (e ∷ es)
    by_test true at later = let other : is_at (bytes_cmp q) e.0 ≡ false = subst (λ (x : List ℕ). is_at (bytes_cmp q) x ≡ false) (at_is k e.0 at) (off q k differ) in rw other refl
    by_test false at later = ap (λ (o : Option (List ℕ)). cond (is_at (bytes_cmp q) e.0) (Some e.1) o) later

sub_all : (P : List ℕ → Type 0) (k : List ℕ) (es : Entries) → AllByRecursion P (keys_of es) → AllByRecursion P (keys_of (without k es))
sub_all P k [] all = tt
sub_all P k (e ∷ es) all = by_test (is_at (bytes_cmp k) e.0) (sub_all P k es all.1)
  where
    by_test : (b : Bool) → AllByRecursion P (keys_of (without k es)) → AllByRecursion P (keys_of (cond b es (e ∷ without k es)))
    by_test true later = all.1
    by_test false later = (all.0, later)

sorted_without : (k : List ℕ) (es : Entries) → IsStrictlySortedBy bytes_cmp (keys_of es) → IsStrictlySortedBy bytes_cmp (keys_of (without k es))
unfolding IsStrictlySortedBy
sorted_without k [] s = tt
sorted_without k (e ∷ es) s = by_test (is_at (bytes_cmp k) e.0) (sorted_without k es s.1)
  where
    by_test : (b : Bool) → IsStrictlySortedBy bytes_cmp (keys_of (without k es)) → IsStrictlySortedBy bytes_cmp (keys_of (cond b es (e ∷ without k es)))
    by_test true later = s.1
    by_test false later = (sub_all (λ y. bytes_cmp e.0 y ≡ Less) k es s.0, later)

value_first : (e : List ℕ × List ℕ) (es : Entries) → value_at e.0 (e ∷ es) ≡ Some e.1
value_first e es = rw (itself e.0) refl

value_later : (q : List ℕ) (e : List ℕ × List ℕ) (es : Entries) → q ≢ e.0 → value_at q (e ∷ es) ≡ value_at q es
value_later q e es differ = rw (off q e.0 differ) refl

-- a key below the first one has no value
value_before : (k : List ℕ) (e : List ℕ × List ℕ) (es : Entries) → bytes_cmp k e.0 ≡ Less → IsStrictlySortedBy bytes_cmp (keys_of (e ∷ es)) → value_at k (e ∷ es) ≡ None
unfolding IsStrictlySortedBy
value_before k e es order s = none_below k (e ∷ es) (order, raised k e.0 (keys_of es) order s.0)

some_same : (v w : List ℕ) → Some v ≡ Some w → v ≡ w
some_same v w h = ap (λ (o : Option (List ℕ)). cond_value o) h
  where
    cond_value : Option (List ℕ) → List ℕ
    cond_value (Some x) = x
    cond_value None = v

-- two maps in order that have the same values are one
same_maps : (xs ys : Entries) → IsStrictlySortedBy bytes_cmp (keys_of xs) → IsStrictlySortedBy bytes_cmp (keys_of ys) → ((q : List ℕ) → value_at q xs ≡ value_at q ys) → xs ≡ ys
unfolding IsStrictlySortedBy
same_maps [] [] s t h = refl
same_maps [] (y ∷ ys) s t h = let bad : None ≡ Some y.1 = h y.0 ∙ value_first y ys in absurd cc
same_maps (x ∷ xs) [] s t h = let bad : Some x.1 ≡ None = sym (value_first x xs) ∙ h x.0 in absurd cc
same_maps (x ∷ xs) (y ∷ ys) s t h = by_order (bytes_cmp x.0 y.0) refl (same_maps xs ys s.1 t.1)
  where
    rest : x.0 ≡ y.0 → (q : List ℕ) (o : Ordering) → bytes_cmp q x.0 ≡ o → value_at q xs ≡ value_at q ys
    rest key q Equal order =
        let is = exact_bytes q x.0 order in
        none_below q xs (subst (λ (k : List ℕ). AllByRecursion (λ z. bytes_cmp k z ≡ Less) (keys_of xs)) (sym is) s.0)
        ∙ sym (none_below q ys (subst (λ (k : List ℕ). AllByRecursion (λ z. bytes_cmp k z ≡ Less) (keys_of ys)) (sym (is ∙ key)) t.0))
    rest key q Less order = let differ : q ≢ x.0 = λ e. (let bad : Less ≡ Equal = sym order ∙ ap (bytes_cmp q) (sym e) ∙ itself q in absurd cc) in
        sym (value_later q x xs differ) ∙ h q ∙ value_later q y ys (λ e. differ (e ∙ sym key))
    rest key q Greater order = let differ : q ≢ x.0 = λ e. (let bad : Greater ≡ Equal = sym order ∙ ap (bytes_cmp q) (sym e) ∙ itself q in absurd cc) in
        sym (value_later q x xs differ) ∙ h q ∙ value_later q y ys (λ e. differ (e ∙ sym key))

    by_order : (o : Ordering) → bytes_cmp x.0 y.0 ≡ o → (((q : List ℕ) → value_at q xs ≡ value_at q ys) → xs ≡ ys) → x ∷ xs ≡ y ∷ ys
    by_order Less order later = let bad : Some x.1 ≡ None = sym (value_first x xs) ∙ h x.0 ∙ value_before x.0 y ys order t in absurd cc
    by_order Greater order later = let bad : Some y.1 ≡ None = sym (value_first y ys) ∙ sym (h y.0) ∙ value_before y.0 x xs (nat_list_cmp_total.antisymm y.0 x.0 ∙ ap ordering_reverse order) s in absurd cc
    by_order Equal order later =
        let key = exact_bytes x.0 y.0 order in
        let value = some_same x.1 y.1 (sym (value_first x xs) ∙ h x.0 ∙ ap (λ (k : List ℕ). value_at k (y ∷ ys)) key ∙ value_first y ys) in
        let more = later (λ q. rest key q (bytes_cmp q x.0) refl) in
        λ i. (key i, value i) ∷ more i

-- ## The table

-- a test of two keys that is true for equal keys alone
module _ (eq : List ℕ → List ℕ → Bool) (yes : (k l : List ℕ) → eq k l ≡ true → k ≡ l) (no : (k l : List ℕ) → eq k l ≡ false → k ≢ l) where
  pub table_inserted : (k v : List ℕ) (es : Entries) → map_of (insert_entry eq es k v) ≡ with_value k v (map_of es)
  table_inserted k v [] = refl
  table_inserted k v (e ∷ es) = by_test (eq k e.0) refl (table_inserted k v es)
    where
      by_test : (b : Bool) → eq k e.0 ≡ b → map_of (insert_entry eq es k v) ≡ with_value k v (map_of es) → map_of (cond b ((e.0, v) ∷ es) (e ∷ insert_entry eq es k v)) ≡ with_value k v (map_of (e ∷ es))
      by_test true is later = sym (subst (λ (q : List ℕ). with_value q v (map_of (e ∷ es)) ≡ with_value e.0 v (map_of es)) (sym (yes k e.0 is)) (twice e.0 e.1 v (map_of es)))
      by_test false is later = ap (with_value e.0 e.1) later ∙ sym (apart k e.0 v e.1 (map_of es) (no k e.0 is))

  pub table_found : (k : List ℕ) (es : Entries) → value_at k (map_of es) ≡ lookup (eq k) es
  table_found k [] = refl
  table_found k (e ∷ es) = by_test (eq k e.0) refl (table_found k es)
    where
      by_test : (b : Bool) → eq k e.0 ≡ b → value_at k (map_of es) ≡ lookup (eq k) es → value_at k (map_of (e ∷ es)) ≡ cond b (Some e.1) (lookup (eq k) es)
      by_test true is later = subst (λ (q : List ℕ). value_at q (map_of (e ∷ es)) ≡ Some e.1) (sym (yes k e.0 is)) (found_after e.0 e.1 (map_of es))
      by_test false is later = elsewhere k e.0 e.1 (map_of es) (no k e.0 is) ∙ later

  -- the entry of a key is lost, and the others keep their values, in whatever order
  pub table_lost : (k : List ℕ) (es left : Entries) → lookup (eq k) left ≡ None → ((q : List ℕ) → eq k q ≡ false → lookup (eq q) left ≡ lookup (eq q) es) → map_of left ≡ without k (map_of es)
  table_lost k es left gone same = same_maps (map_of left) (without k (map_of es)) (sorted_map left) (sorted_without k (map_of es) (sorted_map es)) each
    where
      other : (q : List ℕ) → q ≢ k → (b : Bool) → eq k q ≡ b → eq k q ≡ false
      other q differ true is = absurd (differ (sym (yes k q is)))
      other q differ false is = is

      away : (q : List ℕ) → q ≢ k → value_at q (map_of left) ≡ value_at q (without k (map_of es))
      away q differ = table_found q left ∙ same q (other q differ (eq k q) refl) ∙ sym (table_found q es) ∙ sym (lost_elsewhere k q (map_of es) differ)

      by_order : (q : List ℕ) (o : Ordering) → bytes_cmp q k ≡ o → value_at q (map_of left) ≡ value_at q (without k (map_of es))
      by_order q Equal order = subst (λ (x : List ℕ). value_at x (map_of left) ≡ value_at x (without k (map_of es))) (sym (exact_bytes q k order)) (table_found k left ∙ gone ∙ sym (lost_here k (map_of es) (sorted_map es)))
      by_order q Less order = away q (λ e. let bad : Less ≡ Equal = sym order ∙ ap (bytes_cmp q) (sym e) ∙ itself q in absurd cc)
      by_order q Greater order = away q (λ e. let bad : Greater ≡ Equal = sym order ∙ ap (bytes_cmp q) (sym e) ∙ itself q in absurd cc)

      each : (q : List ℕ) → value_at q (map_of left) ≡ value_at q (without k (map_of es))
      each q = by_order q (bytes_cmp q k) refl
