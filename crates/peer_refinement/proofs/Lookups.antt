-- What is found in a map with one more entry.
use Rattle.std.proofs.Common.{◌≡◌, ◌⊎◌, inl, inr, ℕ, Bool, true, false, cond, List, [], ◌∷◌, Some, refl, sym, ap, ◌∙◌}
use Rattle.ens_base.proofs.Lists.{bytes_same}
use Rattle.std.specs.declared.cmp.Ordering.{Ordering}
use Rattle.std.specs.declared.cmp.Ordering.TheVariants.{Less, Equal, Greater}
use Rattle.ens_base.specs.declared.entry.Entry.{Entry}
use Rattle.ens_base.specs.Lists.{◌∈◌, bytes_cmp, same_bytes}
use Rattle.synctree.specs.Entries.{placed, put, lookup}
use Rattle.synctree.proofs.Orders.{cmp_same, cmp_equal}
use Rattle.std.proofs.lemmas.Option.{same_Some}

-- an entry that is put is found under its key, and under each other key what was found before
pub lookup_put : (e : Entry) (m : List Entry) (k : List ℕ) → lookup k (put e m) ≡ cond (same_bytes e.key k) (Some e) (lookup k m)
lookup_put e [] k = refl
lookup_put e (x ∷ m) k = by_order (bytes_cmp e.key x.key) refl (lookup_put e m k)
  where
    in_place : (b c : Bool) → b ≡ c → cond b (Some e) (lookup k m) ≡ cond b (Some e) (cond c (Some x) (lookup k m))
    in_place true c same = refl
    in_place false false same = refl
    in_place false true same = absurd cc

    after_it : (b c : Bool) → same_bytes e.key k ≡ b → same_bytes x.key k ≡ c → bytes_cmp e.key x.key ≡ Greater → lookup k (put e m) ≡ cond b (Some e) (lookup k m) → cond c (Some x) (lookup k (put e m)) ≡ cond b (Some e) (cond c (Some x) (lookup k m))
    after_it b false here there more rest = rest
    after_it false true here there more rest = refl
    after_it true true here there more rest =
        let keys : x.key ≡ e.key = bytes_same x.key k there ∙ sym (bytes_same e.key k here) in
        let no : Greater ≡ Equal = sym more ∙ ap (λ (j : List ℕ). bytes_cmp e.key j) keys ∙ cmp_same e.key in absurd cc

    by_order : (o : Ordering) → bytes_cmp e.key x.key ≡ o → lookup k (put e m) ≡ cond (same_bytes e.key k) (Some e) (lookup k m) → lookup k (placed o e x m (put e m)) ≡ cond (same_bytes e.key k) (Some e) (cond (same_bytes x.key k) (Some x) (lookup k m))
    by_order Less o rest = refl
    by_order Equal o rest = in_place (same_bytes e.key k) (same_bytes x.key k) (ap (λ (j : List ℕ). same_bytes j k) (cmp_equal e.key x.key o))
    by_order Greater o rest = after_it (same_bytes e.key k) (same_bytes x.key k) refl refl o rest

-- an entry of the map with one more is that one, or was there
pub in_put : (f e : Entry) (m : List Entry) → f ∈ put e m → (f ≡ e) ⊎ (f ∈ m)
in_put f e [] h = h
in_put f e (x ∷ m) h = by_order (bytes_cmp e.key x.key) h (λ t. in_put f e m t)
  where
    older : (f ≡ e) ⊎ (f ∈ m) → (f ≡ e) ⊎ ((f ≡ x) ⊎ (f ∈ m))
    older (inl same) = inl same
    older (inr there) = inr (inr there)

    by_order : (o : Ordering) → f ∈ placed o e x m (put e m) → (f ∈ put e m → (f ≡ e) ⊎ (f ∈ m)) → (f ≡ e) ⊎ ((f ≡ x) ⊎ (f ∈ m))
    by_order Less h later = h
    by_order Equal h later = older h
    by_order Greater (inl same) later = inr (inl same)
    by_order Greater (inr there) later = older (later there)

-- what is found under a key is an entry of the map
pub lookup_in : (k : List ℕ) (m : List Entry) (e : Entry) → lookup k m ≡ Some e → e ∈ m
lookup_in k [] e h = absurd cc
lookup_in k (x ∷ m) e h = by_same (same_bytes x.key k) h (λ t. lookup_in k m e t)
  where
    by_same : (b : Bool) → cond b (Some x) (lookup k m) ≡ Some e → (lookup k m ≡ Some e → e ∈ m) → (e ≡ x) ⊎ (e ∈ m)
    by_same true h later = inl (sym (same_Some x e h))
    by_same false h later = inr (later h)

-- and it has that key
pub lookup_key : (k : List ℕ) (m : List Entry) (e : Entry) → lookup k m ≡ Some e → e.key ≡ k
lookup_key k [] e h = absurd cc
lookup_key k (x ∷ m) e h = by_same (same_bytes x.key k) refl h (λ t. lookup_key k m e t)
  where
    by_same : (b : Bool) → same_bytes x.key k ≡ b → cond b (Some x) (lookup k m) ≡ Some e → (lookup k m ≡ Some e → e.key ≡ k) → e.key ≡ k
    by_same true same h later = ap (λ (f : Entry). f.key) (sym (same_Some x e h)) ∙ bytes_same x.key k same
    by_same false other h later = later h
