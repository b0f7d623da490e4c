-- Gets and puts of a backend, one after another.
use Rattle.std.proofs.Common.{◌≡◌, ℕ, ◌+◌, ◌<◌, ◌≤◌, List, [], ◌∷◌, ◌++◌, length, get_or, drop, Option, Result, Ok, Err, refl, ap, sym, ◌∙◌, subst, inl, inr, append_assoc, append-nil, arith}
use Rattle.std.specs.Prelude.{IfOk, IfErr, OnOk, IsErrOf}
use Rattle.ens_base.specs.Causes.{Rose}
use Rattle.ens_base.specs.declared.entry.Entry.{Entry}
use Rattle.stored_formats.specs.Objects.{object_spelling}
use Rattle.stored_formats.specs.declared.object.Object.{Object}
use Rattle.environment.specs.Stores.{BackendCall, BackendAnswer, Get, Put, StoreCounts}
use Rattle.environment.specs.declared.errors.StoreError.{StoreError}
use Rattle.environment.specs.declared.errors.StoreError.TheVariants.{Failed, Memory}
use Rattle.synctree.proofs.Slices.{drop_at, drop_all}
use Rattle.tree_backup.specs.declared.item.Item.{Item}
use Rattle.tree_backup.specs.Items.{entries_of}
use Rattle.tree_backup.specs.Stores.{decoded, item_with, fetched, Fetches, FetchStops, DidFetchOne, Puts, PutStops, DidPutOne}

pub counts_later : {T : Type 0} (before now : ℕ) (r : Result T StoreError) → StoreCounts before now r → before ≤ now
counts_later before now (Ok x) h = h
counts_later before now (Err Failed) h = h.0
counts_later before now (Err Memory) h = omega (arith, h)

pub counts_rose : {T : Type 0} (before now : ℕ) (r : Result T StoreError) → StoreCounts before now r → IsErrOf r Failed → Rose before now
counts_rose before now (Ok x) h is = absurd cc
counts_rose before now (Err Failed) h is = h.1
counts_rose before now (Err Memory) h is = absurd cc

pub error_rose : (A B : Type 0) (before now : ℕ) (e : StoreError) → StoreCounts {T = B} before now (Err e) → IsErrOf {T = A} (Err e) Failed → Rose before now
error_rose A B before now Failed h is = h.1
error_rose A B before now Memory h is = absurd cc

-- memory is no failure
pub not_failed : {T : Type 0} (r : Result T StoreError) → IfErr r (λ e. e ≡ Memory) → IsErrOf r Failed → ⊥
not_failed (Ok x) h is = cc
not_failed (Err Failed) h is = cc
not_failed (Err Memory) h is = cc

module _ {S : Type 0} (may : S → (call : BackendCall) → BackendAnswer call → S → Type 0) (loses : S → BackendCall → StoreError → S → Type 0) where
  pub fetch_memory : (es : List Entry) (s : S) → FetchStops may loses es s Memory s
  fetch_memory [] s = (refl, refl)
  fetch_memory (e ∷ es) s = inl (refl, refl)

  -- one get
  pub fetch_one : (key : List ℕ) (s t : S) (bytes : Option (List ℕ)) (r : Result (Option Object) StoreError) → may s (Get key) bytes t → IfOk r (λ o. o ≡ decoded bytes) → IfErr r (λ e. e ≡ Memory) → DidFetchOne may loses key s r t
  fetch_one key s t bytes (Ok o) did ok err = (bytes, did, ok)
  fetch_one key s t bytes (Err e) did ok err = inr (bytes, did, err)

  -- one put
  pub put_one : (o : Object) (bytes : List ℕ) (s t : S) (r : Result (Unit {0}) StoreError) → bytes ≡ object_spelling o → OnOk r (may s (Put o.key bytes) tt t) → IfErr r (λ e. loses s (Put o.key bytes) e t) → DidPutOne may loses o s r t
  put_one o bytes s t (Ok x) is ok err = subst (λ (b : List ℕ). may s (Put o.key b) tt t) is ok
  put_one o bytes s t (Err e) is ok err = inl (subst (λ (b : List ℕ). loses s (Put o.key b) e t) is err)

  -- what remains to be fetched, fetched from u, is all of it, fetched from s
  pub record FetchesOn (all rest : List Entry) (items : List Item) (s u : S) : Type 0 where
    pub ends : (others : List Item) (t : S) → Fetches may rest u others t → Fetches may all s (items ++ others) t
    pub stops : (e : StoreError) (t : S) → FetchStops may loses rest u e t → FetchStops may loses all s e t

  -- one more was fetched
  fetch_step : (all rest : List Entry) (items : List Item) (x : Entry) (s u v : S) (object : Option Object) → FetchesOn all (x ∷ rest) items s u → DidFetchOne may loses x.key u (Ok object) v → FetchesOn all rest (items ++ item_with x object ∷ []) s v
  fetch_step all rest items x s u v object on did = record {
    ends = λ others t h.
        let here : Fetches may (x ∷ rest) u (fetched x did.0 ∷ others) t = (did.0, v, others, did.1, refl, h) in
        let same : items ++ fetched x did.0 ∷ others ≡ (items ++ item_with x object ∷ []) ++ others =
        ap (λ (o : Option Object). items ++ item_with x o ∷ others) (sym did.2) ∙ sym (append_assoc items (item_with x object ∷ []) others) in
        subst (λ ys. Fetches may all s ys t) same (on.ends (fetched x did.0 ∷ others) t here);
    stops = λ e t h. on.stops e t (inr (inr (did.0, v, did.1, h)));
  }

  pub fetch_next : (all : List Entry) (i : ℕ) (items grown : List Item) (x copy : Entry) (s u v : S) (object : Option Object) → i < length all → x ≡ get_or all i x → copy ≡ x → FetchesOn all (drop i all) items s u → DidFetchOne may loses x.key u (Ok object) v
      → grown ≡ items ++ item_with copy object ∷ [] → FetchesOn all (drop (i + 1) all) grown s v
  fetch_next all i items grown x copy s u v object lt is same on did more =
      let next = fetch_step all (drop (i + 1) all) items x s u v object (subst (λ (es : List Entry). FetchesOn all es items s u) (drop_at all i x x lt is) on) did in
      let made : items ++ item_with x object ∷ [] ≡ grown = ap (λ (e : Entry). items ++ item_with e object ∷ []) (sym same) ∙ sym more in
      subst (λ (ys : List Item). FetchesOn all (drop (i + 1) all) ys s v) made next

  pub fetch_err : (all : List Entry) (i : ℕ) (items : List Item) (x : Entry) (s u v : S) (e : StoreError) → i < length all → x ≡ get_or all i x → FetchesOn all (drop i all) items s u → DidFetchOne may loses x.key u (Err e) v → FetchStops may loses all s e v
  fetch_err all i items x s u v e lt is on did = on.stops e v (subst (λ (es : List Entry). FetchStops may loses es u e v) (sym (drop_at all i x x lt is)) (by did))
    where
      by : DidFetchOne may loses x.key u (Err e) v → FetchStops may loses (x ∷ drop (i + 1) all) u e v
      by (inl off) = inr (inl off)
      by (inr cut) = inr (inr (cut.0, v, cut.1, subst (λ (d : StoreError). FetchStops may loses (drop (i + 1) all) v d v) (sym cut.2) (fetch_memory (drop (i + 1) all) v)))

  -- memory ran out behind a get
  pub fetch_cut : (all : List Entry) (i : ℕ) (items : List Item) (x : Entry) (s u v : S) (object : Option Object) → i < length all → x ≡ get_or all i x → FetchesOn all (drop i all) items s u → DidFetchOne may loses x.key u (Ok object) v → FetchStops may loses all s Memory v
  fetch_cut all i items x s u v object lt is on did =
      (fetch_step all (drop (i + 1) all) items x s u v object (subst (λ (es : List Entry). FetchesOn all es items s u) (drop_at all i x x lt is) on) did).stops Memory v (fetch_memory (drop (i + 1) all) v)

  pub fetch_done : (all : List Entry) (i : ℕ) (items : List Item) (s u : S) → length all ≤ i → FetchesOn all (drop i all) items s u → Fetches may all s items u
  fetch_done all i items s u le on =
      let end : FetchesOn all [] items s u = subst (λ (es : List Entry). FetchesOn all es items s u) (drop_all all i le) on in
      subst (λ (ys : List Item). Fetches may all s ys u) (append-nil items) (end.ends [] u (refl, refl))

  -- the items that were fetched are those of the entries
  pub fetched_entries : (es : List Entry) (s t : S) (items : List Item) → Fetches may es s items t → entries_of items ≡ es
  fetched_entries [] s t items h = ap entries_of h.0
  fetched_entries (e ∷ es) s t items h = ap entries_of h.4 ∙ ap (λ ys. e ∷ ys) (fetched_entries es h.1 t h.2 h.5)

  -- what remains to be stored, stored from u, is all of it, stored from s
  pub record PutsOn (all rest : List Object) (s u : S) : Type 0 where
    pub ends : (t : S) → Puts may rest u t → Puts may all s t
    pub stops : (e : StoreError) (t : S) → PutStops may loses rest u e t → PutStops may loses all s e t

  pub put_next : (all : List Object) (i : ℕ) (x : Object) (s u v : S) → i < length all → x ≡ get_or all i x → PutsOn all (drop i all) s u → DidPutOne may loses x u (Ok tt) v → PutsOn all (drop (i + 1) all) s v
  put_next all i x s u v lt is on did =
      let here : PutsOn all (x ∷ drop (i + 1) all) s u = subst (λ (os : List Object). PutsOn all os s u) (drop_at all i x x lt is) on in
      record { ends = λ t h. here.ends t (v, did, h); stops = λ e t h. here.stops e t (inr (inr (v, did, h))) }

  pub put_err : (all : List Object) (i : ℕ) (x : Object) (s u v : S) (e : StoreError) → i < length all → x ≡ get_or all i x → PutsOn all (drop i all) s u → DidPutOne may loses x u (Err e) v → PutStops may loses all s e v
  put_err all i x s u v e lt is on did =
      let here : PutsOn all (x ∷ drop (i + 1) all) s u = subst (λ (os : List Object). PutsOn all os s u) (drop_at all i x x lt is) on in
      here.stops e v (by did)
    where
      by : DidPutOne may loses x u (Err e) v → PutStops may loses (x ∷ drop (i + 1) all) u e v
      by (inl off) = inr (inl off)
      by (inr cut) = inl cut

  pub put_done : (all : List Object) (i : ℕ) (s u : S) → length all ≤ i → PutsOn all (drop i all) s u → Puts may all s u
  put_done all i s u le on = (subst (λ (os : List Object). PutsOn all os s u) (drop_all all i le) on).ends u refl
