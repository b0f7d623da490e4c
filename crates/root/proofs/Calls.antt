-- Calls that are kept by their keys.
use Rattle.std.proofs.Common.{◌≡◌, ℕ, Bool, true, false, true≢false, cond, if◌then◌else◌, ◌||◌, List, [], ◌∷◌, map, Option, Some, Result, Ok, Err, refl, sym, ap, ◌∙◌, inl, inr}
use Rattle.std.specs.BTreeMap.{BTreeMap, get, is_at}
use Rattle.std.specs.List.{list_any}
use Rattle.std.specs.Prelude.{OnOk}
use Rattle.std.proofs.lemmas.Map.Text.{is_eq-slice_cmp}
use Rattle.ens_base.proofs.Lists.{bytes_itself, bytes_same}
use Rattle.ens_base.specs.Lists.{◌∈◌, bytes_cmp, same_bytes}
use Rattle.history_scribe.specs.Histories.{AreHistories, history_of}
use Rattle.register_model.specs.Orders.{order}
use Rattle.register_model.specs.declared.history.History.{History}
use Rattle.register_model.specs.declared.note.Note.{Note}
use Rattle.replay.proofs.Members.{Contains_from_in, in_from_Contains}
use Rattle.replay.specs.WorldModel.{run_of, World}
use Rattle.root.specs.Histories.{AreCalls, calls_in, filled, order_by, orders_by, with_calls}

cond_if : {A : Type 0} (b : Bool) (x y : A) → cond b x y ≡ (if b then x else y)
cond_if true x y = refl
cond_if false x y = refl

-- one history more
pub calls_put : (h : History) (more : List History) (key : List ℕ) (old new : Option (List ℕ)) → new ≡ cond (is_at (bytes_cmp h.key) key) (Some h.calls) old → calls_in more key new ≡ calls_in (h ∷ more) key old
calls_put h more key old new is = ap (calls_in more key) (is ∙ ap (λ (b : Bool). cond b (Some h.calls) old) (is_eq-slice_cmp h.key key) ∙ cond_if (same_bytes h.key key) (Some h.calls) old)

-- the histories of these keys
calls_none : (notes : List Note) (keys : List (List ℕ)) (key : List ℕ) (old : Option (List ℕ)) → ¬ (key ∈ keys) → calls_in (map (history_of notes) keys) key old ≡ old
calls_none notes [] key old none = refl
calls_none notes (k ∷ keys) key old none = by (same_bytes k key) refl (calls_none notes keys key old (λ m. none (inr m)))
  where
    by : (b : Bool) → same_bytes k key ≡ b → calls_in (map (history_of notes) keys) key old ≡ old → calls_in (map (history_of notes) keys) key (if same_bytes k key then Some (order notes k) else old) ≡ old
    by true e later = absurd (none (inl (sym (bytes_same k key e))))
    by false e later = ap (λ (b : Bool). calls_in (map (history_of notes) keys) key (if b then Some (order notes k) else old)) e ∙ later

-- where the key is kept already, it stays so
calls_same : (notes : List Note) (keys : List (List ℕ)) (key : List ℕ) → calls_in (map (history_of notes) keys) key (Some (order notes key)) ≡ Some (order notes key)
calls_same notes [] key = refl
calls_same notes (k ∷ keys) key = by (same_bytes k key) refl (calls_same notes keys key)
  where
    by : (b : Bool) → same_bytes k key ≡ b → calls_in (map (history_of notes) keys) key (Some (order notes key)) ≡ Some (order notes key) → calls_in (map (history_of notes) keys) key (if same_bytes k key then Some (order notes k) else Some (order notes key)) ≡ Some (order notes key)
    by true e later =
        ap (λ (b : Bool). calls_in (map (history_of notes) keys) key (if b then Some (order notes k) else Some (order notes key))) e
        ∙ ap (λ (x : List ℕ). calls_in (map (history_of notes) keys) key (Some (order notes x))) (bytes_same k key e) ∙ later
    by false e later = ap (λ (b : Bool). calls_in (map (history_of notes) keys) key (if b then Some (order notes k) else Some (order notes key))) e ∙ later

calls_there : (notes : List Note) (keys : List (List ℕ)) (key : List ℕ) (old : Option (List ℕ)) → key ∈ keys → calls_in (map (history_of notes) keys) key old ≡ Some (order notes key)
calls_there notes [] key old m = absurd m
calls_there notes (k ∷ keys) key old (inl is) =
    let here : same_bytes k key ≡ true = ap (same_bytes k) is ∙ bytes_itself k in
    ap (λ (b : Bool). calls_in (map (history_of notes) keys) key (if b then Some (order notes k) else old)) here ∙ ap (λ (x : List ℕ). calls_in (map (history_of notes) keys) key (Some (order notes x))) (sym is) ∙ calls_same notes keys key
calls_there notes (k ∷ keys) key old (inr m) = calls_there notes keys key (if same_bytes k key then Some (order notes k) else old) m

-- a key that is searched in a list
pub any_in : (keys : List (List ℕ)) (key : List ℕ) → key ∈ keys → list_any (same_bytes key) keys ≡ true
any_in [] key m = absurd m
any_in (k ∷ keys) key (inl is) = ap (λ (b : Bool). b || list_any (same_bytes key) keys) (ap (same_bytes key) (sym is) ∙ bytes_itself key)
any_in (k ∷ keys) key (inr m) = by (same_bytes key k) (any_in keys key m)
  where
    by : (b : Bool) → list_any (same_bytes key) keys ≡ true → (b || list_any (same_bytes key) keys) ≡ true
    by true h = refl
    by false h = h

pub in_any : (keys : List (List ℕ)) (key : List ℕ) → list_any (same_bytes key) keys ≡ true → key ∈ keys
in_any [] key h = absurd cc
in_any (k ∷ keys) key h = by (same_bytes key k) refl h (in_any keys key)
  where
    by : (b : Bool) → same_bytes key k ≡ b → (b || list_any (same_bytes key) keys) ≡ true → (list_any (same_bytes key) keys ≡ true → key ∈ keys) → key ∈ (k ∷ keys)
    by true e h later = inl (bytes_same key k e)
    by false e h later = inr (later h)

-- the histories of a world keep its orders
pub world_orders : (w : World) (histories : List History) (key : List ℕ) (old : Option (List ℕ)) → AreHistories (run_of w).notes (run_of w).called histories → calls_in histories key old ≡ order_by w key old
world_orders w histories key old are = ap (λ (hs : List History). calls_in hs key old) are.2 ∙ by (list_any (same_bytes key) (run_of w).called) refl
  where
    by : (b : Bool) → list_any (same_bytes key) (run_of w).called ≡ b → calls_in (map (history_of (run_of w).notes) are.0) key old ≡ (if list_any (same_bytes key) (run_of w).called then Some (order (run_of w).notes key) else old)
    by true e =
        let there : key ∈ are.0 = in_from_Contains are.0 key ((are.1.same key).1 (Contains_from_in (run_of w).called key (in_any (run_of w).called key e))) in
        calls_there (run_of w).notes are.0 key old there ∙ sym (ap (λ (b : Bool). if b then Some (order (run_of w).notes key) else old) e)
    by false e =
        let none : ¬ (key ∈ are.0) = λ m. true≢false (sym (any_in (run_of w).called key (in_from_Contains (run_of w).called key ((are.1.same key).0 (Contains_from_in are.0 key m)))) ∙ e) in
        calls_none (run_of w).notes are.0 key old none ∙ sym (ap (λ (b : Bool). if b then Some (order (run_of w).notes key) else old) e)

-- one history was kept
pub calls_next : (h : History) (more left : List History) (key : List ℕ) (old new kept : Option (List ℕ)) → left ≡ h ∷ more → new ≡ cond (is_at (bytes_cmp h.key) key) (Some h.calls) old → calls_in left key old ≡ kept → calls_in more key new ≡ kept
calls_next h more left key old new kept is puts so_far = calls_put h more key old new puts ∙ ap (λ (hs : List History). calls_in hs key old) (sym is) ∙ so_far

-- those of a world were
pub orders_kept : {A E : Type 0} (r : Result A E) (w : World) (histories : List History) (old calls : BTreeMap (List ℕ) (List ℕ)) → AreHistories (run_of w).notes (run_of w).called histories → OnOk r (AreCalls calls (λ key. calls_in histories key (get bytes_cmp old key)))
    → OnOk r (AreCalls calls (λ key. order_by w key (get bytes_cmp old key)))
orders_kept (Ok x) w histories old calls are kept = λ key. kept key ∙ world_orders w histories key (get bytes_cmp old key) are
orders_kept (Err e) w histories old calls are kept = tt

-- those of one world more were
pub orders_next : (slot : ℕ) (w : World) (more left : List (ℕ × World)) (key : List ℕ) (old new kept : Option (List ℕ)) → left ≡ (slot, w) ∷ more → new ≡ order_by w key old → orders_by left key old ≡ kept → orders_by more key new ≡ kept
orders_next slot w more left key old new kept is next so_far = ap (orders_by more key) next ∙ ap (λ (es : List (ℕ × World)). orders_by es key old) (sym is) ∙ so_far

pub orders_last : (left : List (ℕ × World)) (key : List ℕ) (old kept : Option (List ℕ)) → left ≡ [] → orders_by left key old ≡ kept → old ≡ kept
orders_last left key old kept none so_far = ap (λ (es : List (ℕ × World)). orders_by es key old) (sym none) ∙ so_far

-- histories that are filled with these calls are filled with the same
pub filled_same : (calls : BTreeMap (List ℕ) (List ℕ)) (of : List ℕ → Option (List ℕ)) (histories : List History) → AreCalls calls of → map (filled (get bytes_cmp calls)) histories ≡ map (filled of) histories
filled_same calls of [] are = refl
filled_same calls of (h ∷ more) are = ap (λ (f : History). f ∷ map (filled (get bytes_cmp calls)) more) (ap (λ (o : Option (List ℕ)). with_calls o h) (are h.key)) ∙ ap (λ (fs : List History). filled of h ∷ fs) (filled_same calls of more are)
