-- Entries that have a key at a version, and positions that the path of a key goes through.
use Rattle.std.proofs.Common.{◌≡◌, ◌⊎◌, ℕ, zero, suc, ◌+◌, ◌-◌, Bool, true, false, cond, List, [], ◌∷◌, ◌++◌, Option, None, Some, get_or, slice_get, length, refl, ap, sym, ◌∙◌, subst, arith, inl, inr}
use Rattle.std.specs.Prelude.{filter}
use Rattle.ens_base.specs.declared.entry.Entry.{Entry}
use Rattle.ens_base.specs.declared.epoch.Version.{Version}
use Rattle.ens_base.specs.Lists.{◌∈◌}
use Rattle.tree_node.specs.declared.position.Position.{Position}
use Rattle.tree_node.specs.declared.version.TreeVersion.{TreeVersion}
use Rattle.synctree.specs.Forms.{child}
use Rattle.synctree.specs.Sixteen.{form_of}
use Rattle.tree_exchange.specs.Asks.{onward, is_known, if_unknown, to_ask, last_key}
use Rattle.tree_exchange.specs.Covers.{IsAtLeast, Has, Passes, PassesAny, Covers}

pub has_part : (p : List ℕ → Bool) (m : List Entry) (k : List ℕ) (v : Version) → p k ≡ true → Has m k v → Has (filter (λ e. p e.key) m) k v
has_part p [] k v t h = absurd h
has_part p (x ∷ m) k v t (inl (is, le)) = subst (λ (b : Bool). Has (cond b (x ∷ filter (λ e. p e.key) m) (filter (λ e. p e.key) m)) k v) (sym (ap p is ∙ t)) (inl (is, le))
has_part p (x ∷ m) k v t (inr h) = by (p x.key) (has_part p m k v t h)
  where
    by : (b : Bool) → Has (filter (λ e. p e.key) m) k v → Has (cond b (x ∷ filter (λ e. p e.key) m) (filter (λ e. p e.key) m)) k v
    by true r = inr r
    by false r = r

pub has_append : (a b : List Entry) (k : List ℕ) (v : Version) → Has a k v → Has (a ++ b) k v
has_append [] b k v h = absurd h
has_append (x ∷ a) b k v (inl h) = inl h
has_append (x ∷ a) b k v (inr h) = inr (has_append a b k v h)

pub has_behind : (a b : List Entry) (k : List ℕ) (v : Version) → Has b k v → Has (a ++ b) k v
has_behind [] b k v h = h
has_behind (x ∷ a) b k v h = inr (has_behind a b k v h)

-- an entry that has the key at the version
pub record Held (m : List Entry) (k : List ℕ) (v : Version) : Type 0 where
  pub entry : Entry
  pub inside : entry ∈ m
  pub key_is : entry.key ≡ k
  pub least : IsAtLeast entry.version v

pub has_in : (m : List Entry) (k : List ℕ) (v : Version) → Has m k v → Held m k v
has_in [] k v h = absurd h
has_in (x ∷ m) k v (inl (is, le)) = record { entry = x; inside = inl refl; key_is = is; least = le }
has_in (x ∷ m) k v (inr h) = let r = has_in m k v h in record { entry = r.entry; inside = inr r.inside; key_is = r.key_is; least = r.least }

pub in_has : (e : Entry) (m : List Entry) (k : List ℕ) (v : Version) → e ∈ m → e.key ≡ k → IsAtLeast e.version v → Has m k v
in_has e [] k v i is le = absurd i
in_has e (x ∷ m) k v (inl same) is le = inl (sym (ap (λ (y : Entry). y.key) same) ∙ is, subst (λ (y : Entry). IsAtLeast y.version v) same le)
in_has e (x ∷ m) k v (inr i) is le = inr (in_has e m k v i is le)

pub from_filter : (q : Entry → Bool) (e : Entry) (m : List Entry) → e ∈ filter q m → (e ∈ m) × (q e ≡ true)
from_filter q e [] i = absurd i
from_filter q e (x ∷ m) i = by (q x) refl i (λ j. from_filter q e m j)
  where
    by : (b : Bool) → q x ≡ b → e ∈ cond b (x ∷ filter q m) (filter q m) → (e ∈ filter q m → (e ∈ m) × (q e ≡ true)) → (e ∈ (x ∷ m)) × (q e ≡ true)
    by true is (inl same) rest = (inl same, ap q same ∙ is)
    by true is (inr j) rest = let r = rest j in (inr r.0, r.1)
    by false is j rest = let r = rest j in (inr r.0, r.1)

pub any_append : (tree : TreeVersion) (a b : List Position) (k : List ℕ) → PassesAny tree k a ⊎ PassesAny tree k b → PassesAny tree k (a ++ b)
any_append tree [] b k (inl h) = absurd h
any_append tree [] b k (inr h) = h
any_append tree (p ∷ a) b k (inl (inl h)) = inl h
any_append tree (p ∷ a) b k (inl (inr h)) = inr (any_append tree a b k (inl h))
any_append tree (p ∷ a) b k (inr h) = inr (any_append tree a b k (inr h))

-- what lies under a position left is covered by the ask that goes on
pub onward_covers : (tree : TreeVersion) (ps : List Position) (es own : List Entry) (k : List ℕ) (v : Version) → PassesAny tree k ps ⊎ (Has es k v ⊎ Has own k v) → Covers tree (onward ps es) own k v
onward_covers tree [] es own k v (inl h) = absurd h
onward_covers tree [] es own k v (inr h) = inr h
onward_covers tree (p ∷ ps) es own k v (inl (inl h)) = inl (inl (h, refl))
onward_covers tree (p ∷ ps) es own k v (inl (inr h)) = inl (inr h)
onward_covers tree (p ∷ ps) es own k v (inr h) = inr h

-- a child that is not known is asked for
pub asked_any : (tree : TreeVersion) (damaged : List Position) (at : Position) (own cs : List (Option (List ℕ))) (i j : ℕ) (d k : List ℕ) → get_or cs j None ≡ Some d → is_known damaged (child (form_of tree) at (i + j)) (get_or own (i + j) None) d ≡ false
    → Passes tree k (child (form_of tree) at (i + j)) → PassesAny tree k (to_ask tree damaged at own i cs)
asked_any tree damaged at own [] i j d k e f l = absurd cc
asked_any tree damaged at own (c ∷ cs) i zero d k e f l =
    let same : i + 0 ≡ i = omega arith in
    any_append tree (if_unknown damaged (child (form_of tree) at i) (get_or own i None) c) (to_ask tree damaged at own (i + 1) cs) k (inl (
    subst (λ (o : Option (List ℕ)). PassesAny tree k (if_unknown damaged (child (form_of tree) at i) (get_or own i None) o)) (sym e)
    (here (is_known damaged (child (form_of tree) at i) (get_or own i None) d) (subst (λ (n : ℕ). is_known damaged (child (form_of tree) at n) (get_or own n None) d ≡ false) same f) (subst (λ (n : ℕ). Passes tree k (child (form_of tree) at n)) same l))))
  where
    here : (b : Bool) → b ≡ false → Passes tree k (child (form_of tree) at i) → PassesAny tree k (cond b [] (child (form_of tree) at i ∷ []))
    here true z p = absurd cc
    here false z p = inl p
asked_any tree damaged at own (c ∷ cs) i (suc j) d k e f l =
    let next : i + suc j ≡ (i + 1) + j = omega arith in
    any_append tree (if_unknown damaged (child (form_of tree) at i) (get_or own i None) c) (to_ask tree damaged at own (i + 1) cs) k (inr (
    asked_any tree damaged at own cs (i + 1) j d k e (subst (λ (n : ℕ). is_known damaged (child (form_of tree) at n) (get_or own n None) d ≡ false) next f) (subst (λ (n : ℕ). Passes tree k (child (form_of tree) at n)) next l)))

last_at : (x : Entry) (es : List Entry) (e : Entry) (n : ℕ) → n ≡ length es → Some e ≡ slice_get (x ∷ es) n → Some e.key ≡ last_key (x ∷ es)
last_at x [] e zero l is = let same : e ≡ x = cc in ap (λ (y : Entry). Some y.key) same
last_at x [] e (suc n) l is = absurd (omega (arith, l))
last_at x (y ∷ es) e zero l is = absurd (omega (arith, l))
last_at x (y ∷ es) e (suc n) l is = last_at y es e n (omega (arith, l)) is

-- the key of the last entry
pub last_is : (es : List Entry) (e : Entry) → Some e ≡ slice_get es (length es - 1) → Some e.key ≡ last_key es
last_is [] e is = absurd cc
last_is (x ∷ es) e is = last_at x es e (length (x ∷ es) - 1) (omega arith) is
