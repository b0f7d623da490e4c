-- Taking a page, or the children of an inner node, keeps covered what the map has that they are of.
use Rattle.std.proofs.Common.{◌≡◌, ◌⊎◌, ℕ, zero, suc, ◌+◌, ◌<◌, Bool, true, false, List, [], ◌∷◌, ◌++◌, Option, None, Some, length, get_or, take, refl, ap, sym, ◌∙◌, subst, arith, inl, inr}
use Rattle.std.specs.Prelude.{nat_lt, ◌==◌}
use Rattle.std.proofs.lemmas.Bool.{lt-ltb}
use Rattle.md5.specs.Md5.{md5}
use Rattle.ens_base.specs.declared.entry.Entry.{Entry}
use Rattle.ens_base.specs.declared.epoch.Version.{Version}
use Rattle.ens_base.proofs.Tests.{itself}
use Rattle.tree_node.specs.declared.position.Position.{Position}
use Rattle.tree_node.specs.declared.version.TreeVersion.{TreeVersion}
use Rattle.tree_node.specs.Entries.{is_less, is_above}
use Rattle.synctree.specs.Entries.{IsBelowAll, Ascends}
use Rattle.synctree.specs.Forms.{child}
use Rattle.synctree.specs.Maps.{within, named, text, children}
use Rattle.synctree.specs.Paths.{passes, under}
use Rattle.synctree.specs.Sixteen.{form_of}
use Rattle.synctree.proofs.Parts.{ascends-part}
use Rattle.synctree.proofs.Unique.{child_is}
use Rattle.tree_exchange.specs.Asked.{Asked}
use Rattle.tree_exchange.specs.Asks.{is_known, to_ask, last_key, after_inner, after_page}
use Rattle.tree_exchange.specs.Gives.{is_beyond, beyond}
use Rattle.tree_exchange.specs.Covers.{Has, Passes, PassesAny, Covers}
use Rattle.tree_exchange.proofs.Having.{has_part, has_append, has_behind, any_append, onward_covers, asked_any}

last_cons : (x : Entry) (ys : List Entry) (a : List ℕ) → last_key ys ≡ Some a → last_key (x ∷ ys) ≡ Some a
last_cons x [] a e = absurd cc
last_cons x (y ∷ ys) a e = e

above_has : (a : List ℕ) (m : List Entry) (k : List ℕ) (v : Version) → IsBelowAll a m → Has m k v → is_above a k ≡ true
above_has a [] k v b h = absurd h
above_has a (x ∷ m) k v b (inl (is, le)) = subst (λ (q : List ℕ). is_above a q ≡ true) is (ap is_less b.0)
above_has a (x ∷ m) k v b (inr h) = above_has a m k v b.1 h

-- past the entries of a page, or on it
abbrev OnPage : ℕ → List Entry → List ℕ → Version → Type 0
OnPage n xs k v = Has (take n xs) k v ⊎ ((n < length xs) × (a : List ℕ) × (last_key (take n xs) ≡ Some a) × (is_above a k ≡ true))

on_page : (n : ℕ) (xs : List Entry) (k : List ℕ) (v : Version) → Ascends xs → Has xs k v → OnPage (suc n) xs k v
on_page n [] k v s h = absurd h
on_page n (x ∷ xs) k v s (inl h) = inl (inl h)
on_page zero (x ∷ []) k v s (inr h) = absurd h
on_page zero (x ∷ y ∷ xs) k v s (inr h) = inr (omega arith, x.key, refl, above_has x.key (y ∷ xs) k v s.0 h)
on_page (suc n) (x ∷ xs) k v s (inr h) = by (on_page n xs k v s.1 h)
  where
    by : OnPage (suc n) xs k v → OnPage (suc (suc n)) (x ∷ xs) k v
    by (inl r) = inl (inr r)
    by (inr (l, a, e, lt)) = inr (omega arith, a, last_cons x (take (suc n) xs) a e, lt)

page_covers : (tree : TreeVersion) (at : Position) (rest : List Position) (after : Option (List ℕ)) (received es own : List Entry) (more : Bool) (ask : Asked) (k : List ℕ) (v : Version) → ask.left ≡ rest → ask.received ≡ received
    → PassesAny tree k rest ⊎ (Has (received ++ es) k v ⊎ Has own k v) → Covers tree (after_page at es more ask) own k v
page_covers tree at rest after received es own true ask k v l r (inl h) = inl (inr (subst (λ (ps : List Position). PassesAny tree k ps) (sym l) h))
page_covers tree at rest after received es own true ask k v l r (inr h) = inr (subst (λ (xs : List Entry). Has (xs ++ es) k v ⊎ Has own k v) (sym r) h)
page_covers tree at rest after received es own false ask k v l r h =
    onward_covers tree ask.left (ask.received ++ es) own k v (subst (λ (ps : List Position). PassesAny tree k ps ⊎ (Has (ask.received ++ es) k v ⊎ Has own k v)) (sym l) (subst (λ (xs : List Entry). PassesAny tree k rest ⊎ (Has (xs ++ es) k v ⊎ Has own k v)) (sym r) h))

pub page_keeps : (tree : TreeVersion) (n : ℕ) (at : Position) (rest : List Position) (after : Option (List ℕ)) (received own m : List Entry) (k : List ℕ) (v : Version) (ask : Asked) → ask ≡ record { current = Some (record { position = at; after = after }); left = rest; received = received } → Ascends m → Has m k v
    → Covers tree ask own k v → Covers tree (after_page at (take (suc n) (beyond after (under (form_of tree) at m))) (nat_lt (suc n) (length (beyond after (under (form_of tree) at m)))) ask) own k v
page_keeps tree n at rest after received own m k v ask is sorted has covers = by (subst (λ (a : Asked). Covers tree a own k v) is covers)
  where
    left_is : ask.left ≡ rest
    left_is = ap (λ (a : Asked). a.left) is

    received_is : ask.received ≡ received
    received_is = ap (λ (a : Asked). a.received) is

    ends : PassesAny tree k rest ⊎ (Has (received ++ (take (suc n) (beyond after (under (form_of tree) at m)))) k v ⊎ Has own k v) → Covers tree (after_page at (take (suc n) (beyond after (under (form_of tree) at m))) (nat_lt (suc n) (length (beyond after (under (form_of tree) at m)))) ask) own k v
    ends h = page_covers tree at rest after received (take (suc n) (beyond after (under (form_of tree) at m))) own (nat_lt (suc n) (length (beyond after (under (form_of tree) at m)))) ask k v left_is received_is h

    past : (t : Bool) (a : List ℕ) → t ≡ true → last_key (take (suc n) (beyond after (under (form_of tree) at m))) ≡ Some a → Passes tree k at → is_above a k ≡ true → Covers tree (after_page at (take (suc n) (beyond after (under (form_of tree) at m))) t ask) own k v
    past true a t e p lt = inl (inl (p, subst (λ (o : Option (List ℕ)). is_beyond o k ≡ true) (sym e) lt))
    past false a t e p lt = absurd cc

    read : Passes tree k at → OnPage (suc n) (beyond after (under (form_of tree) at m)) k v → Covers tree (after_page at (take (suc n) (beyond after (under (form_of tree) at m))) (nat_lt (suc n) (length (beyond after (under (form_of tree) at m)))) ask) own k v
    read p (inl r) = ends (inr (inl (has_behind received (take (suc n) (beyond after (under (form_of tree) at m))) k v r)))
    read p (inr (l, a, e, lt)) = past (nat_lt (suc n) (length (beyond after (under (form_of tree) at m)))) a (lt-ltb (suc n) (length (beyond after (under (form_of tree) at m))) l) e p lt

    by : Covers tree (record { current = Some (record { position = at; after = after }); left = rest; received = received }) own k v → Covers tree (after_page at (take (suc n) (beyond after (under (form_of tree) at m))) (nat_lt (suc n) (length (beyond after (under (form_of tree) at m)))) ask) own k v
    by (inr (inl h)) = ends (inr (inl (has_append received (take (suc n) (beyond after (under (form_of tree) at m))) k v h)))
    by (inr (inr h)) = ends (inr (inr h))
    by (inl (inr h)) = ends (inl h)
    by (inl (inl (p, b))) = read p (on_page n (beyond after (under (form_of tree) at m)) k v
        (ascends-part (is_beyond after) (under (form_of tree) at m) (ascends-part (λ key. passes (form_of tree) key at.level at.index) m sorted))
        (has_part (is_beyond after) (under (form_of tree) at m) k v b (has_part (λ key. passes (form_of tree) key at.level at.index) m k v p has)))

has_named : (l : List Entry) (t k : List ℕ) (v : Version) → Has l k v → named l t ≡ Some (md5 t)
has_named [] t k v h = absurd h
has_named (x ∷ l) t k v h = refl

-- where a child is known, the own entries have what the map has there
abbrev pub IsFair : TreeVersion → ℕ → Position → List Position → List (Option (List ℕ)) → List Entry → List Entry → Type 0
IsFair tree h at damaged names own m = (c : ℕ) (d k : List ℕ) (v : Version) → c < (form_of tree).width → is_known damaged (child (form_of tree) at c) (get_or names c None) d ≡ true → d ≡ md5 (text (form_of tree) h (child (form_of tree) at c) (within (form_of tree) at c (under (form_of tree) at m)))
    → Passes tree k (child (form_of tree) at c) → Has (within (form_of tree) at c (under (form_of tree) at m)) k v → Has own k v

pub inner_keeps : (tree : TreeVersion) (h : ℕ) (at : Position) (damaged : List Position) (names : List (Option (List ℕ))) (q : Option (List ℕ)) (rest : List Position) (received own m : List Entry) (k : List ℕ) (v : Version) (ask : Asked)
    → ask ≡ record { current = Some (record { position = at; after = q }); left = rest; received = received } → (form_of tree).digit k at.level < (form_of tree).width → (Passes tree k at → Passes tree k (child (form_of tree) at ((form_of tree).digit k at.level))) → IsFair tree h at damaged names own m → Has m k v
    → Covers tree ask own k v → Covers tree (after_inner tree damaged at names (children (form_of tree) h at (under (form_of tree) at m)) ask) own k v
inner_keeps tree h at damaged names q rest received own m k v ask is wide down fair has covers = by (subst (λ (a : Asked). Covers tree a own k v) is covers)
  where
    left_is : ask.left ≡ rest
    left_is = ap (λ (a : Asked). a.left) is

    received_is : ask.received ≡ received
    received_is = ap (λ (a : Asked). a.received) is

    ends : PassesAny tree k (to_ask tree damaged at names 0 (children (form_of tree) h at (under (form_of tree) at m)) ++ rest) ⊎ (Has received k v ⊎ Has own k v) → (Covers tree (after_inner tree damaged at names (children (form_of tree) h at (under (form_of tree) at m)) ask) own k v)
    ends found = onward_covers tree (to_ask tree damaged at names 0 (children (form_of tree) h at (under (form_of tree) at m)) ++ ask.left) ask.received own k v (subst (λ (ps : List Position). PassesAny tree k (to_ask tree damaged at names 0 (children (form_of tree) h at (under (form_of tree) at m)) ++ ps) ⊎ (Has ask.received k v ⊎ Has own k v)) (sym left_is)
        (subst (λ (es : List Entry). PassesAny tree k (to_ask tree damaged at names 0 (children (form_of tree) h at (under (form_of tree) at m)) ++ rest) ⊎ (Has es k v ⊎ Has own k v)) (sym received_is) found))

    here : Passes tree k at → Has (within (form_of tree) at ((form_of tree).digit k at.level) (under (form_of tree) at m)) k v
    here p = has_part (λ key. (form_of tree).digit key at.level == ((form_of tree).digit k at.level)) (under (form_of tree) at m) k v (itself ((form_of tree).digit k at.level)) (has_part (λ key. passes (form_of tree) key at.level at.index) m k v p has)

    go : Passes tree k at → (t : Bool) → is_known damaged (child (form_of tree) at ((form_of tree).digit k at.level)) (get_or names ((form_of tree).digit k at.level) None) (md5 (text (form_of tree) h (child (form_of tree) at ((form_of tree).digit k at.level)) (within (form_of tree) at ((form_of tree).digit k at.level) (under (form_of tree) at m)))) ≡ t → (Covers tree (after_inner tree damaged at names (children (form_of tree) h at (under (form_of tree) at m)) ask) own k v)
    go p true known = ends (inr (inr (fair ((form_of tree).digit k at.level) (md5 (text (form_of tree) h (child (form_of tree) at ((form_of tree).digit k at.level)) (within (form_of tree) at ((form_of tree).digit k at.level) (under (form_of tree) at m)))) k v wide known refl (down p) (here p))))
    go p false known =
        let zeros : 0 + ((form_of tree).digit k at.level) ≡ ((form_of tree).digit k at.level) = omega arith in
        let is_there : get_or (children (form_of tree) h at (under (form_of tree) at m)) ((form_of tree).digit k at.level) None ≡ Some (md5 (text (form_of tree) h (child (form_of tree) at ((form_of tree).digit k at.level)) (within (form_of tree) at ((form_of tree).digit k at.level) (under (form_of tree) at m)))) =
        child_is (form_of tree) h at (under (form_of tree) at m) ((form_of tree).digit k at.level) wide ∙ has_named (within (form_of tree) at ((form_of tree).digit k at.level) (under (form_of tree) at m)) (text (form_of tree) h (child (form_of tree) at ((form_of tree).digit k at.level)) (within (form_of tree) at ((form_of tree).digit k at.level) (under (form_of tree) at m))) k v (here p) in
        ends (inl (any_append tree (to_ask tree damaged at names 0 (children (form_of tree) h at (under (form_of tree) at m))) rest k (inl (asked_any tree damaged at names (children (form_of tree) h at (under (form_of tree) at m)) 0 ((form_of tree).digit k at.level) (md5 (text (form_of tree) h (child (form_of tree) at ((form_of tree).digit k at.level)) (within (form_of tree) at ((form_of tree).digit k at.level) (under (form_of tree) at m)))) k is_there
        (subst (λ (n : ℕ). is_known damaged (child (form_of tree) at n) (get_or names n None) (md5 (text (form_of tree) h (child (form_of tree) at ((form_of tree).digit k at.level)) (within (form_of tree) at ((form_of tree).digit k at.level) (under (form_of tree) at m)))) ≡ false) (sym zeros) known)
        (subst (λ (n : ℕ). Passes tree k (child (form_of tree) at n)) (sym zeros) (down p))))))

    by : Covers tree (record { current = Some (record { position = at; after = q }); left = rest; received = received }) own k v → (Covers tree (after_inner tree damaged at names (children (form_of tree) h at (under (form_of tree) at m)) ask) own k v)
    by (inr r) = ends (inr r)
    by (inl (inr r)) = ends (inl (any_append tree (to_ask tree damaged at names 0 (children (form_of tree) h at (under (form_of tree) at m))) rest k (inr r)))
    by (inl (inl (p, b))) = go p (is_known damaged (child (form_of tree) at ((form_of tree).digit k at.level)) (get_or names ((form_of tree).digit k at.level) None) (md5 (text (form_of tree) h (child (form_of tree) at ((form_of tree).digit k at.level)) (within (form_of tree) at ((form_of tree).digit k at.level) (under (form_of tree) at m))))) refl
