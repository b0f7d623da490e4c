-- The children of an inner node, and those that are asked for.
use Rattle.std.proofs.Common.{◌≡◌, ℕ, zero, suc, ◌+◌, ◌-◌, ◌<◌, ◌≤◌, Bool, true, false, cond, List, [], ◌∷◌, ◌++◌, Option, None, Some, Ok, length, get_or, drop, refl, ap, sym, ◌∙◌, arith, append_assoc, append-nil}
use Rattle.std.specs.List.{AllByRecursion}
use Rattle.tree_node.specs.declared.position.Position.{Position}
use Rattle.tree_node.specs.declared.version.TreeVersion.{TreeVersion}
use Rattle.tree_node.specs.declared.version.TreeVersion.TheVariants.{One}
use Rattle.tree_node.specs.TreeVersions.{levels}
use Rattle.tree_node.specs.Positions.{IsPosition}
use Rattle.synctree.proofs.Slices.{drop_all}
use Rattle.synctree.proofs.Formats.{place_position}
use Rattle.synctree.specs.Forms.{root, child}
use Rattle.synctree.specs.Sixteen.{form_of, children_of}
use Rattle.synctree.proofs.Places.{place_of, place_below}
use Rattle.synctree.proofs.Puts.{read_width}
use Rattle.tree_exchange.specs.Asks.{is_known, if_unknown, to_ask}

pub children_width : (mask : ℕ) (ds : List (List ℕ)) (names : List (Option (List ℕ))) → names ≡ children_of mask ds → length names ≤ 16
children_width mask ds names e = let w : length names ≡ 16 = read_width (Ok (record { version = One; position = root; mask = mask; digests = ds })) names (ap Some (sym e)) in omega (arith, w)

drop_at : (xs : List (Option (List ℕ))) (i : ℕ) (x : Option (List ℕ)) → i < length xs → x ≡ get_or xs i x → drop i xs ≡ x ∷ drop (suc i) xs
drop_at [] i x l e = absurd (omega arith)
drop_at (y ∷ xs) zero x l e = ap (λ z. z ∷ xs) (sym e)
drop_at (y ∷ xs) (suc i) x l e = drop_at xs i x (omega arith) e

-- one more child
pub ask_next : (tree : TreeVersion) (damaged : List Position) (at : Position) (own names : List (Option (List ℕ))) (i : ℕ) (x : Option (List ℕ)) (all old now : List Position) → i < length names → x ≡ get_or names i x
    → all ≡ old ++ to_ask tree damaged at own i (drop i names) → now ≡ old ++ if_unknown damaged (child (form_of tree) at i) (get_or own i None) x
    → all ≡ now ++ to_ask tree damaged at own (i + 1) (drop (i + 1) names)
ask_next tree damaged at own names i x all old now l is e step =
    let next : i + 1 ≡ suc i = omega arith in
    e ∙ ap (λ (cs : List (Option (List ℕ))). old ++ to_ask tree damaged at own i cs) (drop_at names i x l is ∙ ap (λ (n : ℕ). x ∷ drop n names) (sym next))
    ∙ sym (append_assoc old (if_unknown damaged (child (form_of tree) at i) (get_or own i None) x) (to_ask tree damaged at own (i + 1) (drop (i + 1) names)))
    ∙ ap (λ (ps : List Position). ps ++ to_ask tree damaged at own (i + 1) (drop (i + 1) names)) (sym step)

pub all_append : (tree : TreeVersion) (a b : List Position) → AllByRecursion (IsPosition tree) a → AllByRecursion (IsPosition tree) b → AllByRecursion (IsPosition tree) (a ++ b)
all_append tree [] b p q = q
all_append tree (x ∷ a) b p q = (p.0, all_append tree a b p.1 q)

child_position : (tree : TreeVersion) (at : Position) (i : ℕ) → IsPosition tree at → at.level < levels tree → i < 16 → IsPosition tree (child (form_of tree) at i)
child_position tree at i p l c = place_position tree ((levels tree - at.level) - 1) (child (form_of tree) at i) (place_below tree (levels tree - at.level) at (child (form_of tree) at i) i (place_of tree at p) (omega (arith, l)) refl c)

one_places : (tree : TreeVersion) (damaged : List Position) (at : Position) (own name : Option (List ℕ)) → IsPosition tree at → AllByRecursion (IsPosition tree) (if_unknown damaged at own name)
one_places tree damaged at own None p = tt
one_places tree damaged at own (Some d) p = by (is_known damaged at own d)
  where
    by : (b : Bool) → AllByRecursion (IsPosition tree) (cond b [] (at ∷ []))
    by true = tt
    by false = (p, tt)

-- the children to ask for are positions of the tree
pub asked_places : (tree : TreeVersion) (damaged : List Position) (at : Position) (own cs : List (Option (List ℕ))) (i : ℕ) → IsPosition tree at → at.level < levels tree → i + length cs ≤ 16 → AllByRecursion (IsPosition tree) (to_ask tree damaged at own i cs)
asked_places tree damaged at own [] i p l few = tt
asked_places tree damaged at own (c ∷ cs) i p l few = all_append tree (if_unknown damaged (child (form_of tree) at i) (get_or own i None) c) (to_ask tree damaged at own (i + 1) cs)
    (one_places tree damaged (child (form_of tree) at i) (get_or own i None) c (child_position tree at i p l (omega (arith, few)))) (asked_places tree damaged at own cs (i + 1) p l (omega (arith, few)))

pub ask_end : (tree : TreeVersion) (damaged : List Position) (at : Position) (own names : List (Option (List ℕ))) (i : ℕ) (all old : List Position) → length names ≤ i → all ≡ old ++ to_ask tree damaged at own i (drop i names) → old ≡ all
ask_end tree damaged at own names i all old l e = sym (e ∙ ap (λ (cs : List (Option (List ℕ))). old ++ to_ask tree damaged at own i cs) (drop_all names i l) ∙ append-nil old)
