-- Taking what a peer with some map sends keeps covered what that map has.
use Rattle.std.proofs.Common.{◌≡◌, ◌≢◌, ◌⊎◌, ℕ, zero, suc, ◌+◌, ◌-◌, ◌*◌, ◌/◌, ◌%◌, ◌<◌, ◌≤◌, Bool, true, false, List, [], ◌∷◌, Option, None, Some, length, get_or, take, refl, ap, sym, ◌∙◌, subst, arith, inl, inr}
use Rattle.ens_base.proofs.Lists.{bytes_same}
use Rattle.std.specs.Prelude.{nat_lt, ◌==◌, ◌&&◌, not, if◌then◌else◌}
use Rattle.std.proofs.lemmas.Bool.{and_parts, eqb-true, eq-eqb}
use Rattle.std.proofs.lemmas.Bool.Decides.{nat_tests}
use Rattle.std.proofs.Math.Nat.{mod-eq_of_lt, div-eq_of_lt, mul-add-div, mul-add-mod_self_left}
use Rattle.md5.specs.Md5.{md5}
use Rattle.ens_base.specs.declared.entry.Entry.{Entry}
use Rattle.ens_base.specs.declared.epoch.Version.{Version}
use Rattle.ens_base.specs.Lists.{same_bytes}
use Rattle.tree_node.specs.declared.body.Scan.{Scan}
use Rattle.tree_node.specs.declared.body.TreeBody.{TreeBody}
use Rattle.tree_node.specs.declared.position.Position.{Position}
use Rattle.tree_node.specs.declared.version.TreeVersion.{TreeVersion}
use Rattle.tree_node.specs.TreeVersions.{levels}
use Rattle.tree_node.specs.Positions.{IsPosition, same_position}
use Rattle.synctree.specs.Entries.{IsMap}
use Rattle.synctree.specs.Forms.{IsPlace, root, child}
use Rattle.synctree.specs.Maps.{within, named, text, children, IsNode}
use Rattle.synctree.specs.Paths.{passes, under}
use Rattle.synctree.specs.Sixteen.{form_of, children_of}
use Rattle.synctree.proofs.Below.{there_if_some, under_map, node_below, some_width}
use Rattle.synctree.proofs.Formats.{form_laws, place_position}
use Rattle.synctree.proofs.Parts.{map_part}
use Rattle.synctree.proofs.Unique.{has_entries, one_map, child_is, child_place}
use Rattle.synctree.proofs.Places.{place_of}
use Rattle.tree_exchange.specs.Asked.{Asked}
use Rattle.tree_exchange.specs.declared.question.Question.{Question}
use Rattle.tree_exchange.specs.declared.step.Step.TheVariants as steps
use Rattle.tree_exchange.specs.Asks.{same_after, same_question, is_open, meets, is_known, names_in, is_empty, after_inner, after_page, stepped, reply, taken}
use Rattle.tree_exchange.specs.Gives.{beyond}
use Rattle.tree_exchange.specs.Covers.{Has, Passes, IsLeft, Covers, give_of, IsOwn, AreApart}
use Rattle.tree_exchange.proofs.Having.{has_in, in_has, from_filter}
use Rattle.tree_exchange.proofs.Covering.{page_keeps, IsFair, inner_keeps}
use Rattle.tree_exchange.proofs.Lying.{passes_none}
use Rattle.tree_exchange.proofs.Gifts.{give_page, give_inner, own_names}

-- ## The open question

after_is : (a b : Option (List ℕ)) → same_after a b ≡ true → a ≡ b
after_is None None e = refl
after_is None (Some b) e = absurd cc
after_is (Some a) None e = absurd cc
after_is (Some a) (Some b) e = ap Some (bytes_same a b e)

question_is : (a b : Question) → same_question a b ≡ true → a ≡ b
question_is a b e =
    let both = and_parts (same_position a.position b.position) (same_after a.after b.after) e in
    let place = and_parts (a.position.level == b.position.level) (a.position.index == b.position.index) both.0 in
    let level = eqb-true a.position.level b.position.level place.0 in
    let index = eqb-true a.position.index b.position.index place.1 in
    let after = after_is a.after b.after both.1 in
    λ i. record { position = record { level = level i; index = index i }; after = after i }

open_is : (o : Option Question) (q : Question) → is_open o q ≡ true → o ≡ Some q
open_is None q e = absurd cc
open_is (Some a) q e = ap Some (question_is a q e)

-- ## Children that are known

known_parts : (damaged : List Position) (at : Position) (own : Option (List ℕ)) (d : List ℕ) → is_known damaged at own d ≡ true → (own ≡ Some d) × (meets damaged at ≡ false)
known_parts damaged at None d e = absurd cc
known_parts damaged at (Some o) d e = let both = and_parts (same_bytes o d) (not (meets damaged at)) e in (ap Some (bytes_same o d both.0), turned (meets damaged at) both.1)
  where
    turned : (b : Bool) → not b ≡ true → b ≡ false
    turned true z = absurd cc
    turned false z = refl

named_some : (l : List Entry) (t d : List ℕ) → named l t ≡ Some d → d ≡ md5 t
named_some [] t d e = absurd cc
named_some (x ∷ l) t d e = cc

passes_child : (tree : TreeVersion) (key : List ℕ) (at : Position) → (form_of tree).digit key at.level < (form_of tree).width → Passes tree key at → Passes tree key (child (form_of tree) at ((form_of tree).digit key at.level))
passes_child tree key at wide p =
    let c = (form_of tree).digit key at.level in
    let next : at.level + 1 ≡ suc at.level = omega arith in
    let zeros : at.index + 0 ≡ at.index = omega arith in
    let quotient : ((form_of tree).width * at.index + c) / (form_of tree).width ≡ at.index = mul-add-div (some_width (form_of tree) (form_laws tree)) at.index c ∙ ap (λ (n : ℕ). at.index + n) (div-eq_of_lt wide) ∙ zeros in
    let remainder : ((form_of tree).width * at.index + c) % (form_of tree).width ≡ c = mul-add-mod_self_left (form_of tree).width at.index c ∙ mod-eq_of_lt wide in
    ap (λ (n : ℕ). passes (form_of tree) key n ((form_of tree).width * at.index + c)) next
    ∙ ap (λ (q : ℕ). passes (form_of tree) key at.level q && (form_of tree).digit key at.level == ((form_of tree).width * at.index + c) % (form_of tree).width) quotient
    ∙ ap (λ (r : ℕ). passes (form_of tree) key at.level at.index && (form_of tree).digit key at.level == r) remainder
    ∙ both (passes (form_of tree) key at.level at.index) ((form_of tree).digit key at.level) p
  where
    both : (b : Bool) (d : ℕ) → b ≡ true → (b && d == d) ≡ true
    both b d e = grind (arith, nat_tests, e)

-- a node below a child that has entries is a node of the map
child_below : (tree : TreeVersion) (h : ℕ) (at : Position) (m : List Entry) (c : ℕ) (s : List ℕ) → IsPlace (form_of tree) (suc h) at → c < (form_of tree).width → within (form_of tree) at c (under (form_of tree) at m) ≢ [] → IsNode (form_of tree) h (child (form_of tree) at c) (within (form_of tree) at c (under (form_of tree) at m)) s
    → IsNode (form_of tree) (form_of tree).depth root m s
child_below tree h at m c s p wide some n = node_below (form_of tree) (form_laws tree) (suc h) at.level at.index m s p (there_if_some at.level (under (form_of tree) at m) (λ none. some (ap (within (form_of tree) at c) none))) (inr (c, wide, some, n))

known_has : (tree : TreeVersion) (h : ℕ) (at : Position) (own : Option (List ℕ)) (scan : Scan) (m n : List Entry) → IsPlace (form_of tree) (suc h) at → IsMap m → IsOwn tree own scan at n → AreApart tree m n → IsFair tree h at scan.damaged (names_in tree at own) scan.entries m
known_has tree h at own scan m n p ok is apart c d k v wide known names passing has = by (own_names tree h at own n p is.node)
  where
    place : IsPlace (form_of tree) h (child (form_of tree) at c)
    place = child_place (form_of tree) h at c wide p

    found : meets scan.damaged (child (form_of tree) at c) ≡ false → Has (within (form_of tree) at c (under (form_of tree) at n)) k v → Has scan.entries k v
    found free r =
        let e = has_in (within (form_of tree) at c (under (form_of tree) at n)) k v r in
        let one = from_filter (λ x. (form_of tree).digit x.key at.level == c) e.entry (under (form_of tree) at n) e.inside in
        let two = from_filter (λ x. passes (form_of tree) x.key at.level at.index) e.entry n one.0 in
        let through : Passes tree e.entry.key (child (form_of tree) at c) = subst (λ (key : List ℕ). Passes tree key (child (form_of tree) at c)) (sym e.key_is) passing in
        in_has e.entry scan.entries k v (is.scanned e.entry two.0 (λ any. passes_none tree e.entry.key (child (form_of tree) at c) scan.damaged (place_position tree h (child (form_of tree) at c) place) is.positions free through any)) e.key_is e.least

    same : within (form_of tree) at c (under (form_of tree) at n) ≢ [] → d ≡ md5 (text (form_of tree) h (child (form_of tree) at c) (within (form_of tree) at c (under (form_of tree) at n))) → (within (form_of tree) at c (under (form_of tree) at m)) ≡ (within (form_of tree) at c (under (form_of tree) at n))
    same some e = one_map (form_of tree) (form_laws tree) h (child (form_of tree) at c) (within (form_of tree) at c (under (form_of tree) at m)) (within (form_of tree) at c (under (form_of tree) at n)) place
        (map_part (λ key. (form_of tree).digit key at.level == c) (under (form_of tree) at m) (under_map (form_of tree) at m ok)) (map_part (λ key. (form_of tree).digit key at.level == c) (under (form_of tree) at n) (under_map (form_of tree) at n is.is_map))
        (sym names ∙ e)
        (λ s t x y z. apart s t (child_below tree h at m c s p wide (λ none. subst (λ (es : List Entry). Has es k v) none has) x) (child_below tree h at n c t p wide some y) z)

    at_names : (names : List (Option (List ℕ))) → names_in tree at own ≡ names → is_known scan.damaged (child (form_of tree) at c) (get_or names c None) d ≡ true
    at_names names e = subst (λ (cs : List (Option (List ℕ))). is_known scan.damaged (child (form_of tree) at c) (get_or cs c None) d ≡ true) e known

    by : (names_in tree at own ≡ []) ⊎ (names_in tree at own ≡ children (form_of tree) h at (under (form_of tree) at n)) → Has scan.entries k v
    by (inl none) = let bad = known_parts scan.damaged (child (form_of tree) at c) (get_or [] c None) d (at_names [] none) in absurd (no bad.0)
      where
        no : None ≡ Some d → ⊥
        no e = absurd cc
    by (inr cs) =
        let parts = known_parts scan.damaged (child (form_of tree) at c) (get_or (children (form_of tree) h at (under (form_of tree) at n)) c None) d (at_names (children (form_of tree) h at (under (form_of tree) at n)) cs) in
        let name : named (within (form_of tree) at c (under (form_of tree) at n)) (text (form_of tree) h (child (form_of tree) at c) (within (form_of tree) at c (under (form_of tree) at n))) ≡ Some d = sym (child_is (form_of tree) h at (under (form_of tree) at n) c wide) ∙ parts.0 in
        let some : within (form_of tree) at c (under (form_of tree) at n) ≢ [] = has_entries (within (form_of tree) at c (under (form_of tree) at n)) (text (form_of tree) h (child (form_of tree) at c) (within (form_of tree) at c (under (form_of tree) at n))) d name in
        let digest : d ≡ md5 (text (form_of tree) h (child (form_of tree) at c) (within (form_of tree) at c (under (form_of tree) at n))) = named_some (within (form_of tree) at c (under (form_of tree) at n)) (text (form_of tree) h (child (form_of tree) at c) (within (form_of tree) at c (under (form_of tree) at n))) d name in
        found parts.1 (subst (λ (es : List Entry). Has es k v) (same some digest) has)

-- ## The whole

not_last : (l n : ℕ) → l < n → (l == n) ≡ false
not_last l n e = grind (arith, nat_tests)

last_or_above : (l n : ℕ) → l ≤ n → (l ≡ n) ⊎ (l < n)
last_or_above zero zero b = inl refl
last_or_above zero (suc n) b = inr (omega arith)
last_or_above (suc l) zero b = absurd (omega arith)
last_or_above (suc l) (suc n) b = more (last_or_above l n (omega arith))
  where
    more : (l ≡ n) ⊎ (l < n) → (suc l ≡ suc n) ⊎ (suc l < suc n)
    more (inl e) = inl (ap suc e)
    more (inr e) = inr (omega (arith, e))

whole_page : (n : ℕ) (xs : List Entry) → (is_empty (take (suc n) xs) && nat_lt (suc n) (length xs)) ≡ false
whole_page n [] = none (suc n)
  where
    none : (m : ℕ) → nat_lt m 0 ≡ false
    none m = grind (arith, nat_tests)
whole_page n (x ∷ xs) = refl

pub take_keeps : (tree : TreeVersion) (scan : Scan) (own : Option (List ℕ)) (q : Question) (body : TreeBody) (ask : Asked) (m n : List Entry) (k : List ℕ) (v : Version) → IsPosition tree q.position → IsMap m → Has m k v → body ≡ give_of tree m q → IsOwn tree own scan q.position n → AreApart tree m n
    → Covers tree ask scan.entries k v → Covers tree (taken tree scan own q body ask).1 scan.entries k v
take_keeps tree scan own q body ask m n k v p ok has sent is apart covers = by (is_open ask.current q) refl
  where
    stands : is_open ask.current q ≡ true → ask ≡ record { current = Some (record { position = q.position; after = q.after }); left = ask.left; received = ask.received }
    stands e = let o = open_is ask.current q e in λ i. record { current = o i; left = ask.left; received = ask.received }

    last : is_open ask.current q ≡ true → q.position.level ≡ levels tree → Covers tree (reply tree scan.damaged (names_in tree q.position own) q.position body ask).1 scan.entries k v
    last e low =
        let test : (q.position.level == levels tree) ≡ true = eq-eqb q.position.level (levels tree) low in
        let takes : (q.position.level == levels tree && not (is_empty (take 32 (beyond q.after (under (form_of tree) q.position m))) && nat_lt 32 (length (beyond q.after (under (form_of tree) q.position m))))) ≡ true = λ i. test i && not (whole_page 31 (beyond q.after (under (form_of tree) q.position m)) i) in
        subst (λ (b : TreeBody). Covers tree (reply tree scan.damaged (names_in tree q.position own) q.position b ask).1 scan.entries k v) (sym (sent ∙ give_page tree m q ok p low))
        (subst (λ (b : Bool). Covers tree (if b then stepped (after_page q.position (take 32 (beyond q.after (under (form_of tree) q.position m))) (nat_lt 32 (length (beyond q.after (under (form_of tree) q.position m)))) ask) else (steps.Dropped, ask)).1 scan.entries k v) (sym takes)
        (page_keeps tree 31 q.position ask.left q.after ask.received scan.entries m k v ask (stands e) ok.ascends has covers))

    above : is_open ask.current q ≡ true → (h : ℕ) → q.position.level < levels tree → IsPlace (form_of tree) (suc h) q.position → Covers tree (reply tree scan.damaged (names_in tree q.position own) q.position body ask).1 scan.entries k v
    above e h high place =
        let g = give_inner tree h m q place in
        let test : (q.position.level == levels tree) ≡ false = not_last q.position.level (levels tree) high in
        let wide : (form_of tree).digit k q.position.level < (form_of tree).width = (form_laws tree).in_width k q.position.level in
        subst (λ (b : TreeBody). Covers tree (reply tree scan.damaged (names_in tree q.position own) q.position b ask).1 scan.entries k v) (sym (sent ∙ g.body_is))
        (subst (λ (b : Bool). Covers tree (if b then (steps.Dropped, ask) else stepped (after_inner tree scan.damaged q.position (names_in tree q.position own) (children_of g.mask g.digests) ask)).1 scan.entries k v) (sym test)
        (subst (λ (cs : List (Option (List ℕ))). Covers tree (after_inner tree scan.damaged q.position (names_in tree q.position own) cs ask) scan.entries k v) (sym g.names)
        (inner_keeps tree h q.position scan.damaged (names_in tree q.position own) q.after ask.left ask.received scan.entries m k v ask (stands e) wide (passes_child tree k q.position wide) (known_has tree h q.position own scan m n place ok is apart) has covers)))

    opened : is_open ask.current q ≡ true → (q.position.level ≡ levels tree) ⊎ (q.position.level < levels tree) → Covers tree (reply tree scan.damaged (names_in tree q.position own) q.position body ask).1 scan.entries k v
    opened e (inl low) = last e low
    opened e (inr high) = let step : levels tree - q.position.level ≡ suc (levels tree - 1 - q.position.level) = omega (arith, high) in above e (levels tree - 1 - q.position.level) high (subst (λ (h : ℕ). IsPlace (form_of tree) h q.position) step (place_of tree q.position p))

    by : (t : Bool) → is_open ask.current q ≡ t → Covers tree (if t then reply tree scan.damaged (names_in tree q.position own) q.position body ask else (steps.Ignored, ask)).1 scan.entries k v
    by true e = opened e (last_or_above q.position.level (levels tree) p.level)
    by false e = covers

pub done_has : (tree : TreeVersion) (ask : Asked) (own : List Entry) (k : List ℕ) (v : Version) → ask.current ≡ None → Covers tree ask own k v → Has ask.received k v ⊎ Has own k v
done_has tree ask own k v done (inr h) = h
done_has tree ask own k v done (inl left) = absurd (nothing ask.current done left)
  where
    nothing : (o : Option Question) → o ≡ None → IsLeft tree o ask.left k → ⊥
    nothing None e h = absurd h
    nothing (Some q) e h = absurd cc
