-- What a peer with some map sends, and what the own node names.
use Rattle.std.proofs.Common.{◌≡◌, ◌⊎◌, ℕ, zero, suc, ◌+◌, ◌-◌, Bool, true, false, List, [], ◌∷◌, Option, None, Some, Result, Ok, Err, refl, ap, sym, ◌∙◌, subst, arith, inl, inr}
use Rattle.std.specs.Prelude.{◌==◌, if◌then◌else◌}
use Rattle.std.proofs.lemmas.Bool.Decides.{nat_tests}
use Rattle.std.proofs.lemmas.Bool.{eq-eqb}
use Rattle.ens_base.specs.declared.entry.Entry.{Entry}
use Rattle.tree_node.specs.declared.body.TreeBody.{TreeBody}
use Rattle.tree_node.specs.declared.body.TreeBody.TheVariants.{Inner, Page}
use Rattle.tree_node.specs.declared.error.NodeError.{NodeError}
use Rattle.tree_node.specs.declared.node.InnerNode.{InnerNode}
use Rattle.tree_node.specs.declared.node.Segment.{Segment}
use Rattle.tree_node.specs.declared.position.Position.{Position}
use Rattle.tree_node.specs.declared.version.TreeVersion.{TreeVersion}
use Rattle.tree_node.specs.TreeVersions.{levels}
use Rattle.tree_node.specs.Nodes.{inner_of, segment_of}
use Rattle.tree_node.specs.Positions.{IsPosition}
use Rattle.synctree.specs.Entries.{IsMap}
use Rattle.synctree.specs.Forms.{IsPlace}
use Rattle.synctree.specs.Maps.{text, children}
use Rattle.synctree.specs.Paths.{under, text_at, present, node_of}
use Rattle.synctree.specs.Sixteen.{form_of, children_of, children_in, entries_in}
use Rattle.synctree.proofs.Below.{under_map}
use Rattle.synctree.proofs.Formats.{form_laws}
use Rattle.synctree.proofs.Unique.{children_again}
use Rattle.synctree.proofs.Places.{inner_is, segment_is, depth_is, place_of}
use Rattle.tree_exchange.specs.declared.question.Question.{Question}
use Rattle.tree_exchange.specs.Asks.{names_in, or_none}
use Rattle.tree_exchange.specs.Gives.{page_of, inner_body, segment_body, given}
use Rattle.tree_exchange.specs.Covers.{give_of}

-- the position is empty, or its node is there
pub present_is : (l : ℕ) (es : List Entry) (t : List ℕ) → ((present l es t ≡ None) × (es ≡ [])) ⊎ (present l es t ≡ Some t)
present_is zero es t = inr refl
present_is (suc l) [] t = inl (refl, refl)
present_is (suc l) (e ∷ es) t = inr refl

-- ## A segment

segment_sent : (at : Position) (after : Option (List ℕ)) (es : List Entry) (r : Result Segment NodeError) → entries_in r ≡ Some es → segment_body at after r ≡ page_of after es
segment_sent at after es (Ok s) e = let is : s.entries ≡ es = cc in ap (page_of after) is
segment_sent at after es (Err d) e = absurd cc

pub give_page : (tree : TreeVersion) (m : List Entry) (q : Question) → IsMap m → IsPosition tree q.position → q.position.level ≡ levels tree → give_of tree m q ≡ page_of q.after (under (form_of tree) q.position m)
give_page tree m q ok p low = by (present_is q.position.level (under (form_of tree) q.position m) (text_at (form_of tree) q.position m))
  where
    test : (q.position.level == levels tree) ≡ true
    test = eq-eqb q.position.level (levels tree) low

    bottom : (form_of tree).depth - q.position.level ≡ 0
    bottom = let d : (form_of tree).depth ≡ levels tree = depth_is tree in omega (arith, low, d)

    text_is : text_at (form_of tree) q.position m ≡ (form_of tree).segment_text q.position (under (form_of tree) q.position m)
    text_is = ap (λ (h : ℕ). text (form_of tree) h q.position (under (form_of tree) q.position m)) bottom

    place : IsPlace (form_of tree) 0 q.position
    place = let z : levels tree - q.position.level ≡ 0 = omega (arith, low) in subst (λ (h : ℕ). IsPlace (form_of tree) h q.position) z (place_of tree q.position p)

    read : entries_in (segment_of tree q.position ((form_of tree).segment_text q.position (under (form_of tree) q.position m))) ≡ Some (under (form_of tree) q.position m)
    read = sym (segment_is tree q.position ((form_of tree).segment_text q.position (under (form_of tree) q.position m))) ∙ (form_laws tree).segment_again 0 q.position (under (form_of tree) q.position m) place (under_map (form_of tree) q.position m ok)

    sent : given tree (Some ((form_of tree).segment_text q.position (under (form_of tree) q.position m))) q ≡ page_of q.after (under (form_of tree) q.position m)
    sent = ap (λ (b : Bool). if b then segment_body q.position q.after (segment_of tree q.position ((form_of tree).segment_text q.position (under (form_of tree) q.position m))) else inner_body q.position (inner_of tree q.position ((form_of tree).segment_text q.position (under (form_of tree) q.position m)))) test ∙ segment_sent q.position q.after (under (form_of tree) q.position m) (segment_of tree q.position ((form_of tree).segment_text q.position (under (form_of tree) q.position m))) read

    empty : given tree None q ≡ page_of q.after []
    empty = ap (λ (b : Bool). if b then Page [] false else Inner 0 []) test

    by : ((present q.position.level (under (form_of tree) q.position m) (text_at (form_of tree) q.position m) ≡ None) × ((under (form_of tree) q.position m) ≡ [])) ⊎ (present q.position.level (under (form_of tree) q.position m) (text_at (form_of tree) q.position m) ≡ Some (text_at (form_of tree) q.position m)) → give_of tree m q ≡ page_of q.after (under (form_of tree) q.position m)
    by (inl (none, is)) = ap (λ (o : Option (List ℕ)). given tree o q) none ∙ empty ∙ ap (page_of q.after) (sym is)
    by (inr some) = ap (λ (o : Option (List ℕ)). given tree o q) (some ∙ ap Some text_is) ∙ sent

-- ## An inner node

-- a mask and digests that name these children
pub record Named (body : TreeBody) (cs : List (Option (List ℕ))) : Type 0 where
  pub mask : ℕ
  pub digests : List (List ℕ)
  pub body_is : body ≡ Inner mask digests
  pub names : children_of mask digests ≡ cs

inner_sent : (at : Position) (cs : List (Option (List ℕ))) (r : Result InnerNode NodeError) → children_in r ≡ Some cs → Named (inner_body at r) cs
inner_sent at cs (Ok n) e = record { mask = n.mask; digests = n.digests; body_is = refl; names = cc }
inner_sent at cs (Err d) e = absurd cc

no_children : (tree : TreeVersion) (h : ℕ) (at : Position) → children_of 0 [] ≡ children (form_of tree) h at []
unfolding children_of form_of
no_children tree h at = refl

-- what the bytes of the node of a map name
pub names_again : (tree : TreeVersion) (h : ℕ) (at : Position) (es : List Entry) → IsPlace (form_of tree) (suc h) at → children_in (inner_of tree at (text (form_of tree) (suc h) at es)) ≡ Some (children (form_of tree) h at es)
names_again tree h at es p = sym (inner_is tree at (text (form_of tree) (suc h) at es)) ∙ children_again (form_of tree) (form_laws tree) h at es p

pub depth_of : (tree : TreeVersion) (h : ℕ) (at : Position) → IsPlace (form_of tree) (suc h) at → (form_of tree).depth - at.level ≡ suc h
depth_of tree h at p = sum at.level (suc h) (form_of tree).depth p.level
  where
    sum : (a b c : ℕ) → a + b ≡ c → c - a ≡ b
    sum a b c e = omega arith

not_last : (tree : TreeVersion) (h : ℕ) (at : Position) → IsPlace (form_of tree) (suc h) at → (at.level == levels tree) ≡ false
not_last tree h at p = let d : (form_of tree).depth ≡ levels tree = depth_is tree in let s = p.level in low at.level h (form_of tree).depth (levels tree) s d
  where
    low : (a b c n : ℕ) → a + suc b ≡ c → c ≡ n → (a == n) ≡ false
    low a b c n e f = grind (arith, nat_tests)

pub give_inner : (tree : TreeVersion) (h : ℕ) (m : List Entry) (q : Question) → IsPlace (form_of tree) (suc h) q.position → Named (give_of tree m q) (children (form_of tree) h q.position (under (form_of tree) q.position m))
give_inner tree h m q p = by (present_is q.position.level (under (form_of tree) q.position m) (text_at (form_of tree) q.position m))
  where
    test : (q.position.level == levels tree) ≡ false
    test = not_last tree h q.position p

    text_is : text_at (form_of tree) q.position m ≡ text (form_of tree) (suc h) q.position (under (form_of tree) q.position m)
    text_is = ap (λ (n : ℕ). text (form_of tree) n q.position (under (form_of tree) q.position m)) (depth_of tree h q.position p)

    sent : given tree (Some (text (form_of tree) (suc h) q.position (under (form_of tree) q.position m))) q ≡ inner_body q.position (inner_of tree q.position (text (form_of tree) (suc h) q.position (under (form_of tree) q.position m)))
    sent = ap (λ (b : Bool). if b then segment_body q.position q.after (segment_of tree q.position (text (form_of tree) (suc h) q.position (under (form_of tree) q.position m))) else inner_body q.position (inner_of tree q.position (text (form_of tree) (suc h) q.position (under (form_of tree) q.position m)))) test

    empty : given tree None q ≡ Inner 0 []
    empty = ap (λ (b : Bool). if b then Page [] false else Inner 0 []) test

    by : ((present q.position.level (under (form_of tree) q.position m) (text_at (form_of tree) q.position m) ≡ None) × ((under (form_of tree) q.position m) ≡ [])) ⊎ (present q.position.level (under (form_of tree) q.position m) (text_at (form_of tree) q.position m) ≡ Some (text_at (form_of tree) q.position m)) → Named (give_of tree m q) (children (form_of tree) h q.position (under (form_of tree) q.position m))
    by (inl (none, is)) = record { mask = 0; digests = []; body_is = ap (λ (o : Option (List ℕ)). given tree o q) none ∙ empty; names = no_children tree h q.position ∙ ap (children (form_of tree) h q.position) (sym is) }
    by (inr some) = subst (λ (b : TreeBody). Named b (children (form_of tree) h q.position (under (form_of tree) q.position m))) (sym (ap (λ (o : Option (List ℕ)). given tree o q) (some ∙ ap Some text_is) ∙ sent))
        (inner_sent q.position (children (form_of tree) h q.position (under (form_of tree) q.position m)) (inner_of tree q.position (text (form_of tree) (suc h) q.position (under (form_of tree) q.position m))) (names_again tree h q.position (under (form_of tree) q.position m) p))

-- ## The own node

-- the own node names nothing, or the children of the own map
pub own_names : (tree : TreeVersion) (h : ℕ) (at : Position) (own : Option (List ℕ)) (n : List Entry) → IsPlace (form_of tree) (suc h) at → (own ≡ None) ⊎ (own ≡ node_of (form_of tree) at n) → (names_in tree at own ≡ []) ⊎ (names_in tree at own ≡ children (form_of tree) h at (under (form_of tree) at n))
own_names tree h at own n p (inl none) = inl (ap (names_in tree at) none)
own_names tree h at own n p (inr is) = by (present_is at.level (under (form_of tree) at n) (text_at (form_of tree) at n))
  where
    text_is : text_at (form_of tree) at n ≡ text (form_of tree) (suc h) at (under (form_of tree) at n)
    text_is = ap (λ (k : ℕ). text (form_of tree) k at (under (form_of tree) at n)) (depth_of tree h at p)

    by : ((present at.level (under (form_of tree) at n) (text_at (form_of tree) at n) ≡ None) × (under (form_of tree) at n ≡ [])) ⊎ (present at.level (under (form_of tree) at n) (text_at (form_of tree) at n) ≡ Some (text_at (form_of tree) at n)) → (names_in tree at own ≡ []) ⊎ (names_in tree at own ≡ children (form_of tree) h at (under (form_of tree) at n))
    by (inl (none, empty)) = inl (ap (names_in tree at) (is ∙ none))
    by (inr some) = inr (ap (names_in tree at) (is ∙ some ∙ ap Some text_is) ∙ ap or_none (names_again tree h at (under (form_of tree) at n) p))
