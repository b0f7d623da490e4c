-- The version that a root tells, for every map that stands under its digest.
use Rattle.std.proofs.Common.{◌≡◌, ℕ, zero, suc, ◌<◌, true, false, List, Option, Some, Result, Ok, Err, IfOk, refl, ap, sym, ◌∙◌, subst, arith, inl}
use Rattle.std.specs.Option.{is_some}
use Rattle.ens_base.specs.Lists.{◌∈◌}
use Rattle.ens_base.specs.declared.entry.Entry.{Entry}
use Rattle.synctree.specs.Fields.{byte_at}
use Rattle.synctree.proofs.Fields.{byte_grammar}
use Rattle.synctree.specs.TreeNode.{BadTag, InnerNode, Position, TreeVersion, One, Two, levels, inner_spelling, inner_at, inner_of}
use Rattle.synctree.specs.Forms.{IsPlace, root}
use Rattle.synctree.specs.Maps.{text, children, AreApart, Stands}
use Rattle.synctree.specs.Sixteen.{form_of, inner_node, children_in}
use Rattle.synctree.proofs.Formats.{form_laws}
use Rattle.synctree.proofs.Unique.{children_again, root_place, root_is_node, some_once}
use Rattle.synctree.specs.declared.error.TreeError.{TreeError}
use Rattle.synctree.specs.Plans.{Call, AnswerOf, Ends, Did}
use Rattle.synctree.specs.Shapes.{is_root, version_in, shape_under, shape_plan, Tells}
use Rattle.synctree.proofs.Meaning.{opened}
use Rattle.synctree.proofs.Places.{depth_is, inner_is}
use Rattle.synctree.proofs.Puts.{inner_text_is}

-- a node of version two is none of version one
other_tag : (n : InnerNode) (asked : Position) → n.version ≡ Two → inner_of One asked (inner_spelling n) ≡ Err BadTag
unfolding inner_at
other_tag n asked is =
    let tag : byte_at (inner_spelling n) 0 ≡ Ok (3, 1) = subst (λ (v : TreeVersion). byte_at (inner_spelling (record n { version = v })) 0 ≡ Ok (3, 1)) (sym is) (byte_grammar.again (inner_spelling (record n { version = Two })) 0 3 _ (omega arith) refl) in
    rw tag refl

-- the text of a root is read again
root_read : (v : TreeVersion) (m : List Entry) → is_root v (text (form_of v) (form_of v).depth root m) ≡ true
root_read v m = by (levels v) (depth_is v) (some v)
  where
    some : (w : TreeVersion) → 0 < levels w
    some One = omega arith
    some Two = omega arith

    by : (h : ℕ) → (form_of v).depth ≡ h → 0 < h → is_root v (text (form_of v) (form_of v).depth root m) ≡ true
    by zero e l = absurd (omega arith)
    by (suc h) e l =
        let place = subst (λ (n : ℕ). IsPlace (form_of v) n root) e (root_place (form_of v)) in
        rw e (ap is_some (sym (inner_is v root (text (form_of v) (suc h) root m)) ∙ children_again (form_of v) (form_laws v) h root m place))

-- the text of a root of version two is none of version one
root_other : (m : List Entry) → is_root One (text (form_of Two) (form_of Two).depth root m) ≡ false
root_other m =
    let deep : (form_of Two).depth ≡ 5 = depth_is Two in
    rw deep (ap (λ (bytes : List ℕ). is_root One bytes) (inner_text_is Two root (children (form_of Two) 4 root m)) ∙ ap (λ r. is_some (children_in r)) (other_tag (inner_node Two root (children (form_of Two) 4 root m)) root refl))

version_again : (v : TreeVersion) (m : List Entry) → version_in (text (form_of v) (form_of v).depth root m) ≡ Some v
version_again One m = rw (root_read One m) refl
version_again Two m = rw (root_other m, root_read Two m) refl

module _ {S : Type 0} (does : S → (call : Call) → AnswerOf call → S → Type 0) where
  told : (v : TreeVersion) (digest : List ℕ) (m : List Entry) (s t : S) (xs : List (List ℕ)) (version : TreeVersion) → Stands (form_of v) digest m → AreApart xs (form_of v) (form_of v).depth root m → Ends does (shape_under digest) s xs (Ok version) t → version ≡ v
  told v digest m s t xs version stands apart ends =
      let o = opened does version_in root digest s t xs version ends in
      let same : o.bytes ≡ text (form_of v) (form_of v).depth root m = apart o.bytes (text (form_of v) (form_of v).depth root m) (subst (λ zs. o.bytes ∈ zs) (sym o.hashes) (inl refl)) (root_is_node (form_of v) (form_of v).depth root m) (o.has_digest ∙ stands.root_is) in
      some_once (version_in (text (form_of v) (form_of v).depth root m)) version v (ap version_in (sym same) ∙ o.is_node) (version_again v m)

  pub tells_of : (refuses : S → Call → TreeError → S → Type 0) (top : Option (List ℕ)) (s t : S) (r : Result TreeVersion TreeError) → Did does refuses (shape_plan top) s r t → IfOk r (λ version. Tells does top s version t)
  tells_of refuses top s t (Ok version) (xs, ends) = record { strings = xs; ends = ends; tells = λ v digest m is stands apart. told v digest m s t xs version stands apart (subst (λ (q : Option (List ℕ)). Ends does (shape_plan q) s xs (Ok version) t) is ends) }
  tells_of refuses top s t (Err e) d = tt
