-- At most one map stands under a digest, unless two different nodes of the two maps have the same
-- digest.
use Rattle.std.proofs.Common.{◌≡◌, ◌≢◌, ◌⊎◌, ℕ, zero, suc, ◌+◌, ◌*◌, ◌<◌, ◌^◌, List, [], ◌∷◌, Option, None, Some, length, get_or, refl, ap, sym, ◌∙◌, arith, inl, inr}
use Rattle.std.specs.Prelude.{◌==◌}
use Rattle.std.proofs.lemmas.Bool.Decides.{nat_tests}
use Rattle.std.proofs.lemmas.Nat.{mul-add-lt}
use native.Mathlib.Nat.{pow-suc, pow-zero}
use Rattle.md5.specs.Md5.{md5}
use Rattle.ens_base.specs.declared.entry.Entry.{Entry}
use Rattle.tree_node.specs.declared.position.Position.{Position}
use Rattle.synctree.specs.Entries.{IsMap, lookup}
use Rattle.synctree.specs.Forms.{Form, root, child, IsPlace, AreNames, Laws}
use Rattle.synctree.specs.Maps.{each_of, within, named, text, children, IsNode, NodesApart, Stands}
use Rattle.synctree.proofs.Parts.{get-each, length-each, find-part, map_part, same_entries}
use Rattle.synctree.proofs.Names.{md5_run}

pub some_once : {A : Type 0} (x : Option A) (a b : A) → x ≡ Some a → x ≡ Some b → a ≡ b
some_once x a b e f = cc

named_same : (l k : List Entry) (t u : List ℕ) → named l t ≡ named k u → ((l ≡ []) × (k ≡ [])) ⊎ ((l ≢ []) × (k ≢ []) × (md5 t ≡ md5 u))
named_same [] [] t u e = inl (refl, refl)
named_same [] (y ∷ k) t u e = absurd cc
named_same (x ∷ l) [] t u e = absurd cc
named_same (x ∷ l) (y ∷ k) t u e = inr (λ i. cc, λ i. cc, cc)

-- a part that is named has entries
pub has_entries : (l : List Entry) (t d : List ℕ) → named l t ≡ Some d → l ≢ []
has_entries [] t d e = absurd cc
has_entries (x ∷ l) t d e = λ i. cc

each_names : (f : ℕ → Option (List ℕ)) → ((j : ℕ) → AreNames (f j ∷ [])) → (n i : ℕ) → AreNames (each_of f n i)
each_names f ok zero i = tt
each_names f ok (suc n) i = by (f i) (ok i) (each_names f ok n (i + 1))
  where
    by : (x : Option (List ℕ)) → AreNames (x ∷ []) → AreNames (each_of f n (i + 1)) → AreNames (x ∷ each_of f n (i + 1))
    by None a r = r
    by (Some d) a r = (a.0, r)

named_name : (l : List Entry) (t : List ℕ) → AreNames (named l t ∷ [])
named_name [] t = tt
named_name (x ∷ l) t = (md5_run t, tt)

pub root_is_node : (F : Form) (h : ℕ) (at : Position) (m : List Entry) → IsNode F h at m (text F h at m)
root_is_node F zero at m = refl
root_is_node F (suc h) at m = inl refl

pub root_place : (F : Form) → IsPlace F F.depth root
root_place F = record { level = omega arith; index = rw (pow-zero F.width) (omega arith) }

pub child_place : (F : Form) (h : ℕ) (at : Position) (c : ℕ) → c < F.width → IsPlace F (suc h) at → IsPlace F h (child F at c)
child_place F h at c l p = record { level = sum at.level h F.depth p.level; index = wide F.width at.index c at.level l p.index }
  where
    sum : (a b d : ℕ) → a + suc b ≡ d → (a + 1) + b ≡ d
    sum a b d e = omega arith

    wide : (w i c l : ℕ) → c < w → i < w ^ l → w * i + c < w ^ (l + 1)
    wide w i c l a b = let next : l + 1 ≡ suc l = omega arith in rw (next, pow-suc w l) (omega (arith, mul-add-lt i w c (w ^ l) b a))

module _ (F : Form) where
  pub children_width : (h : ℕ) (at : Position) (m : List Entry) → length (children F h at m) ≡ F.width
  children_width h at m = length-each (λ c. named (within F at c m) (text F h (child F at c) (within F at c m))) F.width 0

  pub children_names : (h : ℕ) (at : Position) (m : List Entry) → AreNames (children F h at m)
  children_names h at m = each_names (λ c. named (within F at c m) (text F h (child F at c) (within F at c m))) (λ c. named_name (within F at c m) (text F h (child F at c) (within F at c m))) F.width 0

  pub child_is : (h : ℕ) (at : Position) (m : List Entry) (c : ℕ) → c < F.width → get_or (children F h at m) c None ≡ named (within F at c m) (text F h (child F at c) (within F at c m))
  child_is h at m c l = get-each (λ c. named (within F at c m) (text F h (child F at c) (within F at c m))) F.width 0 c None l ∙ ap (λ c. named (within F at c m) (text F h (child F at c) (within F at c m))) (omega arith)

  pub lookup_within : (at : Position) (k : List ℕ) (m : List Entry) → lookup k m ≡ lookup k (within F at (F.digit k at.level) m)
  lookup_within at k m = find-part (λ key. F.digit key at.level == F.digit k at.level) k (grind (arith, nat_tests)) m

module _ (F : Form) (laws : Laws F) where
  pub children_again : (h : ℕ) (at : Position) (m : List Entry) → IsPlace F (suc h) at → F.inner_at at (F.inner_text at (children F h at m)) ≡ Some (children F h at m)
  children_again h at m p = laws.inner_again (suc h) at (children F h at m) p (children_width F h at m) (children_names F h at m)

  pub one_map : (h : ℕ) (at : Position) (m n : List Entry) → IsPlace F h at → IsMap m → IsMap n → md5 (text F h at m) ≡ md5 (text F h at n) → NodesApart F h at m n → m ≡ n
  one_map zero at m n p a b e apart =
      let same : F.segment_text at m ≡ F.segment_text at n = apart (F.segment_text at m) (F.segment_text at n) refl refl e in
      some_once (F.segment_at at (F.segment_text at n)) m n (rw same at (laws.segment_again zero at m p a)) (laws.segment_again zero at n p b)
  one_map (suc h) at m n p a b e apart = same_entries m n a.ascends b.ascends (λ k.
      lookup_within F at k m
      ∙ ap (lookup k) (part (F.digit k at.level) (laws.in_width k at.level) (λ x y z w. one_map h (child F at (F.digit k at.level)) (within F at (F.digit k at.level) m) (within F at (F.digit k at.level) n) (child_place F h at (F.digit k at.level) (laws.in_width k at.level) p) x y z w))
      ∙ sym (lookup_within F at k n))
    where
      same : F.inner_text at (children F h at m) ≡ F.inner_text at (children F h at n)
      same = apart (text F (suc h) at m) (text F (suc h) at n) (inl refl) (inl refl) e

      cs_same : children F h at m ≡ children F h at n
      cs_same = some_once (F.inner_at at (F.inner_text at (children F h at n))) (children F h at m) (children F h at n) (rw same at (children_again h at m p)) (children_again h at n p)

      part : (c : ℕ) → c < F.width
          → (IsMap (within F at c m) → IsMap (within F at c n) → md5 (text F h (child F at c) (within F at c m)) ≡ md5 (text F h (child F at c) (within F at c n)) → NodesApart F h (child F at c) (within F at c m) (within F at c n) → within F at c m ≡ within F at c n)
          → within F at c m ≡ within F at c n
      part c l below = by (named_same (within F at c m) (within F at c n) (text F h (child F at c) (within F at c m)) (text F h (child F at c) (within F at c n))
          (sym (child_is F h at m c l) ∙ ap (λ cs. get_or cs c None) cs_same ∙ child_is F h at n c l))
        where
          by : ((within F at c m ≡ []) × (within F at c n ≡ [])) ⊎ ((within F at c m ≢ []) × (within F at c n ≢ []) × (md5 (text F h (child F at c) (within F at c m)) ≡ md5 (text F h (child F at c) (within F at c n)))) → within F at c m ≡ within F at c n
          by (inl (q, r)) = q ∙ sym r
          by (inr (q, r, d)) = below (map_part (λ key. F.digit key at.level == c) m a) (map_part (λ key. F.digit key at.level == c) n b) d (λ s t x y z. apart s t (inr (c, l, q, x)) (inr (c, l, r, y)) z)

  pub one_stands : (d : List ℕ) (m n : List Entry) → Stands F d m → Stands F d n → NodesApart F F.depth root m n → m ≡ n
  one_stands d m n a b apart = one_map F.depth root m n (root_place F) a.is_map b.is_map (sym a.root_is ∙ b.root_is) apart
