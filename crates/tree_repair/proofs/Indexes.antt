-- The node of a level that the path of a key goes through, and the entries below a node.
use Rattle.std.proofs.Common.{◌≡◌, ℕ, zero, suc, ◌+◌, ◌*◌, ◌/◌, ◌%◌, ◌<◌, ◌≤◌, ◌^◌, Bool, true, false, cond, List, [], ◌∷◌, refl, ap, sym, ◌∙◌, subst, arith}
use Rattle.std.specs.Prelude.{◌==◌, ◌&&◌, filter}
use Rattle.std.proofs.Math.Nat.{div-lt_iff_lt-mul, div-add-mod, mod-eq_of_lt, div-eq_of_lt, mul-add-div, mul-add-mod_self_left}
use Rattle.std.proofs.lemmas.Nat.{mul-add-lt}
use Rattle.std.proofs.lemmas.Bool.Decides.{nat_tests}
use Rattle.std.proofs.lemmas.Bool.{ne_eqb, eq-eqb}
use native.Mathlib.Nat.{pow-suc, pow-zero}
use Rattle.ens_base.specs.declared.entry.Entry.{Entry}
use Rattle.md5.specs.Md5.{md5}
use Rattle.tree_node.specs.declared.position.Position.{Position}
use Rattle.tree_node.specs.declared.version.TreeVersion.{TreeVersion}
use Rattle.tree_node.specs.declared.version.TreeVersion.TheVariants.{Two}
use Rattle.tree_node.specs.TreeVersions.{levels}
use Rattle.tree_node.specs.Positions.{IsPosition}
use Rattle.tree_node.proofs.TreeVersionLaws.{levels_few, position_deepest}
use Rattle.synctree.specs.Forms.{Form, Laws, child}
use Rattle.synctree.specs.Sixteen.{form_of, nibble}
use Rattle.synctree.proofs.Formats.{form_laws}
use Rattle.synctree.proofs.Below.{some_width}
use Rattle.synctree.proofs.Places.{width_is, depth_is, digit_is}
use Rattle.synctree.specs.Paths.{passes, under}
use Rattle.tree_repair.specs.Builds.{place}
use Rattle.tree_repair.specs.RepairLevels.{index_of}

pub filter_agree : (p q : Entry → Bool) → ((e : Entry) → p e ≡ q e) → (m : List Entry) → filter p m ≡ filter q m
filter_agree p q h [] = refl
filter_agree p q h (x ∷ m) = ap (λ (b : Bool). cond b (x ∷ filter p m) (filter p m)) (h x) ∙ ap (λ (ys : List Entry). cond (q x) (x ∷ ys) ys) (filter_agree p q h m)

pub quotient : (w i c : ℕ) → c < w → (w * i + c) / w ≡ i
quotient w i c l = let some : 0 < w = omega arith in let zeros : i + 0 ≡ i = omega arith in mul-add-div some i c ∙ ap (λ (n : ℕ). i + n) (div-eq_of_lt l) ∙ zeros

pub remainder : (w i c : ℕ) → c < w → (w * i + c) % w ≡ c
remainder w i c l = mul-add-mod_self_left w i c ∙ mod-eq_of_lt l

-- a number is a quotient and a remainder
digits_test : (w a d i : ℕ) → d < w → ((a == i / w) && (d == i % w)) ≡ (w * a + d == i)
digits_test w a d i l = by (a == i / w) (d == i % w) refl refl
  where
    by : (p q : Bool) → (a == i / w) ≡ p → (d == i % w) ≡ q → (p && q) ≡ (w * a + d == i)
    by true true e f =
        let first : a ≡ i / w = grind (arith, nat_tests) in
        let last : d ≡ i % w = grind (arith, nat_tests) in
        sym (eq-eqb (w * a + d) i ((λ j. w * first j + last j) ∙ div-add-mod i w))
    by true false e f = sym (ne_eqb (w * a + d) i (λ s. let is : d ≡ i % w = sym (remainder w a d l) ∙ ap (λ (n : ℕ). n % w) s in let bad : true ≡ false = sym (eq-eqb d (i % w) is) ∙ f in absurd cc))
    by false q e f = sym (ne_eqb (w * a + d) i (λ s. let is : a ≡ i / w = sym (quotient w a d l) ∙ ap (λ (n : ℕ). n / w) s in let bad : true ≡ false = sym (eq-eqb a (i / w) is) ∙ e in absurd cc))

module _ (F : Form) (laws : Laws F) where
  pub index_below : (l : ℕ) (key : List ℕ) → index_of F l key < F.width ^ l
  index_below zero key = let one : F.width ^ 0 ≡ 1 = pow-zero F.width in omega arith
  index_below (suc l) key = omega (arith, mul-add-lt (index_of F l key) F.width (F.digit key l) (F.width ^ l) (index_below l key) (laws.in_width key l), pow-suc F.width l)

  -- a child is a node of the next level
  pub child_below : (l i c : ℕ) → i < F.width ^ l → c < F.width → F.width * i + c < F.width ^ suc l
  child_below l i c a b = omega (arith, mul-add-lt i F.width c (F.width ^ l) a b, pow-suc F.width l)

  -- its parent is a node of the level before
  pub parent_below : (l i : ℕ) → i < F.width ^ suc l → i / F.width < F.width ^ l
  parent_below l i b = (div-lt_iff_lt-mul {k = F.width} {x = i} {y = F.width ^ l} (some_width F laws)).1 (let wide = rw (pow-suc F.width l) at b in omega (arith, wide))

  pub passes_index : (l : ℕ) (key : List ℕ) (i : ℕ) → i < F.width ^ l → passes F key l i ≡ (index_of F l key == i)
  passes_index zero key i b = let few = rw (pow-zero F.width) at b in sym (eq-eqb 0 i (omega (arith, few)))
  passes_index (suc l) key i b = ap (λ (t : Bool). t && (F.digit key l == i % F.width)) (passes_index l key (i / F.width) (parent_below l i b)) ∙ digits_test F.width (index_of F l key) (F.digit key l) i (laws.in_width key l)

  -- the entries below a node are those whose paths go through it
  pub under_index : (l i : ℕ) (m : List Entry) → i < F.width ^ l → under F (place l i) m ≡ filter (λ e. index_of F l e.key == i) m
  under_index l i m b = filter_agree (λ e. passes F e.key l i) (λ e. index_of F l e.key == i) (λ e. passes_index l e.key i b) m

-- ## In the tree of a version, from the root on

pub index_position : (v : TreeVersion) (l i : ℕ) → l ≤ levels v → i < (form_of v).width ^ l → IsPosition v (place l i)
index_position v l i a b = record { level = a; index = subst (λ (w : ℕ). i < w ^ l) (width_is v) b }

pub path_position : (v : TreeVersion) (l : ℕ) (key : List ℕ) (at : Position) → l < levels v → at ≡ place l (index_of (form_of v) l key) → IsPosition Two at
path_position v l key at b is = subst (λ (p : Position). IsPosition Two p) (sym is) (position_deepest v (place l (index_of (form_of v) l key))
    (index_position v l (index_of (form_of v) l key) (omega arith) (index_below (form_of v) (form_laws v) l key)))

pub path_above : (v : TreeVersion) (l : ℕ) (key : List ℕ) (at : Position) → l < levels v → at ≡ place l (index_of (form_of v) l key) → at.level < levels Two
path_above v l key at b is = let level = ap (λ (p : Position). p.level) is in omega (arith, level, b, levels_few v)

pub path_next : (v : TreeVersion) (l d : ℕ) (key path : List ℕ) (at next : Position) → at ≡ place l (index_of (form_of v) l key) → path ≡ md5 key → d ≡ nibble path l → next ≡ child (form_of v) at d → next ≡ place (l + 1) (index_of (form_of v) (l + 1) key)
path_next v l d key path at next is md digit down = down ∙ (λ j. child (form_of v) (is j) (named j)) ∙ ap (λ (n : ℕ). place (l + 1) n) (sym (ap (λ (n : ℕ). index_of (form_of v) n key) higher))
  where
    named : d ≡ (form_of v).digit key l
    named = digit ∙ ap (λ (p : List ℕ). nibble p l) md ∙ sym (digit_is v key l)

    higher : l + 1 ≡ suc l
    higher = omega arith

pub path_end : (v : TreeVersion) (l : ℕ) (key : List ℕ) (at : Position) → l ≡ levels v → at ≡ place l (index_of (form_of v) l key) → at.index ≡ index_of (form_of v) (form_of v).depth key
path_end v l key at e is = ap (λ (p : Position). p.index) is ∙ ap (λ (n : ℕ). index_of (form_of v) n key) (e ∙ sym (depth_is v))
