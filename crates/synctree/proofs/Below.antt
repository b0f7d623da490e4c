-- The part of a map below a position, level by level.
use Rattle.std.proofs.Common.{◌≡◌, ◌≢◌, ℕ, zero, suc, ◌+◌, ◌*◌, ◌/◌, ◌%◌, ◌<◌, ◌^◌, ◌⊎◌, Bool, true, false, cond, List, [], ◌∷◌, None, Some, refl, ap, sym, ◌∙◌, arith, inl, inr}
use Rattle.std.specs.Option.{option_map}
use Rattle.std.specs.Prelude.{◌==◌, ◌&&◌, filter}
use Rattle.std.proofs.Math.Nat.{div-lt_iff_lt-mul, div-add-mod, mod-lt, mod-eq_of_lt, div-eq_of_lt, mul-add-div, mul-add-mod_self_left}
use native.Mathlib.Nat.{pow-suc, pow-zero}
use Rattle.md5.specs.Md5.{md5}
use Rattle.ens_base.specs.declared.entry.Entry.{Entry}
use Rattle.tree_node.specs.declared.position.Position.{Position}
use Rattle.synctree.specs.Entries.{IsMap}
use Rattle.synctree.specs.Forms.{Form, root, child, IsPlace, Laws}
use Rattle.synctree.specs.Maps.{within, named, text, IsNode}
use Rattle.synctree.specs.Paths.{passes, present, under}
use Rattle.synctree.proofs.Parts.{map_part}

both_filters : (p q : Entry → Bool) (m : List Entry) → filter (λ e. p e && q e) m ≡ filter q (filter p m)
both_filters p q [] = refl
both_filters p q (x ∷ m) = by (p x) (q x) refl refl (both_filters p q m)
  where
    by : (a b : Bool) → p x ≡ a → q x ≡ b → filter (λ e. p e && q e) m ≡ filter q (filter p m) → cond (p x && q x) (x ∷ filter (λ e. p e && q e) m) (filter (λ e. p e && q e) m) ≡ filter q (cond (p x) (x ∷ filter p m) (filter p m))
    by true true ea eb rest = rw (ea, eb) (ap (λ xs. x ∷ xs) rest)
    by true false ea eb rest = rw (ea, eb) rest
    by false b ea eb rest = rw ea rest

pub every : (m : List Entry) → filter (λ _. true) m ≡ m
every [] = refl
every (x ∷ m) = ap (λ xs. x ∷ xs) (every m)

abbrev pub place : ℕ → ℕ → Position
place level index = record { level = level; index = index }

-- a node of this level with these entries below it is there: the root always, and another node only
-- if it has entries
abbrev pub IsThere : ℕ → List Entry → Type 0
IsThere zero es = Unit {0}
IsThere (suc level) es = es ≢ []

pub there_if_some : (level : ℕ) (es : List Entry) → es ≢ [] → IsThere level es
there_if_some zero es some = tt
there_if_some (suc level) es some = some

-- a node is there exactly if it has a text
pub present_is : (l : ℕ) (es : List Entry) (t : List ℕ) → ((present l es t ≡ None) × (es ≡ [])) ⊎ (IsThere l es × (present l es t ≡ Some t))
present_is zero es t = inr (tt, refl)
present_is (suc l) [] t = inl (refl, refl)
present_is (suc l) (e ∷ es) t = inr (λ is. cc, refl)

-- the name of a node below the root is the digest of its text
pub named_is : (l : ℕ) (es : List Entry) (t : List ℕ) → named es t ≡ option_map md5 (present (suc l) es t)
named_is l [] t = refl
named_is l (e ∷ es) t = refl

-- the node at the root has the text of the map
pub first_text : (F : Form) (h i : ℕ) (m : List Entry) → IsPlace F h (place 0 i) → text F h (place 0 i) (under F (place 0 i) m) ≡ text F F.depth root m
first_text F h i m p = let zero_is : i ≡ 0 = small (rw (pow-zero F.width) at p.index) in let all : h ≡ F.depth = omega (arith, p.level) in rw (every m, all, zero_is) refl
  where
    small : i < 1 → i ≡ 0
    small l = omega arith

module _ (F : Form) where
  -- the entries below a child are those of its parent that belong to it
  pub under_child : (l i : ℕ) (m : List Entry) → under F (place (suc l) i) m ≡ within F (place l (i / F.width)) (i % F.width) (under F (place l (i / F.width)) m)
  under_child l i m = both_filters (λ e. passes F e.key l (i / F.width)) (λ e. F.digit e.key l == i % F.width) m

  pub under_map : (at : Position) (m : List Entry) → IsMap m → IsMap (under F at m)
  under_map at m a = map_part (λ k. passes F k at.level at.index) m a

module _ (F : Form) (laws : Laws F) where
  pub some_width : 0 < F.width
  some_width = omega (arith, laws.in_width [] 0)

  -- the entries of a node that belong to a child are those below the child
  pub child_under : (at : Position) (c : ℕ) (m : List Entry) → c < F.width → within F at c (under F at m) ≡ under F (child F at c) m
  child_under at c m l = sym (
      ap (λ (n : ℕ). under F (place n (F.width * at.index + c)) m) next
      ∙ under_child F at.level (F.width * at.index + c) m
      ∙ ap (λ (q : ℕ). within F (place at.level q) ((F.width * at.index + c) % F.width) (under F (place at.level q) m)) quotient
      ∙ ap (λ (r : ℕ). within F at r (under F at m)) (mul-add-mod_self_left F.width at.index c ∙ mod-eq_of_lt l))
    where
      next : at.level + 1 ≡ suc at.level
      next = omega arith

      quotient : (F.width * at.index + c) / F.width ≡ at.index
      quotient = let zeros : at.index + 0 ≡ at.index = omega arith in mul-add-div some_width at.index c ∙ ap (λ (n : ℕ). at.index + n) (div-eq_of_lt l) ∙ zeros

  pub child_again : (l i : ℕ) → child F (place l (i / F.width)) (i % F.width) ≡ place (suc l) i
  child_again l i =
      let level : l + 1 ≡ suc l = omega arith in
      let index : F.width * (i / F.width) + i % F.width ≡ i = div-add-mod i F.width in rw (level, index) refl

  pub parent_place : (h l i : ℕ) → IsPlace F h (place (suc l) i) → IsPlace F (suc h) (place l (i / F.width))
  parent_place h l i p = record {
    level = sum l h F.depth p.level;
    index = (div-lt_iff_lt-mul {k = F.width} {x = i} {y = F.width ^ l} some_width).1 (wide p.index);
  }
    where
      sum : (a b d : ℕ) → suc a + b ≡ d → a + suc b ≡ d
      sum a b d e = omega arith

      wide : i < F.width ^ suc l → i < F.width ^ l * F.width
      wide p = let q = rw (pow-suc F.width l) at p in omega (arith, q)

  -- the parent of a node with entries is there
  parent_there : (l i : ℕ) (m : List Entry) → under F (place (suc l) i) m ≢ [] → IsThere l (under F (place l (i / F.width)) m)
  parent_there l i m some = there_if_some l (under F (place l (i / F.width)) m) (λ e. some (under_child F l i m ∙ ap (within F (place l (i / F.width)) (i % F.width)) e))

  -- a node below a position that is there is a node of the map
  pub node_below : (h l i : ℕ) (m : List Entry) (s : List ℕ) → IsPlace F h (place l i) → IsThere l (under F (place l i) m) → IsNode F h (place l i) (under F (place l i) m) s → IsNode F F.depth root m s
  node_below h zero i m s p there n = at_root h i p.level p.index (rw (every m) at n)
    where
      at_root : (h i : ℕ) → 0 + h ≡ F.depth → i < F.width ^ 0 → IsNode F h (place 0 i) m s → IsNode F F.depth root m s
      at_root h i e l n =
          let is : h ≡ F.depth = omega arith in
          let first : i ≡ 0 = small i l in rw (is, first) at n
        where
          small : (i : ℕ) → i < F.width ^ 0 → i ≡ 0
          small i l = let one = rw (pow-zero F.width) at l in omega (arith, one)
  node_below h (suc l) i m s p there n = node_below (suc h) l (i / F.width) m s (parent_place h l i p) (parent_there l i m there)
      (inr (i % F.width, mod-lt i some_width, λ e. there (under_child F l i m ∙ e), rw (under_child F l i m, ← child_again l i) at n))
