-- Positions that lie at, under or above others, and the paths of keys through them.
use Rattle.std.proofs.Common.{◌≡◌, ◌⊎◌, ℕ, zero, suc, ◌+◌, ◌-◌, ◌*◌, ◌/◌, ◌%◌, ◌<◌, ◌≤◌, ◌^◌, Bool, true, false, List, [], ◌∷◌, refl, sym, ◌∙◌, subst, arith, inl, inr}
use Rattle.std.specs.Prelude.{◌==◌, ◌&&◌, ◌||◌, nat_le}
use Rattle.std.specs.List.{AllByRecursion}
use Rattle.std.proofs.lemmas.Bool.{and_parts}
use Rattle.std.proofs.lemmas.Bool.Decides.{nat_tests}
use Rattle.std.proofs.Math.Nat.{div-lt_iff_lt-mul, div-add-mod}
use native.Mathlib.Nat.{pow-suc, pow-zero}
use Rattle.tree_node.specs.declared.position.Position.{Position}
use Rattle.tree_node.specs.declared.version.TreeVersion.{TreeVersion}
use Rattle.tree_node.specs.Positions.{IsPosition}
use Rattle.synctree.specs.Forms.{Form, Laws}
use Rattle.synctree.specs.Paths.{passes}
use Rattle.synctree.specs.Sixteen.{form_of}
use Rattle.synctree.proofs.Below.{some_width}
use Rattle.synctree.proofs.Formats.{form_laws}
use Rattle.synctree.proofs.Places.{width_is}
use Rattle.tree_exchange.specs.Asks.{up, lies_in, meets}
use Rattle.tree_exchange.specs.Covers.{Passes, PassesAny}
use Rattle.ens_base.proofs.Tests.{apart as not_both}

module _ (F : Form) (laws : Laws F) (key : List ℕ) where
  -- a path goes through the positions above each that it goes through
  passes_up : (n l t i : ℕ) → n + l ≡ t → passes F key t i ≡ true → passes F key l (up F.width n i) ≡ true
  passes_up zero l t i e p = let is : t ≡ l = omega (arith, e) in subst (λ (x : ℕ). passes F key x i ≡ true) is p
  passes_up (suc n) l zero i e p = absurd (omega (arith, e))
  passes_up (suc n) l (suc t) i e p = passes_up n l t (i / F.width) (omega (arith, e)) ((and_parts (passes F key t (i / F.width)) (F.digit key t == i % F.width) p).0)

  shrinks : (l i : ℕ) → i < F.width ^ suc l → i / F.width < F.width ^ l
  shrinks l i p = (div-lt_iff_lt-mul {k = F.width} {x = i} {y = F.width ^ l} (some_width F laws)).1 (wide p)
    where
      wide : i < F.width ^ suc l → i < F.width ^ l * F.width
      wide p = let q = rw (pow-suc F.width l) at p in omega (arith, q)

  up_small : (n l t i : ℕ) → n + l ≡ t → i < F.width ^ t → up F.width n i < F.width ^ l
  up_small zero l t i e p = let is : t ≡ l = omega (arith, e) in subst (λ (x : ℕ). i < F.width ^ x) is p
  up_small (suc n) l zero i e p = absurd (omega (arith, e))
  up_small (suc n) l (suc t) i e p = up_small n l t (i / F.width) (omega (arith, e)) (shrinks t i p)

  -- a path goes through one position of a level
  passes_once : (l i j : ℕ) → i < F.width ^ l → j < F.width ^ l → passes F key l i ≡ true → passes F key l j ≡ true → i ≡ j
  passes_once zero i j p q a b = first (rw (pow-zero F.width) at p) (rw (pow-zero F.width) at q)
    where
      first : i < 1 → j < 1 → i ≡ j
      first x y = omega arith
  passes_once (suc l) i j p q a b =
      let x = and_parts (passes F key l (i / F.width)) (F.digit key l == i % F.width) a in
      let y = and_parts (passes F key l (j / F.width)) (F.digit key l == j % F.width) b in
      let quotients : i / F.width ≡ j / F.width = passes_once l (i / F.width) (j / F.width) (shrinks l i p) (shrinks l j q) x.0 y.0 in
      let digits : i % F.width ≡ j % F.width = same (F.digit key l) (i % F.width) (j % F.width) x.1 y.1 in
      sym (div-add-mod i F.width) ∙ (λ t. F.width * quotients t + digits t) ∙ div-add-mod j F.width
    where
      same : (d m n : ℕ) → (d == m) ≡ true → (d == n) ≡ true → m ≡ n
      same d m n e f = grind (arith, nat_tests, e, f)

back : (a b : ℕ) → b ≤ a → (a - b) + b ≡ a
back a b h = omega (arith, h)

tests : (a b i j : ℕ) → a ≤ b → i ≡ j → (nat_le a b && i == j) ≡ true
tests a b i j h e = grind (arith, nat_tests)

total : (a b : ℕ) → (a ≤ b) ⊎ (b ≤ a)
total zero b = inl (omega arith)
total (suc a) zero = inr (omega arith)
total (suc a) (suc b) = more (total a b)
  where
    more : (a ≤ b) ⊎ (b ≤ a) → (suc a ≤ suc b) ⊎ (suc b ≤ suc a)
    more (inl h) = inl (omega (arith, h))
    more (inr h) = inr (omega (arith, h))

apart : (a b c : Bool) → ((a || b) || c) ≡ false → ((a ≡ false) × (b ≡ false)) × (c ≡ false)
apart false false false e = ((refl, refl), refl)
apart false false true e = absurd cc
apart false true c e = absurd cc
apart true b c e = absurd cc

-- if a path goes through both, the lower one lies under the other
pub lies_under : (tree : TreeVersion) (key : List ℕ) (p q : Position) → IsPosition tree p → IsPosition tree q → q.level ≤ p.level → Passes tree key p → Passes tree key q → lies_in p q ≡ true
lies_under tree key p q ip iq le a b = tests q.level p.level (up 16 (p.level - q.level) p.index) q.index le (subst (λ (w : ℕ). up w (p.level - q.level) p.index ≡ q.index) (width_is tree) (one (p.level - q.level) (back p.level q.level le)))
  where
    one : (n : ℕ) → n + q.level ≡ p.level → up (form_of tree).width n p.index ≡ q.index
    one n e = passes_once (form_of tree) (form_laws tree) key q.level (up (form_of tree).width n p.index) q.index
        (up_small (form_of tree) (form_laws tree) key n q.level p.level p.index e (subst (λ (w : ℕ). p.index < w ^ p.level) (sym (width_is tree)) ip.index))
        (subst (λ (w : ℕ). q.index < w ^ q.level) (sym (width_is tree)) iq.index)
        (passes_up (form_of tree) (form_laws tree) key n q.level p.level p.index e a) b

-- a path through a position goes through no other that does not meet it
pub passes_none : (tree : TreeVersion) (key : List ℕ) (at : Position) (others : List Position) → IsPosition tree at → AllByRecursion (IsPosition tree) others → meets others at ≡ false → Passes tree key at → PassesAny tree key others → ⊥
passes_none tree key at [] i all z p any = any
passes_none tree key at (d ∷ ds) i all z p (inr any) = passes_none tree key at ds i all.1 ((apart (lies_in d at) (lies_in at d) (meets ds at) z).1) p any
passes_none tree key at (d ∷ ds) i all z p (inl q) = by (total d.level at.level)
  where
    by : (d.level ≤ at.level) ⊎ (at.level ≤ d.level) → ⊥
    by (inl le) = not_both (lies_in at d) (lies_under tree key at d i all.0 le p q) ((apart (lies_in d at) (lies_in at d) (meets ds at) z).0.1)
    by (inr le) = not_both (lies_in d at) (lies_under tree key d at all.0 i le q p) ((apart (lies_in d at) (lies_in at d) (meets ds at) z).0.0)
