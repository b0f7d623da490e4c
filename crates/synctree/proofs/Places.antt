-- Positions in the tree of a version.
use Rattle.std.proofs.Common.{◌≡◌, ℕ, zero, suc, ◌+◌, ◌-◌, ◌*◌, ◌<◌, ◌≤◌, ◌^◌, List, refl, sym, subst, arith}
use Rattle.synctree.proofs.Unique.{child_place}
use Rattle.synctree.specs.TreeNode.{Position, TreeVersion, levels, IsPosition, inner_of, segment_of}
use Rattle.synctree.proofs.TreeNode.{levels_few}
use Rattle.synctree.specs.Forms.{IsPlace, child}
use Rattle.synctree.specs.Sixteen.{form_of, nibble, children_in, entries_in}
use Rattle.md5.specs.Md5.{md5}

pub child_is : (v : TreeVersion) (at : Position) (c : ℕ) → child (form_of v) at c ≡ record { level = at.level + 1; index = 16 * at.index + c }
unfolding form_of
child_is v at c = refl

pub digit_is : (v : TreeVersion) (key : List ℕ) (level : ℕ) → (form_of v).digit key level ≡ nibble (md5 key) level
unfolding form_of
digit_is v key level = refl

pub inner_is : (v : TreeVersion) (at : Position) (bytes : List ℕ) → (form_of v).inner_at at bytes ≡ children_in (inner_of v at bytes)
unfolding form_of
inner_is v at bytes = refl

pub segment_is : (v : TreeVersion) (at : Position) (bytes : List ℕ) → (form_of v).segment_at at bytes ≡ entries_in (segment_of v at bytes)
unfolding form_of
segment_is v at bytes = refl

pub width_is : (v : TreeVersion) → (form_of v).width ≡ 16
unfolding form_of
width_is v = refl

pub depth_is : (v : TreeVersion) → (form_of v).depth ≡ levels v
unfolding form_of
depth_is v = refl

pub place_of : (v : TreeVersion) (at : Position) → IsPosition v at → IsPlace (form_of v) (levels v - at.level) at
unfolding form_of
place_of v at p = record { level = omega (arith, p.level); index = p.index }

pub level_below : (v : TreeVersion) (h : ℕ) (at : Position) → IsPlace (form_of v) h at → 0 < h → at.level < levels v
unfolding form_of
level_below v h at p some = omega (arith, p.level)

pow_small : (l : ℕ) → l < 5 → 16 ^ l ≤ 16 ^ 4
pow_small zero h = omega arith
pow_small (suc zero) h = omega arith
pow_small (suc (suc zero)) h = omega arith
pow_small (suc (suc (suc zero))) h = omega arith
pow_small (suc (suc (suc (suc zero)))) h = omega arith
pow_small (suc (suc (suc (suc (suc l))))) h = absurd (omega arith)

pub index_room : (v : TreeVersion) (at : Position) (c : ℕ) → IsPosition v at → at.level < levels v → c < 16 → 16 * at.index + c < 2 ^ 32
index_room v at c p l d = room at.index c (16 ^ at.level) p.index (pow_small at.level (omega (arith, l, levels_few v))) d
  where
    room : (i c w : ℕ) → i < w → w ≤ 16 ^ 4 → c < 16 → 16 * i + c < 2 ^ 32
    room i c w a b d = omega arith

pub place_below : (v : TreeVersion) (h : ℕ) (at below : Position) (c : ℕ) → IsPlace (form_of v) h at → 0 < h → below ≡ child (form_of v) at c → c < 16 → IsPlace (form_of v) (h - 1) below
place_below v h at below c p some is l = subst (λ (x : Position). IsPlace (form_of v) (h - 1) x) (sym is)
    (child_place (form_of v) (h - 1) at c (wide c l) (subst (λ (n : ℕ). IsPlace (form_of v) n at) (higher h some) p))
  where
    wide : (c : ℕ) → c < 16 → c < (form_of v).width
    wide c l = rw (width_is v) l

    higher : (h : ℕ) → 0 < h → h ≡ suc (h - 1)
    higher h some = omega arith
