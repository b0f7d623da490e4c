-- The position of the segment of a key.
use Rattle.std.proofs.Common.{◌≡◌, ℕ, zero, suc, ◌+◌, ◌<◌, ◌≤◌, ◌^◌, true, List, refl, ap, sym, subst, ◌∙◌, arith}
use Rattle.std.proofs.lemmas.Nat.{mul-add-lt}
use native.Mathlib.Nat.{pow-suc, pow-zero}
use Rattle.md5.specs.Md5.{md5}
use Rattle.tree_node.specs.declared.version.TreeVersion.{TreeVersion}
use Rattle.tree_node.specs.declared.position.Position.{Position}
use Rattle.tree_node.specs.TreeVersions.{levels}
use Rattle.tree_node.specs.Positions.{IsPosition}
use Rattle.synctree.specs.Forms.{Form, Laws, child}
use Rattle.synctree.specs.Paths.{passes}
use Rattle.synctree.specs.Sixteen.{form_of, nibble}
use Rattle.synctree.proofs.Formats.{form_laws, place_position}
use Rattle.synctree.proofs.Places.{width_is, depth_is, digit_is}
use Rattle.world_stores.specs.Naming.{index_of, segment_place}
use Rattle.tree_repair.proofs.Indexes.{quotient, remainder}
use Rattle.ens_base.proofs.Tests.{itself}

module _ (F : Form) (laws : Laws F) where
  index_below : (key : List ℕ) (level : ℕ) → index_of F key level < F.width ^ level
  index_below key zero = rw (pow-zero F.width) (omega arith)
  index_below key (suc level) = let room = mul-add-lt (index_of F key level) F.width (F.digit key level) (F.width ^ level) (index_below key level) (laws.in_width key level) in rw (pow-suc F.width level) (omega (arith, room))

  path_goes_on : (key : List ℕ) (level : ℕ) → passes F key level (index_of F key level) ≡ true
  path_goes_on key zero = refl
  path_goes_on key (suc level) =
      rw (quotient F.width (index_of F key level) (F.digit key level) (laws.in_width key level), remainder F.width (index_of F key level) (F.digit key level) (laws.in_width key level), path_goes_on key level) (itself (F.digit key level))

pub segment_position : (tree : TreeVersion) (key : List ℕ) → IsPosition tree (segment_place (form_of tree) key)
segment_position tree key = place_position tree 0 (segment_place (form_of tree) key) (record { level = omega arith; index = index_below (form_of tree) (form_laws tree) key (form_of tree).depth })

pub segment_path : (tree : TreeVersion) (key : List ℕ) → passes (form_of tree) key (segment_place (form_of tree) key).level (segment_place (form_of tree) key).index ≡ true
segment_path tree key = path_goes_on (form_of tree) (form_laws tree) key (form_of tree).depth

-- the position of this level on the path of a key
abbrev pub on_path : TreeVersion → List ℕ → ℕ → Position
on_path tree key level = record { level = level; index = index_of (form_of tree) key level }

pub path_position : (tree : TreeVersion) (key : List ℕ) (level : ℕ) → level ≤ levels tree → IsPosition tree (on_path tree key level)
path_position tree key level low = record { level = low; index = subst (λ (w : ℕ). index_of (form_of tree) key level < w ^ level) (width_is tree) (index_below (form_of tree) (form_laws tree) key level) }

pub path_below : (tree : TreeVersion) (key : List ℕ) (level : ℕ) → child (form_of tree) (on_path tree key level) (nibble (md5 key) level) ≡ on_path tree key (level + 1)
path_below tree key level =
    let next : level + 1 ≡ suc level = omega arith in
    ap (λ (n : ℕ). child (form_of tree) (on_path tree key level) n) (sym (digit_is tree key level)) ∙ rw next refl

pub path_end : (tree : TreeVersion) (key : List ℕ) (level : ℕ) (at : Position) → level ≡ levels tree → at ≡ on_path tree key level → at ≡ segment_place (form_of tree) key
path_end tree key level at last is = is ∙ ap (on_path tree key) (last ∙ sym (depth_is tree))
