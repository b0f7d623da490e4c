-- The levels and the tags of the versions of a tree.
use Rattle.std.proofs.Common.{◌≡◌, ◌<◌, ◌≤◌, refl, arith}
use Rattle.tree_node.specs.declared.position.Position.{Position}
use Rattle.tree_node.specs.declared.version.TreeVersion.{TreeVersion}
use Rattle.tree_node.specs.declared.version.TreeVersion.TheVariants.{One, Two}
use Rattle.tree_node.specs.TreeVersions.{levels, inner_tag, segment_tag}
use Rattle.tree_node.specs.Positions.{IsPosition}

pub levels_few : (v : TreeVersion) → levels v ≤ 5
levels_few One = omega arith
levels_few Two = omega arith

pub levels_some : (v : TreeVersion) → 0 < levels v
levels_some One = omega arith
levels_some Two = omega arith

-- the deepest tree has the positions of each other
pub position_deepest : (v : TreeVersion) (p : Position) → IsPosition v p → IsPosition Two p
position_deepest v p ok = record { level = omega (arith, ok.level, levels_few v); index = ok.index }

pub inner_tag_small : (v : TreeVersion) → inner_tag v < 256
inner_tag_small One = omega arith
inner_tag_small Two = omega arith

pub segment_tag_small : (v : TreeVersion) → segment_tag v < 256
segment_tag_small One = omega arith
segment_tag_small Two = omega arith

pub inner_tag_once : (v w : TreeVersion) → inner_tag v ≡ inner_tag w → v ≡ w
inner_tag_once One One e = refl
inner_tag_once One Two e = absurd cc
inner_tag_once Two One e = absurd cc
inner_tag_once Two Two e = refl

pub segment_tag_once : (v w : TreeVersion) → segment_tag v ≡ segment_tag w → v ≡ w
segment_tag_once One One e = refl
segment_tag_once One Two e = absurd cc
segment_tag_once Two One e = absurd cc
segment_tag_once Two Two e = refl

-- an inner node and a segment never begin with the same byte
pub tags_differ : (v w : TreeVersion) → inner_tag v ≡ segment_tag w → ⊥
tags_differ One One e = absurd cc
tags_differ One Two e = absurd cc
tags_differ Two One e = absurd cc
tags_differ Two Two e = absurd cc
