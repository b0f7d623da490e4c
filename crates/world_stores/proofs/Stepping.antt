-- The digest named at a position, from the one named at its parent.
use Rattle.std.proofs.Common.{◌≡◌, ℕ, zero, suc, ◌-◌, ◌/◌, ◌%◌, ◌<◌, List, Option, sym, refl, arith}
use Rattle.std.specs.Option.{option_and_then}
use Rattle.tree_node.specs.declared.position.Position.{Position}
use Rattle.tree_node.specs.declared.version.TreeVersion.{TreeVersion}
use Rattle.synctree.specs.Sixteen.{form_of}
use Rattle.synctree.proofs.Below.{place}
use Rattle.world_stores.specs.Nodes.{Nodes}
use Rattle.world_stores.specs.Naming.{child_under, named_in, named_at}

named_next : (tree : TreeVersion) (s : Nodes) (level index : ℕ) → 0 < level → named_in (form_of tree) s level index ≡ option_and_then (child_under (form_of tree) s.entries (place (level - 1) (index / 16)) (index % 16)) (named_in (form_of tree) s (level - 1) (index / 16))
unfolding form_of
named_next tree s zero index some = absurd (omega arith)
named_next tree s (suc level) index some = let down : suc level - 1 ≡ level = omega arith in rw down refl

pub named_above : (tree : TreeVersion) (s : Nodes) (at above : Position) (o : Option (List ℕ)) → 0 < at.level → above ≡ place (at.level - 1) (at.index / 16) → o ≡ named_at (form_of tree) s above → option_and_then (child_under (form_of tree) s.entries above (at.index % 16)) o ≡ named_at (form_of tree) s at
named_above tree s at above o some is named = rw (named, is) (sym (named_next tree s at.level at.index some))
