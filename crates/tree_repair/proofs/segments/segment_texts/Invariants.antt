use Rattle.std.proofs.Common.{◌≡◌, map, take}
use Rattle.tree_node.specs.TreeVersions.{levels}
use Rattle.synctree.specs.Paths.{node_of}
use Rattle.synctree.specs.Sixteen.{form_of}
use Rattle.tree_repair.specs.Builds.{place}
use Rattle.tree_repair.proofs.segments.segment_texts.Given as goal

abbrev pub invariant-loop-run : goal.invariant-loop-run
invariant-loop-run g l = record {
  indexes : l.texts.indexes.items ≡ map (λ r. r.number) (take l.run-index l.run-items);
  texts : l.texts.texts.items ≡ map (λ i. node_of (form_of l.version) (place (levels l.version) i) l.entries) l.texts.indexes.items;
}
