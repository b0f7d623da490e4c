use Rattle.std.proofs.Common.{◌≡◌, Some, map, take}
use Rattle.synctree.specs.Sixteen.{form_of}
use Rattle.tree_repair.specs.Builds.{place}
use Rattle.tree_repair.specs.Inner.{children_of}
use Rattle.tree_repair.proofs.inner.inner_texts.Given as goal

abbrev pub invariant-loop-run : goal.invariant-loop-run
invariant-loop-run l = record {
  indexes : l.texts.indexes.items ≡ map (λ r. r.number) (take l.run-index l.run-items);
  texts : l.texts.texts.items ≡ map (λ i. Some ((form_of l.version).inner_text (place l.level i) (children_of 16 i l.below.indexes.items l.below.names.items))) l.texts.indexes.items;
}
