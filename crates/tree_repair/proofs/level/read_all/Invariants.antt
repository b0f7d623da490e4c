use Rattle.std.proofs.Common.{◌≡◌, drop, length}
use Rattle.synctree.specs.Installs.{store_does, store_refuses}
use Rattle.tree_repair.specs.Levels.{read_named}
use Rattle.tree_repair.proofs.Loops.{GoesOn}
use Rattle.tree_repair.proofs.level.read_all.Given as goal

abbrev pub invariant-loop-slot : goal.invariant-loop-slot
invariant-loop-slot g l = record {
  reads : length l.reads.items ≡ l.slot-index;
  version_is : l.tree.version ≡ l.fn.tree.version;
  top : l.tree.top ≡ l.fn.tree.top;
  did : GoesOn (store_does g.N.NodeStore.may_answer g.N.NodeStore.top_record g.N.NodeStore.fault_count) (store_refuses g.N.NodeStore.may_refuse g.N.NodeStore.top_record g.N.NodeStore.fault_count) (λ x. read_named x.digest) l.slots (drop l.slot-index l.slots) l.reads.items l.fn.tree.store l.tree.store;
}
