use Rattle.std.proofs.Common.{drop}
use Rattle.synctree.proofs.Writing.{GoesOn}
use Rattle.synctree.proofs.installing.write_all.Given as goal

abbrev pub invariant-loop-node : goal.invariant-loop-node
invariant-loop-node g l = GoesOn g.N.NodeStore.may_answer g.N.NodeStore.may_refuse g.N.NodeStore.top_record g.N.NodeStore.fault_count l.nodes (drop l.node-index l.nodes) l.fn.store l.store
