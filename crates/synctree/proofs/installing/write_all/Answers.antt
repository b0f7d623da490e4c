use Rattle.synctree.specs.Installs.{write_all}
use Rattle.synctree.proofs.Exits.{passed_on}
use Rattle.synctree.proofs.Writing.{DidStore, goes_next, goes_err, goes_end}
use Rattle.synctree.proofs.installing.write_all.Goals as goal

pub loop-node-init : goal.loop-node-init
loop-node-init g c = λ r t h. h

pub loop-node-preserved : goal.loop-node-preserved
loop-node-preserved g c = goes_next g.N.NodeStore.may_answer g.N.NodeStore.may_refuse g.N.NodeStore.top_record g.N.NodeStore.fault_count c.args.nodes.now c.loop-node.node-index c.node-item.result c.as_slice.result.now c.args.store.now c.loop-node.store c.write.new.nodes c.loop-node-test.true c.node-item.is c.as_slice.ensures c.in_ok-write.ensures c.loop-node.invariant

pub returns-in_err-write : goal.returns-in_err-write
returns-in_err-write g c = passed_on c.from_residual.result c.in_err-write.field-0.0 _
    (λ r. DidStore g.N.NodeStore.may_answer g.N.NodeStore.may_refuse g.N.NodeStore.top_record g.N.NodeStore.fault_count (write_all c.args.nodes.now) c.args.store.now r c.write.new.nodes)
    c.from_residual.ensures.0 c.from_residual.ensures.1 (λ d h. h)
    (goes_err g.N.NodeStore.may_answer g.N.NodeStore.may_refuse g.N.NodeStore.top_record g.N.NodeStore.fault_count c.args.nodes.now c.loop-node.node-index c.node-item.result c.as_slice.result.now c.args.store.now c.loop-node.store c.write.new.nodes c.in_err-write.field-0.0 c.loop-node-test.true c.node-item.is c.as_slice.ensures c.in_err-write.ensures c.loop-node.invariant)

pub returns : goal.returns
returns g c = goes_end g.N.NodeStore.may_answer g.N.NodeStore.may_refuse g.N.NodeStore.top_record g.N.NodeStore.fault_count c.args.nodes.now c.loop-node.node-index c.args.store.now c.loop-node.store c.loop-node-test.false c.loop-node.invariant
