use Rattle.synctree.specs.Walks.{store}
use Rattle.synctree.proofs.Exits.{DidOutside, passed_on}
use Rattle.synctree.proofs.Storing.{store_err, store_ok}
use Rattle.synctree.proofs.store.store.Goals as goal

pub returns-in_err-write : goal.returns-in_err-write
returns-in_err-write g c = passed_on c.from_residual-in_err-write.result c.in_err-write.field-0.0 _
    (λ r. DidOutside g.N.NodeStore.may_answer g.N.NodeStore.may_refuse g.N.NodeStore.top_record g.N.NodeStore.fault_count g.H.Hasher16.kept g.H.Hasher16.clashes g.H.Hasher16.fulls (store c.args.bytes.now) (c.args.nodes.now, c.args.hasher.now) r (c.write.new.nodes, c.hash.new.hasher))
    c.from_residual-in_err-write.ensures.0 c.from_residual-in_err-write.ensures.1 (λ d h. h)
    (store_err g.N.NodeStore.may_answer g.N.NodeStore.may_refuse g.N.NodeStore.top_record g.N.NodeStore.fault_count g.H.Hasher16.kept g.H.Hasher16.clashes g.H.Hasher16.fulls c.args.bytes.now c.in_ok-digest.digest c.args.nodes.now c.write.new.nodes c.args.hasher.now c.hash.new.hasher c.in_err-write.field-0.0 (c.in_ok-digest.ensures).digest (c.in_ok-digest.ensures).did c.in_err-write.ensures)

pub returns : goal.returns
returns g c = store_ok g.N.NodeStore.may_answer g.N.NodeStore.may_refuse g.N.NodeStore.top_record g.N.NodeStore.fault_count g.H.Hasher16.kept g.H.Hasher16.clashes g.H.Hasher16.fulls c.args.bytes.now c.in_ok-digest.digest c.args.nodes.now c.write.new.nodes c.args.hasher.now c.hash.new.hasher (c.in_ok-digest.ensures).digest (c.in_ok-digest.ensures).did c.in_ok-write.ensures
