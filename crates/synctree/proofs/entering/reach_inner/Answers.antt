use Rattle.synctree.specs.Outsides.{outside_does, outside_refuses}
use Rattle.synctree.proofs.Puts.{width_of}
use Rattle.synctree.proofs.entering.reach_inner.Goals as goal

pub returns-in-Some-clause-width : goal.returns-in-Some-clause-width
returns-in-Some-clause-width g c = width_of (outside_does g.N.NodeStore.may_answer g.N.NodeStore.top_record g.N.NodeStore.fault_count g.H.Hasher16.kept g.H.Hasher16.clashes g.H.Hasher16.fulls)
    (outside_refuses g.N.NodeStore.may_refuse g.N.NodeStore.top_record g.N.NodeStore.fault_count g.H.Hasher16.kept g.H.Hasher16.clashes g.H.Hasher16.fulls)
    c.args.version c.args.at c.in-Some.digest (c.args.nodes.now, c.args.hasher.now) (c.open_inner.new.nodes, c.open_inner.new.hasher) c.open_inner.result c.open_inner.ensures
