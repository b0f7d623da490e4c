use Rattle.synctree.specs.Outsides.{outside_does, outside_refuses}
use Rattle.synctree.proofs.Shapes.{tells_of}
use Rattle.synctree.proofs.tree.Tree.shape.Goals as goal

pub returns-clause-tells : goal.returns-clause-tells
returns-clause-tells g c = tells_of (outside_does g.N.NodeStore.may_answer g.N.NodeStore.top_record g.N.NodeStore.fault_count g.H.Hasher16.kept g.H.Hasher16.clashes g.H.Hasher16.fulls)
    (outside_refuses g.N.NodeStore.may_refuse g.N.NodeStore.top_record g.N.NodeStore.fault_count g.H.Hasher16.kept g.H.Hasher16.clashes g.H.Hasher16.fulls)
    c.args.self.now.top (c.args.self.now.store, c.args.hasher.now) (c.version_from_top.new.nodes, c.version_from_top.new.hasher) c.version_from_top.result c.version_from_top.ensures
