use Rattle.synctree.specs.Sixteen.{form_of}
use Rattle.synctree.proofs.Formats.{form_laws}
use Rattle.synctree.specs.Outsides.{outside_does, outside_refuses}
use Rattle.synctree.proofs.Meaning.{finds_of}
use Rattle.synctree.proofs.tree.Tree.get.Goals as goal

pub returns-clause-finds : goal.returns-clause-finds
returns-clause-finds g c = finds_of (outside_does g.N.NodeStore.may_answer g.N.NodeStore.top_record g.N.NodeStore.fault_count g.H.Hasher16.kept g.H.Hasher16.clashes g.H.Hasher16.fulls) (form_of c.args.self.now.version) (form_laws c.args.self.now.version)
    (outside_refuses g.N.NodeStore.may_refuse g.N.NodeStore.top_record g.N.NodeStore.fault_count g.H.Hasher16.kept g.H.Hasher16.clashes g.H.Hasher16.fulls)
    c.args.self.now.top c.args.key.now (c.args.self.now.store, c.args.hasher.now) (c.find_from_top.new.nodes, c.find_from_top.new.hasher) c.find_from_top.result c.find_from_top.ensures
