use Rattle.synctree.specs.Sixteen.{form_of}
use Rattle.synctree.proofs.Formats.{form_laws}
use Rattle.synctree.specs.Outsides.{outside_does, outside_refuses}
use Rattle.synctree.proofs.Standing.{inserts_of}
use Rattle.synctree.proofs.tree.Tree.insert.Goals as goal

pub returns-clause-stands : goal.returns-clause-stands
returns-clause-stands g c = inserts_of (form_of c.args.self.now.version) (form_laws c.args.self.now.version) (outside_does g.N.NodeStore.may_answer g.N.NodeStore.top_record g.N.NodeStore.fault_count g.H.Hasher16.kept g.H.Hasher16.clashes g.H.Hasher16.fulls)
    (outside_refuses g.N.NodeStore.may_refuse g.N.NodeStore.top_record g.N.NodeStore.fault_count g.H.Hasher16.kept g.H.Hasher16.clashes g.H.Hasher16.fulls)
    c.args.self.now.top c.args.entry.now (c.args.self.now.store, c.args.hasher.now) (c.enter_from_top.new.nodes, c.enter_from_top.new.hasher) c.in_ok-new.new c.in_ok-new.ensures.did
