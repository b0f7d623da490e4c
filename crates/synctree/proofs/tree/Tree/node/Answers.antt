use Rattle.std.proofs.Common.{◌-◌}
use Rattle.synctree.specs.TreeNode.{levels}
use Rattle.synctree.specs.Sixteen.{form_of}
use Rattle.synctree.proofs.Formats.{form_laws}
use Rattle.synctree.specs.Outsides.{outside_does, outside_refuses}
use Rattle.synctree.proofs.Places.{place_of}
use Rattle.synctree.proofs.Descending.{reads_of}
use Rattle.synctree.proofs.tree.Tree.node.Goals as goal

pub returns-clause-reads : goal.returns-clause-reads
returns-clause-reads g c = reads_of (outside_does g.N.NodeStore.may_answer g.N.NodeStore.top_record g.N.NodeStore.fault_count g.H.Hasher16.kept g.H.Hasher16.clashes g.H.Hasher16.fulls) (form_of c.args.self.now.version) (form_laws c.args.self.now.version)
    (outside_refuses g.N.NodeStore.may_refuse g.N.NodeStore.top_record g.N.NodeStore.fault_count g.H.Hasher16.kept g.H.Hasher16.clashes g.H.Hasher16.fulls)
    c.args.self.now.top (levels c.args.self.now.version - c.args.at.level) c.args.at (c.args.self.now.store, c.args.hasher.now) (c.node_from_top.new.nodes, c.node_from_top.new.hasher) c.node_from_top.result (place_of c.args.self.now.version c.args.at c.requires) c.node_from_top.ensures
