use Rattle.tree_repair.proofs.Roots.{insert_enters, insert_changes}
use Rattle.tree_repair.proofs.entering.insert.Goals as goal

pub returns-clause-stands : goal.returns-clause-stands
returns-clause-stands g c = insert_enters g.N.NodeStore.may_answer g.N.NodeStore.may_refuse g.N.NodeStore.top_record g.N.NodeStore.fault_count g.H.Hasher16.kept g.H.Hasher16.clashes g.H.Hasher16.fulls
    c.args.tree.now.version c.args.tree.now.top c.args.entry.now (c.args.tree.now.store, c.args.hasher.now) (c.insert.new.self.store, c.insert.new.hasher) c.entries_fit.ensures c.insert.result c.insert.new.self.top c.insert.ensures.stands

pub returns-clause-top : goal.returns-clause-top
returns-clause-top g c = insert_changes g.N.NodeStore.may_answer g.N.NodeStore.may_refuse g.N.NodeStore.top_record g.N.NodeStore.fault_count g.H.Hasher16.kept g.H.Hasher16.clashes g.H.Hasher16.fulls
    c.args.tree.now.version c.args.tree.now.top c.args.entry.now (c.args.tree.now.store, c.args.hasher.now) (c.insert.new.self.store, c.insert.new.hasher) c.entries_fit.ensures c.insert.result c.insert.new.self.top c.insert.ensures.did
