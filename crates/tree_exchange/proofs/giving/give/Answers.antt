use Rattle.synctree.specs.Sixteen.{form_of}
use Rattle.synctree.specs.Nodes.{node_plan}
use Rattle.synctree.specs.declared.error.TreeError.TheVariants as trees
use Rattle.tree_exchange.proofs.Causes.{stops_cause}
use Rattle.tree_exchange.proofs.giving.give.Goals as goal

pub returns-in-Err-Failed-clause-refused : goal.returns-in-Err-Failed-clause-refused
returns-in-Err-Failed-clause-refused g c = stops_cause g.N.NodeStore.may_answer g.N.NodeStore.may_refuse g.N.NodeStore.top_record g.N.NodeStore.fault_count g.H.Hasher16.kept g.H.Hasher16.clashes g.H.Hasher16.fulls (node_plan (form_of c.args.tree.now.version) c.args.tree.now.top c.args.question.now.position) (c.args.tree.now.store, c.args.hasher.now) (c.node.new.self.store, c.node.new.hasher) trees.Failed (rw c.in-Err-Failed.field-0-is at c.in-Err-Failed.ensures.did)

pub returns-in-Err-Clash-clause-refused : goal.returns-in-Err-Clash-clause-refused
returns-in-Err-Clash-clause-refused g c = stops_cause g.N.NodeStore.may_answer g.N.NodeStore.may_refuse g.N.NodeStore.top_record g.N.NodeStore.fault_count g.H.Hasher16.kept g.H.Hasher16.clashes g.H.Hasher16.fulls (node_plan (form_of c.args.tree.now.version) c.args.tree.now.top c.args.question.now.position) (c.args.tree.now.store, c.args.hasher.now) (c.node.new.self.store, c.node.new.hasher) _ (rw c.in-Err-Clash.field-0-is at c.in-Err-Clash.ensures.did)

pub returns-in-Err-BookFull-clause-refused : goal.returns-in-Err-BookFull-clause-refused
returns-in-Err-BookFull-clause-refused g c = stops_cause g.N.NodeStore.may_answer g.N.NodeStore.may_refuse g.N.NodeStore.top_record g.N.NodeStore.fault_count g.H.Hasher16.kept g.H.Hasher16.clashes g.H.Hasher16.fulls (node_plan (form_of c.args.tree.now.version) c.args.tree.now.top c.args.question.now.position) (c.args.tree.now.store, c.args.hasher.now) (c.node.new.self.store, c.node.new.hasher) _ (rw c.in-Err-BookFull.field-0-is at c.in-Err-BookFull.ensures.did)
