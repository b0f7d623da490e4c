use Rattle.tree_exchange.specs.Asks.{own_plan}
use Rattle.synctree.specs.declared.error.TreeError.TheVariants as trees
use Rattle.tree_exchange.proofs.Causes.{stops_cause}
use Rattle.tree_exchange.proofs.ask.Ask.take.Goals as goal

pub returns-in-Err-Failed-clause-refused : goal.returns-in-Err-Failed-clause-refused
returns-in-Err-Failed-clause-refused g c = stops_cause g.N.NodeStore.may_answer g.N.NodeStore.may_refuse g.N.NodeStore.top_record g.N.NodeStore.fault_count g.H.Hasher16.kept g.H.Hasher16.clashes g.H.Hasher16.fulls (own_plan c.args.own.now.version c.args.own.now.top c.args.question.now c.args.body.now c.args.self.now) (c.args.own.now.store, c.args.hasher.now) (c.read_own.new.tree.store, c.read_own.new.hasher) trees.Failed (rw c.in-Err-Failed.field-0-is at c.in-Err-Failed.ensures.did)

pub returns-in-Err-Clash-clause-refused : goal.returns-in-Err-Clash-clause-refused
returns-in-Err-Clash-clause-refused g c = stops_cause g.N.NodeStore.may_answer g.N.NodeStore.may_refuse g.N.NodeStore.top_record g.N.NodeStore.fault_count g.H.Hasher16.kept g.H.Hasher16.clashes g.H.Hasher16.fulls (own_plan c.args.own.now.version c.args.own.now.top c.args.question.now c.args.body.now c.args.self.now) (c.args.own.now.store, c.args.hasher.now) (c.read_own.new.tree.store, c.read_own.new.hasher) _ (rw c.in-Err-Clash.field-0-is at c.in-Err-Clash.ensures.did)

pub returns-in-Err-BookFull-clause-refused : goal.returns-in-Err-BookFull-clause-refused
returns-in-Err-BookFull-clause-refused g c = stops_cause g.N.NodeStore.may_answer g.N.NodeStore.may_refuse g.N.NodeStore.top_record g.N.NodeStore.fault_count g.H.Hasher16.kept g.H.Hasher16.clashes g.H.Hasher16.fulls (own_plan c.args.own.now.version c.args.own.now.top c.args.question.now c.args.body.now c.args.self.now) (c.args.own.now.store, c.args.hasher.now) (c.read_own.new.tree.store, c.read_own.new.hasher) _ (rw c.in-Err-BookFull.field-0-is at c.in-Err-BookFull.ensures.did)
