use Rattle.step_plans.specs.Calls.{OpenTree, ScanTree}
use Rattle.step_plans.specs.Plans.{Ask}
use Rattle.tree_node.specs.declared.version.TreeVersion.TheVariants.{One}
use Rattle.peer_spec.specs.Starts.{scanned}
use Rattle.peer_machine.proofs.Starts.{answered}
use Rattle.peer_machine.proofs.starting.continued_in_two.Goals as goal

pub returns-in-Ok-clause-starts : goal.returns-in-Ok-clause-starts
returns-in-Ok-clause-starts g c =
    answered g.S.Store.does g.S.Store.refuses (OpenTree c.args.saved.seal One) (λ u. Ask ScanTree (λ scan. scanned c.args.mode c.args.saved scan)) (c.args.stores.now, c.args.hasher.now) (c.open_tree.new.self, c.open_tree.new.hasher) (c.rescanned.new.stores, c.rescanned.new.hasher)
    tt c.rescanned.result c.in-Ok.ensures c.rescanned.ensures.starts
