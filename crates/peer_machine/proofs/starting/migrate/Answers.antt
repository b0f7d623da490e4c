use Rattle.std.specs.Prelude.{None}
use Rattle.step_plans.specs.Calls.{OpenTree, Install}
use Rattle.step_plans.specs.Plans.{Ask}
use Rattle.tree_node.specs.declared.version.TreeVersion.TheVariants.{Two}
use Rattle.peer_spec.specs.Starts.{reseals_if}
use Rattle.peer_machine.proofs.Starts.{answered}
use Rattle.peer_machine.proofs.starting.migrate.Goals as goal

pub returns-in-Ok-clause-starts : goal.returns-in-Ok-clause-starts
returns-in-Ok-clause-starts g c =
    answered g.S.Store.does g.S.Store.refuses (OpenTree None Two) (λ u. Ask (Install c.args.entries.now) (λ v. reseals_if c.args.saved.seal c.args.mode c.args.saved)) (c.args.stores.now, c.args.hasher.now) (c.open_tree.new.self, c.open_tree.new.hasher) (c.installed.new.stores, c.installed.new.hasher)
    tt c.installed.result c.in-Ok.ensures c.installed.ensures.starts
