use Rattle.step_plans.specs.Calls.{Install}
use Rattle.peer_spec.specs.Starts.{reseals_if}
use Rattle.peer_machine.proofs.Starts.{answered}
use Rattle.peer_machine.proofs.starting.installed.Goals as goal

pub returns-in-Ok-clause-starts : goal.returns-in-Ok-clause-starts
returns-in-Ok-clause-starts g c =
    answered g.S.Store.does g.S.Store.refuses (Install c.args.entries.now) (λ v. reseals_if c.args.saved.seal c.args.mode c.args.saved) (c.args.stores.now, c.args.hasher.now) (c.install.new.self, c.install.new.hasher) (c.reseal_if.new.stores, c.reseal_if.new.hasher)
    tt c.reseal_if.result c.in-Ok.ensures c.reseal_if.ensures.starts
