use Rattle.step_plans.specs.Calls.{ScanTree}
use Rattle.peer_spec.specs.Starts.{scanned}
use Rattle.peer_machine.proofs.Starts.{answered}
use Rattle.peer_machine.proofs.starting.rescanned.Goals as goal

pub returns-in-Ok-clause-starts : goal.returns-in-Ok-clause-starts
returns-in-Ok-clause-starts g c =
    answered g.S.Store.does g.S.Store.refuses ScanTree (λ scan. scanned c.args.mode c.args.saved scan) (c.args.stores.now, c.args.hasher.now) (c.scan_tree.new.self, c.scan_tree.new.hasher) (c.scanned.new.stores, c.scanned.new.hasher)
    c.in-Ok.scan c.scanned.result c.in-Ok.ensures c.scanned.ensures.starts
