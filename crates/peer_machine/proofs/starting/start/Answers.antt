use Rattle.peer_machine.proofs.Starts.{began}
use Rattle.peer_machine.proofs.starting.start.Goals as goal

pub returns-clause-starts : goal.returns-clause-starts
returns-clause-starts g c = began g.S.Store.does g.S.Store.refuses c.args.mode c.args.opening (c.args.stores.now, c.args.hasher.now) (c.load.new.self, c.load.new.hasher) (c.opened.new.stores, c.opened.new.hasher)
    c.in_ok-kept.kept c.opened.result c.in_ok-kept.ensures c.opened.ensures.starts
