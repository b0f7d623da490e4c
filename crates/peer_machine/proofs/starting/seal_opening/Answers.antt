use Rattle.peer_machine.proofs.Starts.{rooted}
use Rattle.peer_machine.proofs.starting.seal_opening.Goals as goal

pub returns-in_ok-root-clause-starts : goal.returns-in_ok-root-clause-starts
returns-in_ok-root-clause-starts g c = rooted g.S.Store.does g.S.Store.refuses c.args.mode c.args.opening (c.args.stores.now, c.args.hasher.now) (c.root.new.self, c.root.new.hasher) (c.save_opening.new.stores, c.save_opening.new.hasher)
    c.in_ok-root.root c.save_opening.result c.if-mode.true c.in_ok-root.ensures c.save_opening.ensures.starts
