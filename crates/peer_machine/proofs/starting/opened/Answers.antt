use Rattle.peer_machine.proofs.Starts.{freshened}
use Rattle.peer_machine.proofs.starting.opened.Goals as goal

pub returns-in-Some-clause-starts : goal.returns-in-Some-clause-starts
returns-in-Some-clause-starts g c = rw c.in-Some.is c.continued_in.ensures.starts

pub returns-in-Ok-clause-starts : goal.returns-in-Ok-clause-starts
returns-in-Ok-clause-starts g c = rw c.in-None.is (freshened g.S.Store.does g.S.Store.refuses c.args.mode c.args.opening (c.args.stores.now, c.args.hasher.now) (c.fresh_tree.new.self, c.fresh_tree.new.hasher)
    (c.seal_opening.new.stores, c.seal_opening.new.hasher) c.seal_opening.result c.in-Ok.ensures c.seal_opening.ensures.starts)
