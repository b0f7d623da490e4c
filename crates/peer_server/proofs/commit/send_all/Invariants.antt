use Rattle.std.specs.Vec.Iter.{into_iter_items}
use Rattle.peer_server.proofs.Unsent.{Sending}
use Rattle.peer_server.proofs.commit.send_all.Given as goal

abbrev pub invariant-loop-out : goal.invariant-loop-out
invariant-loop-out g l = Sending g.L.Link.sent g.L.Link.given g.L.Link.fault_count l.fn.me l.fn.unsent.items l.fn.link (into_iter_items l.out-iterator) l.link
