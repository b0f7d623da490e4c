use Rattle.std.proofs.Common.{take}
use Rattle.repeat_link.specs.Sendings.{SentTo}
use Rattle.repeat_link.proofs.datagrams.send_all.Given as goal

abbrev pub invariant-loop-datagram : goal.invariant-loop-datagram
invariant-loop-datagram g l = SentTo (g.L.Link.sent l.initial.link) (g.L.Link.sent l.link) l.to (take l.datagram-index l.datagrams)
