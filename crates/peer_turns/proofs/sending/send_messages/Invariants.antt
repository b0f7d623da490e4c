use Rattle.std.specs.Vec.Iter.{into_iter_items}
use Rattle.peer_turns.specs.PeerSpec.{MaySend}
use Rattle.peer_turns.specs.Deeds.{message_frame}
use Rattle.peer_turns.proofs.Prefixes.{Underway}
use Rattle.peer_turns.proofs.sending.send_messages.Given as goal

abbrev pub invariant-loop-outgoing : goal.invariant-loop-outgoing
invariant-loop-outgoing g l = Underway g.L.Link.sent g.L.Link.given g.L.Link.fault_count (message_frame l.fn.me) (MaySend l.fn.me) l.fn.messages.items l.fn.link (into_iter_items l.outgoing-iterator) l.link
