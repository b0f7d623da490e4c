use Rattle.std.specs.Vec.Iter.{into_iter_items}
use Rattle.peer_turns.proofs.Prefixes.{IsToClient, Underway}
use Rattle.peer_turns.specs.Deeds.{answer_frame}
use Rattle.peer_turns.proofs.sending.send_answers.Given as goal

abbrev pub invariant-loop-answer : goal.invariant-loop-answer
invariant-loop-answer g l = Underway g.L.Link.sent g.L.Link.given g.L.Link.fault_count (answer_frame l.fn.me) (IsToClient) l.fn.answers.items l.fn.link (into_iter_items l.answer-iterator) l.link
