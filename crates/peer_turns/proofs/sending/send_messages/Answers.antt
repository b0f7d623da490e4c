use Rattle.std.proofs.Common.{map}
use Rattle.std.specs.Vec.Iter.{into_iter_items}
use Rattle.peer_turns.specs.PeerSpec.{MaySend}
use Rattle.peer_turns.specs.Deeds.{message_frame}
use Rattle.peer_turns.proofs.Prefixes.{begun, broke, goes_on, next_may, none_left, passed_on, went_all}
use Rattle.peer_turns.proofs.sending.send_messages.Goals as goal

pub loop-outgoing-init : goal.loop-outgoing-init
loop-outgoing-init g c = begun g.L.Link.sent g.L.Link.given g.L.Link.fault_count (message_frame c.args.me) (MaySend c.args.me) c.args.messages.items c.args.link.now (into_iter_items c.into_iter-outgoing-iterator.result) c.into_iter-outgoing-iterator.ensures.into_iter_gives.0 c.requires.may

pub send_message-requires-clause-may : goal.send_message-requires-clause-may
send_message-requires-clause-may g c = next_may g.L.Link.sent g.L.Link.given g.L.Link.fault_count (message_frame c.args.me) (MaySend c.args.me) c.args.messages.items c.args.link.now (into_iter_items c.loop-outgoing.outgoing-iterator) c.in-Some.outgoing (into_iter_items c.next.new.self) c.loop-outgoing.link c.in-Some.ensures.steps.0 c.loop-outgoing.invariant

pub loop-outgoing-preserved : goal.loop-outgoing-preserved
loop-outgoing-preserved g c =
    goes_on g.L.Link.sent g.L.Link.given g.L.Link.fault_count (message_frame c.args.me) (MaySend c.args.me) c.args.messages.items c.args.link.now (into_iter_items c.loop-outgoing.outgoing-iterator) c.in-Some.outgoing (into_iter_items c.next.new.self) c.loop-outgoing.link c.send_message.new.link c.in-Some.ensures.steps.0 c.loop-outgoing.invariant c.in_ok-send_message.ensures

pub returns-in_err-send_message : goal.returns-in_err-send_message
returns-in_err-send_message g c =
    passed_on g.L.Link.sent g.L.Link.given g.L.Link.fault_count (map (message_frame c.args.me) c.args.messages.items) c.args.link.now c.send_message.new.link c.in_err-send_message.field-0.0 c.from_residual.result _ c.from_residual.ensures.1 (λ d same. same)
    (broke g.L.Link.sent g.L.Link.given g.L.Link.fault_count (message_frame c.args.me) (MaySend c.args.me) c.args.messages.items c.args.link.now c.in_err-send_message.field-0.0 (into_iter_items c.loop-outgoing.outgoing-iterator) c.in-Some.outgoing (into_iter_items c.next.new.self) c.loop-outgoing.link c.send_message.new.link c.in-Some.ensures.steps.0 c.loop-outgoing.invariant c.in_err-send_message.ensures)

pub returns : goal.returns
returns g c = went_all g.L.Link.sent g.L.Link.given g.L.Link.fault_count (message_frame c.args.me) (MaySend c.args.me) c.args.messages.items c.args.link.now (into_iter_items c.loop-outgoing.outgoing-iterator) c.loop-outgoing.link (none_left c.loop-outgoing.outgoing-iterator c.in-None.ensures.steps.0) c.loop-outgoing.invariant
