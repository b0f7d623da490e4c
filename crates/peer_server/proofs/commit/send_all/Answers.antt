use Rattle.std.specs.Vec.Iter.{into_iter_items}
use Rattle.peer_turns.proofs.Prefixes.{none_left, passed_on}
use Rattle.peer_server.proofs.Unsent.{next_is_sendable, sends, sends_next, sends_no_more, sent_to_the_end}
use Rattle.peer_server.specs.Lines.{frames_waiting}
use Rattle.peer_server.proofs.commit.send_all.Goals as goal

pub loop-out-init : goal.loop-out-init
loop-out-init g c = sends g.L.Link.sent g.L.Link.given g.L.Link.fault_count c.args.me c.args.unsent.items c.args.link.now (into_iter_items c.into_iter-out-iterator.result) c.into_iter-out-iterator.ensures.into_iter_gives.0 c.requires.sendable

pub send_out-requires-clause-may : goal.send_out-requires-clause-may
send_out-requires-clause-may g c =
    (next_is_sendable g.L.Link.sent g.L.Link.given g.L.Link.fault_count c.args.me c.args.unsent.items c.args.link.now (into_iter_items c.loop-out.out-iterator) c.in-Some.out (into_iter_items c.next.new.self) c.loop-out.link c.in-Some.ensures.steps.0 c.loop-out.invariant).0

pub send_out-requires-clause-clients : goal.send_out-requires-clause-clients
send_out-requires-clause-clients g c =
    (next_is_sendable g.L.Link.sent g.L.Link.given g.L.Link.fault_count c.args.me c.args.unsent.items c.args.link.now (into_iter_items c.loop-out.out-iterator) c.in-Some.out (into_iter_items c.next.new.self) c.loop-out.link c.in-Some.ensures.steps.0 c.loop-out.invariant).1

pub loop-out-preserved : goal.loop-out-preserved
loop-out-preserved g c =
    sends_next g.L.Link.sent g.L.Link.given g.L.Link.fault_count c.args.me c.args.unsent.items c.args.link.now (into_iter_items c.loop-out.out-iterator) c.in-Some.out (into_iter_items c.next.new.self) c.loop-out.link c.send_out.new.link c.in-Some.ensures.steps.0 c.loop-out.invariant c.in_ok-send_out.ensures

pub returns-in_err-send_out : goal.returns-in_err-send_out
returns-in_err-send_out g c =
    passed_on g.L.Link.sent g.L.Link.given g.L.Link.fault_count (frames_waiting c.args.me c.args.unsent.items) c.args.link.now c.send_out.new.link c.in_err-send_out.field-0.0 c.from_residual.result _ c.from_residual.ensures.1 (λ d same. same)
    (sends_no_more g.L.Link.sent g.L.Link.given g.L.Link.fault_count c.args.me c.args.unsent.items c.args.link.now c.in_err-send_out.field-0.0 (into_iter_items c.loop-out.out-iterator) c.in-Some.out (into_iter_items c.next.new.self) c.loop-out.link c.send_out.new.link c.in-Some.ensures.steps.0 c.loop-out.invariant c.in_err-send_out.ensures)

pub returns : goal.returns
returns g c = sent_to_the_end g.L.Link.sent g.L.Link.given g.L.Link.fault_count c.args.me c.args.unsent.items c.args.link.now (into_iter_items c.loop-out.out-iterator) c.loop-out.link (none_left c.loop-out.out-iterator c.in-None.ensures.steps.0) c.loop-out.invariant
