use Rattle.std.proofs.Common.{map}
use Rattle.std.specs.Vec.Iter.{into_iter_items}
use Rattle.peer_turns.proofs.Prefixes.{IsToClient, begun, broke, goes_on, next_may, none_left, passed_on, went_all}
use Rattle.peer_turns.specs.Deeds.{answer_frame}
use Rattle.peer_turns.proofs.sending.send_answers.Goals as goal

pub loop-answer-init : goal.loop-answer-init
loop-answer-init g c = begun g.L.Link.sent g.L.Link.given g.L.Link.fault_count (answer_frame c.args.me) (IsToClient) c.args.answers.items c.args.link.now (into_iter_items c.into_iter-answer-iterator.result) c.into_iter-answer-iterator.ensures.into_iter_gives.0 c.requires.clients

pub send_answer-requires-clause-client : goal.send_answer-requires-clause-client
send_answer-requires-clause-client g c = next_may g.L.Link.sent g.L.Link.given g.L.Link.fault_count (answer_frame c.args.me) (IsToClient) c.args.answers.items c.args.link.now (into_iter_items c.loop-answer.answer-iterator) c.in-Some.answer (into_iter_items c.next.new.self) c.loop-answer.link c.in-Some.ensures.steps.0 c.loop-answer.invariant

pub loop-answer-preserved : goal.loop-answer-preserved
loop-answer-preserved g c =
    goes_on g.L.Link.sent g.L.Link.given g.L.Link.fault_count (answer_frame c.args.me) (IsToClient) c.args.answers.items c.args.link.now (into_iter_items c.loop-answer.answer-iterator) c.in-Some.answer (into_iter_items c.next.new.self) c.loop-answer.link c.send_answer.new.link c.in-Some.ensures.steps.0 c.loop-answer.invariant c.in_ok-send_answer.ensures

pub returns-in_err-send_answer : goal.returns-in_err-send_answer
returns-in_err-send_answer g c =
    passed_on g.L.Link.sent g.L.Link.given g.L.Link.fault_count (map (answer_frame c.args.me) c.args.answers.items) c.args.link.now c.send_answer.new.link c.in_err-send_answer.field-0.0 c.from_residual.result _ c.from_residual.ensures.1 (λ d same. same)
    (broke g.L.Link.sent g.L.Link.given g.L.Link.fault_count (answer_frame c.args.me) (IsToClient) c.args.answers.items c.args.link.now c.in_err-send_answer.field-0.0 (into_iter_items c.loop-answer.answer-iterator) c.in-Some.answer (into_iter_items c.next.new.self) c.loop-answer.link c.send_answer.new.link c.in-Some.ensures.steps.0 c.loop-answer.invariant c.in_err-send_answer.ensures)

pub returns : goal.returns
returns g c = went_all g.L.Link.sent g.L.Link.given g.L.Link.fault_count (answer_frame c.args.me) (IsToClient) c.args.answers.items c.args.link.now (into_iter_items c.loop-answer.answer-iterator) c.loop-answer.link (none_left c.loop-answer.answer-iterator c.in-None.ensures.steps.0) c.loop-answer.invariant
