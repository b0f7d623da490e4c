use Rattle.std.proofs.Common.{◌++◌, map}
use Rattle.peer_turns.specs.Deeds.{answer_frame, message_frame}
use Rattle.peer_turns.proofs.Prefixes.{broke_early, passed_on, sent_on}
use Rattle.peer_turns.proofs.sending.send_out.Goals as goal

pub returns-in_err-send_messages : goal.returns-in_err-send_messages
returns-in_err-send_messages g c =
    passed_on g.L.Link.sent g.L.Link.given g.L.Link.fault_count (map (message_frame c.args.me) c.args.out.sends.items ++ map (answer_frame c.args.me) c.args.out.answers.items) c.args.link.now c.send_messages.new.link c.in_err-send_messages.field-0.0 c.from_residual.result _ c.from_residual.ensures.1 (λ d same. same)
    (broke_early g.L.Link.sent g.L.Link.given g.L.Link.fault_count c.in_err-send_messages.field-0.0 c.args.link.now c.send_messages.new.link (map (message_frame c.args.me) c.args.out.sends.items) (map (answer_frame c.args.me) c.args.out.answers.items) c.in_err-send_messages.ensures)

pub returns : goal.returns
returns g c =
    sent_on g.L.Link.sent g.L.Link.given g.L.Link.fault_count c.args.link.now c.send_messages.new.link c.send_answers.new.link (map (message_frame c.args.me) c.args.out.sends.items) (map (answer_frame c.args.me) c.args.out.answers.items) c.send_answers.result
    c.in_ok-send_messages.ensures c.send_answers.ensures
