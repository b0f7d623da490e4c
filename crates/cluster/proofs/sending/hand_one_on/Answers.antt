use Rattle.std.proofs.Common.{◌∷◌, [], ◌∙◌}
use Rattle.cluster.proofs.Handing.{handed_one, passed_on, unindexed, unsent, unspelled}
use Rattle.cluster.proofs.sending.hand_one_on.Goals as goal

pub returns-in_default : goal.returns-in_default
returns-in_default g c = unspelled g.L.Link.sent g.L.Link.given g.L.Link.fault_count c.args.frame.now c.args.link.now

pub returns-in_err-send : goal.returns-in_err-send
returns-in_err-send g c =
    passed_on g.L.Link.sent g.L.Link.given g.L.Link.fault_count (c.args.frame.now ∷ []) c.args.number c.args.link.now c.send.new.self c.args.index.now c.args.index.now c.in_err-send.field-0.0 c.from_residual.result _ c.from_residual.ensures.1 (λ d same. same)
    (unsent g.L.Link.sent g.L.Link.given g.L.Link.fault_count _ c.args.frame.now _ c.args.link.now c.send.new.self c.in_err-send.field-0.0 c.in_err-send.ensures.sent c.in_err-send.ensures.given c.in_err-send.ensures.counts)

pub returns-in_err-push : goal.returns-in_err-push
returns-in_err-push g c =
    passed_on g.L.Link.sent g.L.Link.given g.L.Link.fault_count (c.args.frame.now ∷ []) c.args.number c.args.link.now c.send.new.self c.args.index.now c.push.new.self _ c.from_residual-in_err-push.result _ c.from_residual-in_err-push.ensures.1 (λ d same. same)
    (unindexed g.L.Link.sent g.L.Link.given g.L.Link.fault_count c.args.frame.now _ c.args.link.now c.send.new.self _ (c.deref.ensures.value ∙ c.in-Ok.ensures.ok) c.in_ok-send.ensures.sent c.in_ok-send.ensures.given c.in_ok-send.ensures.counts)

pub returns : goal.returns
returns g c =
    handed_one g.L.Link.sent g.L.Link.given g.L.Link.fault_count c.args.frame.now c.deref.result.now c.new.result c.args.number c.args.link.now c.send.new.self c.args.index.now c.push.new.self _ (c.deref.ensures.value ∙ c.in-Ok.ensures.ok) (c.new.ensures ∙ c.in-Ok.ensures.ok)
    c.in_ok-send.ensures.sent c.in_ok-send.ensures.given c.in_ok-send.ensures.counts c.in_ok-push.ensures.ok
