use Rattle.std.proofs.Common.{◌+◌, List, subst}
use Rattle.std.proofs.lemmas.List.Elements.{All-drop, All-take}
use Rattle.network.specs.Mail.{MayBeSent}
use Rattle.wire_frames.specs.declared.frame.Frame.{Frame}
use Rattle.cluster.specs.Sending.{HandsOn}
use Rattle.cluster.proofs.Handing.{rest_few, rest_is}
use Rattle.cluster.proofs.recorder.Recorder.hand_over.Goals as goal

pub hand_on-requires-clause-may : goal.hand_on-requires-clause-may
hand_on-requires-clause-may g c = All-take MayBeSent _ _ (All-drop MayBeSent c.args.before c.sent.result.now c.sent.ensures.may)

pub hand_on-requires-clause-few : goal.hand_on-requires-clause-few
hand_on-requires-clause-few g c = rest_few c.args.before c.sent.result.now _ c.sent.ensures.sent c.requires c.args.self.now.world.within

pub returns-clause-hands : goal.returns-clause-hands
returns-clause-hands g c =
    subst (λ (fs : List Frame). HandsOn g.L.Link.sent g.L.Link.given g.L.Link.fault_count fs (c.args.before + 1) c.args.link.now c.args.self.now.index c.hand_on.result c.hand_on.new.index c.hand_on.new.link) (rest_is c.args.before c.sent.result.now _ c.sent.ensures.sent) c.hand_on.ensures
