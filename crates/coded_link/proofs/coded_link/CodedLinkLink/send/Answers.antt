use Rattle.std.proofs.Common.{◌≡◌, ◌∙◌}
use Rattle.frame_codes.specs.Seals.{sent_as}
use Rattle.coded_link.proofs.Sent.{opened_is_sent}
use Rattle.coded_link.proofs.coded_link.CodedLinkLink.send.Goals as goal

pub returns-clause-sent : goal.returns-clause-sent
returns-clause-sent g c =
    let sealed : c.deref.result.now ≡ sent_as c.args.self.now.keys c.args.frame.now = c.deref.ensures.value ∙ c.in_ok-sealed.ensures in
    opened_is_sent c.args.self.now.keys (g.L.Link.sent c.args.self.now.inner) (g.L.Link.sent c.send.new.self) c.args.to c.args.frame.now c.send.result (rw sealed at c.send.ensures.sent)
