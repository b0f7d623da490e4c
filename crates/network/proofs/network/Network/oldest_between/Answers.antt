use Rattle.std.proofs.Common.{◌≡◌, ap, arith, ◌∙◌}
use Rattle.network.specs.Lines.{line_place}
use Rattle.network.specs.Mail.{goes, oldest}
use Rattle.network.proofs.Oldest.{front_is_oldest}
use Rattle.network.proofs.MailLaws.{answer_is_sent}
use Rattle.network.proofs.Queued.{in_line}
use Rattle.network.proofs.network.Network.oldest_between.Goals as goal

pub returns-clause-oldest : goal.returns-clause-oldest
returns-clause-oldest c =
    let place : c.place.result ≡ line_place c.args.from c.args.to = grind (arith, c.place.ensures, c.from.view_is, c.to.view_is) in
    c.first.ensures
    ∙ front_is_oldest c.self.inside.sent.items c.self.inside.waiting.items c.self.inside.lines c.self.invariant.may (in_line c.self.inside.sent.items c.self.inside.waiting.items c.self.inside.lines c.self.invariant.queued) c.args.from c.args.to c.place.result c.requires place
    ∙ ap (oldest (goes c.args.from c.args.to)) c.self.view_is

pub returns-clause-sent : goal.returns-clause-sent
returns-clause-sent c = answer_is_sent (goes c.args.from c.args.to) c.args.self.now c.first.result (returns-clause-oldest c)
