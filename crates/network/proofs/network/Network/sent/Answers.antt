use Rattle.std.proofs.Common.{subst}
use Rattle.network.specs.Mail.{IsMail}
use Rattle.network.proofs.network.Network.sent.Goals as goal

pub returns-clause-mail : goal.returns-clause-mail
returns-clause-mail c = subst IsMail c.self.view_is c.self.invariant.mail
