use Rattle.std.proofs.Common.{rules}
use Rattle.quorums.proofs.Memberships.{in_is}
use Rattle.quorums.proofs.tally.is_in.Goals as goal

pub returns-clause-member : goal.returns-clause-member
returns-clause-member c = in_is c.args.view.now c.args.peer _ (search rules)
