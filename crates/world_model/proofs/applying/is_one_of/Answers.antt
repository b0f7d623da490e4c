use Rattle.std.proofs.Common.{rules}
use Rattle.quorums.proofs.Memberships.{in_is}
use Rattle.world_model.proofs.applying.is_one_of.Goals as goal

pub returns : goal.returns
returns c = in_is c.args.members.now c.args.peer _ (search rules)
