use Rattle.register_model.specs.Orders.{rank, rank_or_none}
use Rattle.history_scribe.proofs.Chains.{lower_is}
use Rattle.history_scribe.proofs.Ranks.{rank_positive}
use Rattle.history_scribe.proofs.told.Told.parent_of.Goals as goal

pub returns-clause-below : goal.returns-clause-below
returns-clause-below c = rw c.below.ensures (lower_is (rank_or_none c.in_ok-get.field-0.now.parent) (rank c.args.version) (rank_positive c.args.version))

pub returns-in_err-get-clause-below : goal.returns-in_err-get-clause-below
returns-in_err-get-clause-below c = rw c.from_residual.ensures (rank_positive c.args.version)
