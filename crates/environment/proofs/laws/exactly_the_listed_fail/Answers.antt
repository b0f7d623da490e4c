use Rattle.environment.proofs.Listed.{listed_where_planned, planned_where_listed}
use Rattle.environment.proofs.laws.exactly_the_listed_fail.Goals as goal

pub returns : goal.returns
returns c call listed = (listed_where_planned call listed, planned_where_listed call listed)
