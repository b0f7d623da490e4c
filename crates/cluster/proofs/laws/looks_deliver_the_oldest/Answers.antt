use Rattle.cluster.proofs.Recorded.{heard_none, heard_one}
use Rattle.cluster.proofs.laws.looks_deliver_the_oldest.Goals as goal

pub returns-clause-one : goal.returns-clause-one
returns-clause-one c = heard_one

pub returns-clause-none : goal.returns-clause-none
returns-clause-none c = heard_none
