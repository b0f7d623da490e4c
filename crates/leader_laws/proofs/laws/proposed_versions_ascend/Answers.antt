use Rattle.leader_laws.proofs.Steps.{lead_step, proposes_35}
use Rattle.leader_laws.proofs.laws.proposed_versions_ascend.Goals as goal

pub returns-clause-numbers : goal.returns-clause-numbers
returns-clause-numbers c = λ n key seen l. (lead_step n key seen l).numbers

pub returns-clause-proposed : goal.returns-clause-proposed
returns-clause-proposed c = λ key l ready. proposes_35 key l ready
