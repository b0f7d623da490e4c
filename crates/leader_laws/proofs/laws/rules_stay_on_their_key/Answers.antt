use Rattle.leader_laws.proofs.Steps.{lead_step, row_29_reply_step, row_35_reply_step}
use Rattle.leader_laws.proofs.laws.rules_stay_on_their_key.Goals as goal

pub returns-clause-names : goal.returns-clause-names
returns-clause-names c = λ n key seen l. (lead_step n key seen l).names

pub returns-clause-asks : goal.returns-clause-asks
returns-clause-asks c = λ n key seen l. (lead_step n key seen l).asks

pub returns-clause-got : goal.returns-clause-got
returns-clause-got c = λ from ballot round key entry object l. (row_29_reply_step from ballot round key entry object l).names

pub returns-clause-put : goal.returns-clause-put
returns-clause-put c = λ from ballot key version l. (row_35_reply_step from ballot key version l).names
