use Rattle.leader_laws.proofs.Steps.{lead_step, row_29_reply_step, row_35_reply_step}
use Rattle.leader_laws.proofs.Joins.{row_27_joins}
use Rattle.leader_laws.proofs.laws.keys_are_apart.Goals as goal

pub returns-clause-key : goal.returns-clause-key
returns-clause-key c = λ n key seen l. (lead_step n key seen l).others

pub returns-clause-joined : goal.returns-clause-joined
returns-clause-joined c = λ from id key command finishing l. (row_27_joins from id key command finishing l).others

pub returns-clause-got : goal.returns-clause-got
returns-clause-got c = λ from ballot round key entry object l. (row_29_reply_step from ballot round key entry object l).others

pub returns-clause-put : goal.returns-clause-put
returns-clause-put c = λ from ballot key version l. (row_35_reply_step from ballot key version l).others
