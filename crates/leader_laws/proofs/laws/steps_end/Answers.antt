use Rattle.leader_laws.proofs.Steps.{lead_step, row_29_reply_step, row_33_reply_step, row_35_reply_step}
use Rattle.leader_laws.proofs.Joins.{row_27_joins}
use Rattle.leader_laws.proofs.TimeOuts.{row_5_ticks}
use Rattle.leader_laws.proofs.laws.steps_end.Goals as goal

pub returns-clause-key : goal.returns-clause-key
returns-clause-key c = λ n key seen l. (lead_step n key seen l).lowers

pub returns-clause-joined : goal.returns-clause-joined
returns-clause-joined c = λ from id key command finishing l. (row_27_joins from id key command finishing l).lowers

pub returns-clause-got : goal.returns-clause-got
returns-clause-got c = λ from ballot round key entry object l. (row_29_reply_step from ballot round key entry object l).lowers

pub returns-clause-checked : goal.returns-clause-checked
returns-clause-checked c = λ from ballot round l. (row_33_reply_step from ballot round l).1.lowers

pub returns-clause-put : goal.returns-clause-put
returns-clause-put c = λ from ballot key version l. (row_35_reply_step from ballot key version l).lowers

pub returns-clause-tick : goal.returns-clause-tick
returns-clause-tick c = λ finishing l. (row_5_ticks finishing l).lowers
