use Rattle.leader_laws.proofs.Idle.{lead_row_idle, row_29_reply_idle, row_33_reply_idle, row_35_reply_idle, row_5_idle}
use Rattle.leader_laws.proofs.laws.without_calls_nothing_happens.Goals as goal

pub returns-clause-key : goal.returns-clause-key
returns-clause-key c = λ n key seen l empty rest. lead_row_idle l empty rest.task n key seen

pub returns-clause-got : goal.returns-clause-got
returns-clause-got c = λ from ballot round key entry object l empty rest. row_29_reply_idle l empty rest.task rest.calm from ballot round key entry object

pub returns-clause-checked : goal.returns-clause-checked
returns-clause-checked c = λ from ballot round l empty rest. row_33_reply_idle l empty rest.task rest.calm from ballot round

pub returns-clause-put : goal.returns-clause-put
returns-clause-put c = λ from ballot key version l empty rest. row_35_reply_idle l empty rest.task rest.calm from ballot key version

pub returns-clause-tick : goal.returns-clause-tick
returns-clause-tick c = row_5_idle
