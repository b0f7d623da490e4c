use Rattle.std.proofs.Common.{lit≤}
use Rattle.leader_laws.proofs.Steps.{lead_step, row_29_reply_step, row_33_reply_step, row_35_reply_step}
use Rattle.leader_laws.proofs.Sends.{ticks_may}
use Rattle.leader_laws.proofs.laws.messages_may_go.Goals as goal

pub returns-clause-key : goal.returns-clause-key
returns-clause-key c = λ n key seen l. (lead_step n key seen l).sends

pub returns-clause-got : goal.returns-clause-got
returns-clause-got c = λ from ballot round key entry object l. (row_29_reply_step from ballot round key entry object l).sends

pub returns-clause-checked : goal.returns-clause-checked
returns-clause-checked c = λ from ballot round l. (row_33_reply_step from ballot round l).1.sends

pub returns-clause-put : goal.returns-clause-put
returns-clause-put c = λ from ballot key version l. (row_35_reply_step from ballot key version l).sends

pub returns-clause-tick : goal.returns-clause-tick
returns-clause-tick c = λ finishing fact l. ticks_may finishing fact l 31 (lit≤ tt)
