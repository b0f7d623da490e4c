use Rattle.step_laws.proofs.KeepsWhole.{rule_so, got_so, checked_reply_so, put_reply_so}
use Rattle.step_laws.proofs.WholeTicks.{new_whole, joined_so, tick_so}
use Rattle.step_laws.proofs.wholeness.tables_stay_whole.Goals as goal

pub returns-clause-new : goal.returns-clause-new
returns-clause-new c = new_whole

pub returns-clause-key : goal.returns-clause-key
returns-clause-key c = λ n key seen l whole clear. (rule_so key seen l whole clear n).stays

pub returns-clause-joined : goal.returns-clause-joined
returns-clause-joined c = joined_so

pub returns-clause-got : goal.returns-clause-got
returns-clause-got c = λ from ballot round key entry object l whole. (got_so from ballot round key entry object l whole).stays

pub returns-clause-checked : goal.returns-clause-checked
returns-clause-checked c = λ from ballot round l whole. ((checked_reply_so from ballot round l whole).0, (checked_reply_so from ballot round l whole).1.stays)

pub returns-clause-put : goal.returns-clause-put
returns-clause-put c = λ from ballot key version l whole. (put_reply_so from ballot key version l whole).stays

pub returns-clause-tick : goal.returns-clause-tick
returns-clause-tick c = tick_so
