use Rattle.step_laws.proofs.KeepsWhole.{rule_so, got_so, checked_reply_so, put_reply_so}
use Rattle.step_laws.proofs.wholeness.replies_come_with_their_notes.Goals as goal

pub returns-clause-key : goal.returns-clause-key
returns-clause-key c = λ n key seen l whole clear. (rule_so key seen l whole clear n).given

pub returns-clause-got : goal.returns-clause-got
returns-clause-got c = λ from ballot round key entry object l whole. (got_so from ballot round key entry object l whole).given

pub returns-clause-checked : goal.returns-clause-checked
returns-clause-checked c = λ from ballot round l whole. (checked_reply_so from ballot round l whole).1.given

pub returns-clause-put : goal.returns-clause-put
returns-clause-put c = λ from ballot key version l whole. (put_reply_so from ballot key version l whole).given
