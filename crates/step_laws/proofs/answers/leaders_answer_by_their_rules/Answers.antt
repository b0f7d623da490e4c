use Rattle.step_laws.proofs.Served.{message_answers, change_answers}
use Rattle.step_laws.proofs.ServedCalls.{call_answers}
use Rattle.step_laws.proofs.ServedTicks.{tick_answers}
use Rattle.step_laws.proofs.answers.leaders_answer_by_their_rules.Goals as goal

pub returns-clause-message : goal.returns-clause-message
returns-clause-message c = message_answers

pub returns-clause-change : goal.returns-clause-change
returns-clause-change c = change_answers

pub returns-clause-call : goal.returns-clause-call
returns-clause-call c = call_answers

pub returns-clause-tick : goal.returns-clause-tick
returns-clause-tick c = tick_answers
