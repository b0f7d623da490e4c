use Rattle.step_laws.proofs.Answered.{waiting_kept, arrived_kept}
use Rattle.step_laws.proofs.answers.no_call_is_dropped.Goals as goal

pub returns-clause-waiting : goal.returns-clause-waiting
returns-clause-waiting c = waiting_kept

pub returns-clause-arrived : goal.returns-clause-arrived
returns-clause-arrived c = arrived_kept
