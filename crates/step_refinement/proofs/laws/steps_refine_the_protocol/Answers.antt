use Rattle.step_refinement.proofs.AllEvents.{steps_good, calls_good}
use Rattle.step_refinement.proofs.laws.steps_refine_the_protocol.Goals as goal

pub returns-clause-event : goal.returns-clause-event
returns-clause-event c = steps_good

pub returns-clause-call : goal.returns-clause-call
returns-clause-call c = calls_good
