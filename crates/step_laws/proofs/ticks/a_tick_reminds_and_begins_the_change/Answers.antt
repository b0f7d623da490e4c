use Rattle.step_laws.proofs.StepTelling.{tick_begins, tick_tells}
use Rattle.step_laws.proofs.ticks.a_tick_reminds_and_begins_the_change.Goals as goal

pub returns-clause-reminds : goal.returns-clause-reminds
returns-clause-reminds c = tick_tells

pub returns-clause-begins : goal.returns-clause-begins
returns-clause-begins c = tick_begins
