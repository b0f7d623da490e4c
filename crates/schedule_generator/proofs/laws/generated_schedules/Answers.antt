use Rattle.schedule_generator.proofs.Calls.{generated_forward, generated_ids, generated_length, generated_valid}
use Rattle.schedule_text.proofs.SchedulesAgain.{schedule_of-text}
use Rattle.schedule_generator.specs.Generated.{generate}
use Rattle.schedule_generator.proofs.laws.generated_schedules.Goals as goal

pub returns-clause-schedule : goal.returns-clause-schedule
returns-clause-schedule c = generated_valid

pub returns-clause-again : goal.returns-clause-again
returns-clause-again c number calls few = schedule_of-text (generate number calls) (generated_valid number calls few)

pub returns-clause-ids : goal.returns-clause-ids
returns-clause-ids c = generated_ids

pub returns-clause-events : goal.returns-clause-events
returns-clause-events c = generated_length

pub returns-clause-forward : goal.returns-clause-forward
returns-clause-forward c = generated_forward
