use Rattle.step_laws.proofs.Answered.{stopped_times_out}
use Rattle.step_laws.proofs.answers.leaders_that_stop_answer_timeout.Goals as goal

pub returns : goal.returns
returns c = stopped_times_out
