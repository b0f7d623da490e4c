use Rattle.step_laws.proofs.Bounds.{reached_few}
use Rattle.step_laws.proofs.laws.unanswered_calls_came.Goals as goal

pub returns : goal.returns
returns c = reached_few
