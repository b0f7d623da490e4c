use Rattle.step_laws.proofs.Bounds.{none_left}
use Rattle.step_laws.proofs.laws.no_task_is_left.Goals as goal

pub returns : goal.returns
returns c = none_left
