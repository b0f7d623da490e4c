use Rattle.step_laws.proofs.Bounds.{reached_whole}
use Rattle.step_laws.proofs.laws.tables_are_whole_between_steps.Goals as goal

pub returns : goal.returns
returns c = reached_whole
