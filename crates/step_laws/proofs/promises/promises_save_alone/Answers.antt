use Rattle.step_laws.proofs.Promising.{reached_saves}
use Rattle.step_laws.proofs.promises.promises_save_alone.Goals as goal

pub returns : goal.returns
returns c = reached_saves
