use Rattle.world_spec.proofs.Obeying.{run_may}
use Rattle.world_spec.proofs.laws.messages_obey.Goals as goal

pub returns : goal.returns
returns c = run_may
