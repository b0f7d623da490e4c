use Rattle.step_laws.proofs.Bounds.{reached_rests}
use Rattle.step_laws.proofs.laws.peers_rest_between_steps.Goals as goal

pub returns : goal.returns
returns c = reached_rests
