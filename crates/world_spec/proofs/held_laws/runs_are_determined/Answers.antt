use Rattle.world_spec.proofs.HeldDetermined.{determined}
use Rattle.world_spec.proofs.held_laws.runs_are_determined.Goals as goal

pub returns : goal.returns
returns g c = determined
