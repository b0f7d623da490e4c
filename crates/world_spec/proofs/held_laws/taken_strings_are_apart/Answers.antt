use Rattle.world_spec.proofs.Taken.{are_apart}
use Rattle.world_spec.proofs.held_laws.taken_strings_are_apart.Goals as goal

pub returns : goal.returns
returns c = are_apart
