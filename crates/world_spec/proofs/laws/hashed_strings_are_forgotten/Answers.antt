use Rattle.world_spec.proofs.Prefixes.{applied_prefix}
use Rattle.world_spec.proofs.laws.hashed_strings_are_forgotten.Goals as goal

pub returns : goal.returns
returns c = applied_prefix
