use Rattle.world_spec.proofs.Sealing.{sealing_is}
use Rattle.world_spec.proofs.laws.starts_seal_by_the_lines.Goals as goal

pub returns : goal.returns
returns c = sealing_is
