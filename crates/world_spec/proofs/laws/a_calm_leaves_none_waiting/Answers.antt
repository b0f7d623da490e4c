use Rattle.world_spec.proofs.Calming.{calm_ends, calm_among_ends}
use Rattle.world_spec.proofs.laws.a_calm_leaves_none_waiting.Goals as goal

pub returns : goal.returns
returns c = record { all = calm_ends; some = calm_among_ends }
