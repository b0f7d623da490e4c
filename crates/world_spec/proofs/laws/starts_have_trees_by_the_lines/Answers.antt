use Rattle.world_spec.proofs.Deepening.{tree_is}
use Rattle.world_spec.proofs.laws.starts_have_trees_by_the_lines.Goals as goal

pub returns : goal.returns
returns c = tree_is
