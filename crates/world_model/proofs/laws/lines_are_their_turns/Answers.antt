use Rattle.world_model.proofs.Turning.{line_is_turns}
use Rattle.world_model.proofs.laws.lines_are_their_turns.Goals as goal

pub returns : goal.returns
returns c = line_is_turns
