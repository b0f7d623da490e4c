use Rattle.peer_turns.proofs.Steps.{callers_end}
use Rattle.peer_turns.proofs.turn_laws.answers_go_to_callers.Goals as goal

pub returns : goal.returns
returns c = callers_end
