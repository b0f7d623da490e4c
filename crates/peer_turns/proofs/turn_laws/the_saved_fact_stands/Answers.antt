use Rattle.peer_turns.proofs.Steps.{fact_ends}
use Rattle.peer_turns.proofs.turn_laws.the_saved_fact_stands.Goals as goal

pub returns : goal.returns
returns c = fact_ends
