use Rattle.peer_spec.proofs.Fuel.{responded_left, concluded_left}
use Rattle.peer_spec.proofs.laws.nothing_is_left.Goals as goal

pub returns-clause-responded : goal.returns-clause-responded
returns-clause-responded c = responded_left

pub returns-clause-concluded : goal.returns-clause-concluded
returns-clause-concluded c = concluded_left
