use Rattle.peer_spec.proofs.Passing.{steps_send, steps_own}
use Rattle.peer_spec.proofs.laws.messages_may_go.Goals as goal

pub returns-clause-sends : goal.returns-clause-sends
returns-clause-sends c = steps_send

pub returns-clause-own : goal.returns-clause-own
returns-clause-own c = steps_own
