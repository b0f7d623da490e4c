use Rattle.process_laws.proofs.Story.{two_answered, two_joined}
use Rattle.process_laws.proofs.group_laws.two_peers_may_complete_calls.Goals as goal

pub returns-clause-joined : goal.returns-clause-joined
returns-clause-joined c = two_joined

pub returns-clause-answers : goal.returns-clause-answers
returns-clause-answers c = two_answered
