use Rattle.step_laws.proofs.Completing.{check_replied, check_alone}
use Rattle.step_laws.proofs.quorum_ends.a_quorum_ends_a_check.Goals as goal

pub returns-clause-reply : goal.returns-clause-reply
returns-clause-reply c = check_replied

pub returns-clause-alone : goal.returns-clause-alone
returns-clause-alone c = check_alone
