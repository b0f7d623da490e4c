use Rattle.role_laws.proofs.Rewrites.{has_rewritten}
use Rattle.role_laws.proofs.Witness.{has_led}
use Rattle.role_laws.proofs.leaders.moves_can_be_met.Goals as goal

pub returns-clause-led : goal.returns-clause-led
returns-clause-led c = has_led

pub returns-clause-rewritten : goal.returns-clause-rewritten
returns-clause-rewritten c = has_rewritten
