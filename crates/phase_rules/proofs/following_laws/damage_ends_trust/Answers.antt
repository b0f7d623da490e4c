use Rattle.phase_rules.specs.Refusals.{refusal}
use Rattle.phase_rules.specs.Requests.{puts}
use Rattle.phase_rules.proofs.Distrust.{puts_distrust, refusals_keep, unless_distrust}
use Rattle.phase_rules.proofs.following_laws.damage_ends_trust.Goals as goal

pub returns-clause-written : goal.returns-clause-written
returns-clause-written c = λ fact trusted from ballot object seen. unless_distrust (refusal fact trusted from ballot) (puts from ballot object seen) (refusals_keep fact trusted from ballot) (puts_distrust from ballot object seen)
