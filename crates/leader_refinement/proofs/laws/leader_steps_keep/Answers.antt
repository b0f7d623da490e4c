use Rattle.leader_refinement.proofs.Steps.{steps_keep, acks_shown, fits_stay}
use Rattle.leader_refinement.proofs.laws.leader_steps_keep.Goals as goal

pub returns-clause-steps : goal.returns-clause-steps
returns-clause-steps c = steps_keep

pub returns-clause-acks : goal.returns-clause-acks
returns-clause-acks c = acks_shown

pub returns-clause-fits : goal.returns-clause-fits
returns-clause-fits c = fits_stay
