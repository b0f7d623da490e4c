use Rattle.process_laws.proofs.Lone.{lost_breaks, older_breaks, second_breaks, unsent_breaks}
use Rattle.process_laws.proofs.life_laws.group_premises_can_be_broken.Goals as goal

pub returns-clause-unsent : goal.returns-clause-unsent
returns-clause-unsent c = unsent_breaks

pub returns-clause-second : goal.returns-clause-second
returns-clause-second c = second_breaks

pub returns-clause-lost : goal.returns-clause-lost
returns-clause-lost c = lost_breaks

pub returns-clause-older : goal.returns-clause-older
returns-clause-older c = older_breaks
