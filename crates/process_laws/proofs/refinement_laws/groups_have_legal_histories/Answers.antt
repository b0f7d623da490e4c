use Rattle.process_laws.proofs.Groups.{group_legal}
use Rattle.process_laws.proofs.RealTime.{group_in_time}
use Rattle.process_laws.proofs.refinement_laws.groups_have_legal_histories.Goals as goal

pub returns-clause-legal : goal.returns-clause-legal
returns-clause-legal c = group_legal

pub returns-clause-in_time : goal.returns-clause-in_time
returns-clause-in_time c = group_in_time
