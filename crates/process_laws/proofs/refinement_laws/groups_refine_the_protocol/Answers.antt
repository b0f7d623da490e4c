use Rattle.process_laws.proofs.Groups.{group_runs}
use Rattle.process_laws.proofs.refinement_laws.groups_refine_the_protocol.Goals as goal

pub returns : goal.returns
returns c = group_runs
