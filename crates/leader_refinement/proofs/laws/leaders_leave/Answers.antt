use Rattle.leader_refinement.proofs.Leaving.{run_leaves}
use Rattle.leader_refinement.proofs.laws.leaders_leave.Goals as goal

pub returns : goal.returns
returns c = run_leaves
