use Rattle.leader_refinement.proofs.Leaving.{run_changes}
use Rattle.leader_refinement.proofs.Ticks.{seen_alike}
use Rattle.leader_refinement.proofs.laws.leaders_are_seen.Goals as goal

pub returns-clause-alike : goal.returns-clause-alike
returns-clause-alike c = seen_alike

pub returns-clause-keys : goal.returns-clause-keys
returns-clause-keys c = run_changes
