use Rattle.role_laws.proofs.Runs.{run_leaders}
use Rattle.role_laws.proofs.leaders.leaders_move.Goals as goal

pub returns : goal.returns
returns c = run_leaders
