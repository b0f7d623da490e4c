use Rattle.role_laws.proofs.Runs.{run_peers, run_tables}
use Rattle.role_laws.proofs.leaders.tables_stay.Goals as goal

pub returns-clause-stay : goal.returns-clause-stay
returns-clause-stay c = run_tables

pub returns-clause-peers : goal.returns-clause-peers
returns-clause-peers c = run_peers
