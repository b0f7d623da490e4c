use Rattle.role_laws.proofs.Runs.{run_keys, run_rows}
use Rattle.role_laws.proofs.leaders.rows_move.Goals as goal

pub returns-clause-keys : goal.returns-clause-keys
returns-clause-keys c = run_keys

pub returns-clause-rows : goal.returns-clause-rows
returns-clause-rows c = run_rows
