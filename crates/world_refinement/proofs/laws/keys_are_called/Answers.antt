use Rattle.step_refinement.proofs.CalledKeys.{run_keys_called, run_keys_few, run_ids_few, run_calls_few}
use Rattle.world_refinement.proofs.laws.keys_are_called.Goals as goal

pub returns-clause-called : goal.returns-clause-called
returns-clause-called c = run_keys_called

pub returns-clause-keys : goal.returns-clause-keys
returns-clause-keys c = run_keys_few

pub returns-clause-ids : goal.returns-clause-ids
returns-clause-ids c = run_ids_few

pub returns-clause-events : goal.returns-clause-events
returns-clause-events c = run_calls_few
