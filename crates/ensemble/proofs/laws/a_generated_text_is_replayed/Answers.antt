use Rattle.ensemble.proofs.Generated.{generated_replayed, generated_summed}
use Rattle.ensemble.proofs.laws.a_generated_text_is_replayed.Goals as goal

pub returns-clause-replay : goal.returns-clause-replay
returns-clause-replay c = generated_replayed

pub returns-clause-summary : goal.returns-clause-summary
returns-clause-summary c = generated_summed
