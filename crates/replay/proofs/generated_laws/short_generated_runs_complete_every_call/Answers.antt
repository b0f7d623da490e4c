use Rattle.replay.proofs.Short.{completed, so_many}
use Rattle.replay.proofs.generated_laws.short_generated_runs_complete_every_call.Goals as goal

pub returns-clause-calls : goal.returns-clause-calls
returns-clause-calls c = so_many

pub returns-clause-completed : goal.returns-clause-completed
returns-clause-completed c = completed
