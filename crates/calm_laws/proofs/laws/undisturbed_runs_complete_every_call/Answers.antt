use Rattle.calm_laws.proofs.Histories.{histories_in_order}
use Rattle.calm_laws.proofs.Schedules.{calls_complete}
use Rattle.calm_laws.proofs.laws.undisturbed_runs_complete_every_call.Goals as goal

pub returns-clause-completed : goal.returns-clause-completed
returns-clause-completed c = calls_complete

pub returns-clause-ordered : goal.returns-clause-ordered
returns-clause-ordered c = histories_in_order
