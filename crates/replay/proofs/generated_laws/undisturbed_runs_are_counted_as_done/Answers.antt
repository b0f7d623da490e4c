use Rattle.replay.proofs.Counted.{completes_all}
use Rattle.replay.proofs.generated_laws.undisturbed_runs_are_counted_as_done.Goals as goal

pub returns : goal.returns
returns c = completes_all
