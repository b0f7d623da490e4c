use Rattle.root_laws.proofs.Histories.{run_legal}
use Rattle.root_laws.proofs.laws.root_runs_are_legal.Goals as goal

pub returns : goal.returns
returns c = λ worlds s script stories. run_legal worlds s script stories
