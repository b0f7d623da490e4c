use Rattle.protocol_laws.proofs.Legal.{run_legal}
use Rattle.protocol_laws.proofs.histories.histories_are_legal.Goals as goal

pub returns : goal.returns
returns c = run_legal
