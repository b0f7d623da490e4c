use Rattle.protocol_laws.proofs.Epochs.{run_elections}
use Rattle.protocol_laws.proofs.elections.elections_are_safe.Goals as goal

pub returns : goal.returns
returns c = run_elections
