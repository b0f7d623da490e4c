use Rattle.protocol_laws.proofs.Rising.{run_once}
use Rattle.protocol_laws.proofs.elections.two_leaders_of_an_epoch_are_one.Goals as goal

pub returns : goal.returns
returns c = run_once
