use Rattle.protocol_laws.proofs.Rising.{run_stays}
use Rattle.protocol_laws.proofs.elections.elections_stay.Goals as goal

pub returns : goal.returns
returns c = run_stays
