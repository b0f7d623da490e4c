use Rattle.protocol_witness.proofs.Steps.{shown}
use Rattle.protocol_witness.proofs.witness.guards_can_be_met.Goals as goal

pub returns : goal.returns
returns c = shown
