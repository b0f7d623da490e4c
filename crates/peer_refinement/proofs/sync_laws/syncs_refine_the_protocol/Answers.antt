use Rattle.peer_refinement.proofs.Assembled.{laws}
use Rattle.peer_refinement.proofs.sync_laws.syncs_refine_the_protocol.Goals as goal

pub returns : goal.returns
returns c = laws
