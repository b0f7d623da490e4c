use Rattle.peer_refinement.proofs.SyncStaying.{stays}
use Rattle.peer_refinement.proofs.sync_laws.syncs_stay.Goals as goal

pub returns : goal.returns
returns c = stays
