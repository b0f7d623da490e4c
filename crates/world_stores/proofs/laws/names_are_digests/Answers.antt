use Rattle.world_stores.proofs.Digests.{name_is_digest}
use Rattle.world_stores.proofs.laws.names_are_digests.Goals as goal

pub returns : goal.returns
returns c = name_is_digest
