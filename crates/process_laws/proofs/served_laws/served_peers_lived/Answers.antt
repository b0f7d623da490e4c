use Rattle.process_laws.proofs.Living.{lived}
use Rattle.process_laws.proofs.served_laws.served_peers_lived.Goals as goal

pub returns : goal.returns
returns g c = lived _ _ _ _ _ _ _ _ _
