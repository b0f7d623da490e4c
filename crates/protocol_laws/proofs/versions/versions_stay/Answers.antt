use Rattle.protocol_laws.proofs.Stays.{run_versions_stay}
use Rattle.protocol_laws.proofs.versions.versions_stay.Goals as goal

pub returns : goal.returns
returns c = run_versions_stay
