use Rattle.protocol_laws.proofs.Trees.{run_versions}
use Rattle.protocol_laws.proofs.versions.versions_are_safe.Goals as goal

pub returns : goal.returns
returns c = run_versions
