use Rattle.run_laws.proofs.Clusters.{is_audited}
use Rattle.run_laws.proofs.laws.a_cluster_is_well_recorded.Goals as goal

pub returns : goal.returns
returns c = is_audited
