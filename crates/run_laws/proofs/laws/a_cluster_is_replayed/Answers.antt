use Rattle.run_laws.proofs.Clusters.{is_replayed}
use Rattle.run_laws.proofs.laws.a_cluster_is_replayed.Goals as goal

pub returns : goal.returns
returns c = is_replayed
