use Rattle.tree_sync.proofs.Keeping.{fact_stays, scan_stays, stays_of_peer}
use Rattle.tree_sync.proofs.sync_laws.syncs_keep_their_fact.Goals as goal

pub returns-clause-take : goal.returns-clause-take
returns-clause-take c = fact_stays

pub returns-clause-scan : goal.returns-clause-scan
returns-clause-scan c = scan_stays

pub returns-clause-taken : goal.returns-clause-taken
returns-clause-taken c = stays_of_peer
