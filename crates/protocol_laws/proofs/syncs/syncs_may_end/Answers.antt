use Rattle.protocol_laws.proofs.Sources.{synced_by, synced_by_solid}
use Rattle.protocol_laws.proofs.syncs.syncs_may_end.Goals as goal

pub returns-clause-majority : goal.returns-clause-majority
returns-clause-majority c = synced_by

pub returns-clause-full_view : goal.returns-clause-full_view
returns-clause-full_view c = synced_by_solid
