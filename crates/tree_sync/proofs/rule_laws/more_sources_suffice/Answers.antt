use Rattle.tree_sync.proofs.Telling.{still_over}
use Rattle.tree_sync.proofs.rule_laws.more_sources_suffice.Goals as goal

pub returns : goal.returns
returns c = still_over
