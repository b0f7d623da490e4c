use Rattle.tree_sync.proofs.Telling.{teller, trusted_has_finished}
use Rattle.tree_sync.proofs.rule_laws.sources_tell_what_most_hold.Goals as goal

pub returns-clause-told : goal.returns-clause-told
returns-clause-told c = teller

pub returns-clause-trusted : goal.returns-clause-trusted
returns-clause-trusted c = trusted_has_finished
