use Rattle.tree_sync.proofs.Same.{kept_exactly}
use Rattle.tree_sync.proofs.rule_laws.a_tree_is_kept_if_nothing_changes.Goals as goal

pub returns : goal.returns
returns c = kept_exactly
