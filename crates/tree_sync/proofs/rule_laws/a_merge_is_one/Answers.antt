use Rattle.tree_sync.proofs.Contents.{merge, only_one}
use Rattle.tree_sync.proofs.rule_laws.a_merge_is_one.Goals as goal

pub returns-clause-merge : goal.returns-clause-merge
returns-clause-merge c = merge

pub returns-clause-one : goal.returns-clause-one
returns-clause-one c = only_one
