use Rattle.ens_base.specs.Views.{last_view}
use Rattle.tree_sync.proofs.Others.{asks_are, resumed_are, taken_are}
use Rattle.tree_sync.proofs.sync_laws.syncs_ask_others.Goals as goal

pub returns-clause-start : goal.returns-clause-start
returns-clause-start c = λ fact me trusted scan. asks_are me (last_view fact.views)

pub returns-clause-resume : goal.returns-clause-resume
returns-clause-resume c = resumed_are

pub returns-clause-take : goal.returns-clause-take
returns-clause-take c = taken_are
