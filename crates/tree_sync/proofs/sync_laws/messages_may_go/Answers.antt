use Rattle.tree_sync.proofs.Messages.{start_go, resume_go, take_go}
use Rattle.tree_sync.proofs.sync_laws.messages_may_go.Goals as goal

pub returns-clause-start : goal.returns-clause-start
returns-clause-start c = start_go

pub returns-clause-resume : goal.returns-clause-resume
returns-clause-resume c = resume_go

pub returns-clause-take : goal.returns-clause-take
returns-clause-take c = take_go
