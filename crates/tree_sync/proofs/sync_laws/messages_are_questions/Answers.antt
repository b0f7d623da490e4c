use Rattle.tree_sync.proofs.Messages.{start_ask, resume_ask, take_ask}
use Rattle.tree_sync.proofs.sync_laws.messages_are_questions.Goals as goal

pub returns-clause-start : goal.returns-clause-start
returns-clause-start c = start_ask

pub returns-clause-resume : goal.returns-clause-resume
returns-clause-resume c = resume_ask

pub returns-clause-take : goal.returns-clause-take
returns-clause-take c = take_ask
