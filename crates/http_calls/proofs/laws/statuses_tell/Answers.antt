use Rattle.http_calls.proofs.Statuses.{says, no_success, silence}
use Rattle.http_calls.proofs.laws.statuses_tell.Goals as goal

pub returns-clause-replies : goal.returns-clause-replies
returns-clause-replies c = says

pub returns-clause-problems : goal.returns-clause-problems
returns-clause-problems c = no_success

pub returns-clause-silence : goal.returns-clause-silence
returns-clause-silence c = silence
