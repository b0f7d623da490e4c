use Rattle.role_laws.proofs.Rows.{run_replies, run_starts}
use Rattle.role_laws.proofs.leaders.replies_move.Goals as goal

pub returns-clause-starts : goal.returns-clause-starts
returns-clause-starts c = run_starts

pub returns-clause-replies : goal.returns-clause-replies
returns-clause-replies c = run_replies
