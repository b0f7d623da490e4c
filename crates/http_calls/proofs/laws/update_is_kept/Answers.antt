use Rattle.http_calls.proofs.Kept.{update_kept, reads_kept}
use Rattle.http_calls.proofs.laws.update_is_kept.Goals as goal

pub returns-clause-update : goal.returns-clause-update
returns-clause-update c = update_kept

pub returns-clause-reads : goal.returns-clause-reads
returns-clause-reads c = reads_kept
