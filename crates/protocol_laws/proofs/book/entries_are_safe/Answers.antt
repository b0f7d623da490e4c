use Rattle.protocol_laws.proofs.Replies.{run_entries}
use Rattle.protocol_laws.proofs.book.entries_are_safe.Goals as goal

pub returns : goal.returns
returns c = run_entries
