use Rattle.protocol_laws.proofs.Later.{stay_after, run_later}
use Rattle.protocol_laws.proofs.book.entries_stay.Goals as goal

pub returns-clause-stay : goal.returns-clause-stay
returns-clause-stay c = stay_after

pub returns-clause-later : goal.returns-clause-later
returns-clause-later c = run_later
