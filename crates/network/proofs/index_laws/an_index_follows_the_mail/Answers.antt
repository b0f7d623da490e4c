use Rattle.std.proofs.Common.{refl}
use Rattle.network.proofs.IndexNumbers.{first_waits, posted_waits, settled_waits}
use Rattle.network.proofs.index_laws.an_index_follows_the_mail.Goals as goal

pub returns-clause-none : goal.returns-clause-none
returns-clause-none c = λ bytes. refl

pub returns-clause-first : goal.returns-clause-first
returns-clause-first c = first_waits

pub returns-clause-posted : goal.returns-clause-posted
returns-clause-posted c = posted_waits

pub returns-clause-settled : goal.returns-clause-settled
returns-clause-settled c = settled_waits
