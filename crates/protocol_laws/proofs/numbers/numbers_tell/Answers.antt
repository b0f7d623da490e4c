use Rattle.protocol_laws.proofs.Ranks.{epochs_ordered, versions_ordered, version_of-rank, rank-version_of, epoch_of-rank, version_within}
use Rattle.protocol_laws.proofs.numbers.numbers_tell.Goals as goal

pub returns-clause-epochs : goal.returns-clause-epochs
returns-clause-epochs c = epochs_ordered

pub returns-clause-versions : goal.returns-clause-versions
returns-clause-versions c = versions_ordered

pub returns-clause-version : goal.returns-clause-version
returns-clause-version c = version_of-rank

pub returns-clause-rank : goal.returns-clause-rank
returns-clause-rank c = rank-version_of

pub returns-clause-epoch : goal.returns-clause-epoch
returns-clause-epoch c = epoch_of-rank

pub returns-clause-within : goal.returns-clause-within
returns-clause-within c = version_within
