use Rattle.protocol_witness.proofs.Guards.{acceptance_matters, ballot_matters, promises_matter, quorum_matters, old_view_matters}
use Rattle.protocol_witness.proofs.witness.each_guard_matters.Goals as goal

pub returns-clause-acceptance : goal.returns-clause-acceptance
returns-clause-acceptance c = acceptance_matters

pub returns-clause-ballot : goal.returns-clause-ballot
returns-clause-ballot c = ballot_matters

pub returns-clause-promises : goal.returns-clause-promises
returns-clause-promises c = promises_matter

pub returns-clause-quorum : goal.returns-clause-quorum
returns-clause-quorum c = quorum_matters

pub returns-clause-old_view : goal.returns-clause-old_view
returns-clause-old_view c = old_view_matters
