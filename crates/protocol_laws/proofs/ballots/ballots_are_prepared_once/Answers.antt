use Rattle.protocol_laws.specs.Protocol.{state_after}
use Rattle.protocol_laws.proofs.Prepared.{prepared_alone, prepared_once}
use Rattle.protocol_laws.proofs.ballots.ballots_are_prepared_once.Goals as goal

pub returns-clause-alone : goal.returns-clause-alone
returns-clause-alone c = λ view steps step d run h. prepared_alone (state_after view steps).objects.ledger step d h

pub returns-clause-once : goal.returns-clause-once
returns-clause-once c = prepared_once
