use Rattle.step_laws.proofs.CallStarts.{starts_unknown, starts_absent, starts_stamp, starts_fetching, starts_value, starts_reading}
use Rattle.step_laws.proofs.starting.calls_start_by_what_is_settled.Goals as goal

pub returns-clause-unknown : goal.returns-clause-unknown
returns-clause-unknown c = starts_unknown

pub returns-clause-absent : goal.returns-clause-absent
returns-clause-absent c = starts_absent

pub returns-clause-stamp : goal.returns-clause-stamp
returns-clause-stamp c = starts_stamp

pub returns-clause-fetches : goal.returns-clause-fetches
returns-clause-fetches c = starts_fetching

pub returns-clause-value : goal.returns-clause-value
returns-clause-value c = starts_value

pub returns-clause-other_value : goal.returns-clause-other_value
returns-clause-other_value c = starts_reading
