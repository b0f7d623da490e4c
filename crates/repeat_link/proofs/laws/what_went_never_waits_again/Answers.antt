use Rattle.repeat_link.proofs.Going.{never_again, acknowledged_goes}
use Rattle.repeat_link.proofs.laws.what_went_never_waits_again.Goals as goal

pub returns-clause-gone : goal.returns-clause-gone
returns-clause-gone c = never_again

pub returns-clause-acknowledged : goal.returns-clause-acknowledged
returns-clause-acknowledged c q = acknowledged_goes q.queued
