use Rattle.schedule_text.proofs.Starts.{sealed_exactly, sealed_later}
use Rattle.schedule_text.proofs.laws.sealed_starts.Goals as goal

pub returns-clause-exact : goal.returns-clause-exact
returns-clause-exact c = sealed_exactly

pub returns-clause-later : goal.returns-clause-later
returns-clause-later c = sealed_later
