use Rattle.step_laws.proofs.Taken.{taken_exactly}
use Rattle.step_laws.proofs.changes.changes_are_taken_exactly.Goals as goal

pub returns : goal.returns
returns c = taken_exactly
