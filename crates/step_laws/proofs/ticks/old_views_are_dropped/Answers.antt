use Rattle.step_laws.proofs.Ticking.{drops_exactly, keeps_one, keeps_begun}
use Rattle.step_laws.proofs.ticks.old_views_are_dropped.Goals as goal

pub returns-clause-dropped : goal.returns-clause-dropped
returns-clause-dropped c = drops_exactly

pub returns-clause-kept : goal.returns-clause-kept
returns-clause-kept c = keeps_one

pub returns-clause-begun : goal.returns-clause-begun
returns-clause-begun c = keeps_begun
