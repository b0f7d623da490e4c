use Rattle.std.proofs.Common.{refl}
use Rattle.cluster.proofs.Recorded.{follows_run}
use Rattle.cluster.proofs.laws.a_recording_is_a_run.Goals as goal

pub returns-clause-first : goal.returns-clause-first
returns-clause-first c = λ peers view. refl

pub returns-clause-follows : goal.returns-clause-follows
returns-clause-follows c = follows_run
