use Rattle.std.proofs.Common.{refl}
use Rattle.step_laws.proofs.CallStarts.{refused_busy, joined_waits}
use Rattle.step_laws.proofs.starting.calls_are_refused_or_wait.Goals as goal

pub returns-clause-unavailable : goal.returns-clause-unavailable
returns-clause-unavailable c = λ from id key command l. refl

pub returns-clause-busy : goal.returns-clause-busy
returns-clause-busy c = refused_busy

pub returns-clause-waits : goal.returns-clause-waits
returns-clause-waits c = joined_waits
