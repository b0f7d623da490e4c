use Rattle.std.proofs.Common.{refl}
use Rattle.ens_base.specs.declared.status.Status.TheVariants as Status
use Rattle.replay.proofs.Completing.{ended_as, memory_taken}
use Rattle.replay.proofs.job.replay_with.Goals as goal

pub returns-in-Err-clause-prefix : goal.returns-in-Err-clause-prefix
returns-in-Err-clause-prefix g c = λ fault. (Status.Memory, _, refl, memory_taken _ _ _ _ c.replay_ending.ensures.taken, c.finish-in-Err.ensures.prefix fault)

pub returns-in-Ok-clause-input : goal.returns-in-Ok-clause-input
returns-in-Ok-clause-input g c = λ wrote. ended_as _ _ _ _ _ _ (c.finish.ensures.written wrote).0 c.in-Ok.ensures.input

pub returns-in-Err-clause-input : goal.returns-in-Err-clause-input
returns-in-Err-clause-input g c = λ wrote. ended_as _ _ _ _ _ _ (c.finish-in-Err.ensures.written wrote).0 (memory_taken _ _ _ _ c.replay_ending.ensures.taken)
