use Rattle.std.proofs.Common.{refl}
use Rattle.ens_base.specs.declared.status.Status.TheVariants as Status
use Rattle.ens_base.proofs.Statuses.{memory_not_done, memory_no_fault}
use Rattle.trace.proofs.job.trace.Goals as goal

pub returns-in-Err-clause-prefix : goal.returns-in-Err-clause-prefix
returns-in-Err-clause-prefix g c = λ fault. (Status.Memory, _, refl, (λ is. absurd (memory_not_done is)), (λ is. absurd (memory_no_fault is)), c.finish-in-Err.ensures.prefix fault)
