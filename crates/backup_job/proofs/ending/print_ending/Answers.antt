use Rattle.backup_job.proofs.Reading.{as_err, as_ok}
use Rattle.backup_job.specs.Printed.{memory_text}
use Rattle.ens_base.specs.declared.status.Status.TheVariants as status
use Rattle.backup_job.proofs.ending.print_ending.Goals as goal

pub returns-in-Ok-clause-prefix : goal.returns-in-Ok-clause-prefix
returns-in-Ok-clause-prefix g c = λ fault. (c.in-Ok.ending.status, c.as_str.result.now, as_ok c.args.ending c.in-Ok.ending c.as_str.result.now c.in-Ok.is c.as_str.ensures.value, c.finish.ensures.prefix fault)

pub returns-in-Err-clause-prefix : goal.returns-in-Err-clause-prefix
returns-in-Err-clause-prefix g c = λ fault. (status.Memory, memory_text, as_err c.args.ending c.in-Err.field-0 c.in-Err.is, c.finish-in-Err.ensures.prefix fault)
