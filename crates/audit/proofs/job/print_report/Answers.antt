use Rattle.std.proofs.Common.{refl, sym, subst}
use Rattle.ens_base.specs.declared.status.Status.{Status}
use Rattle.ens_base.specs.declared.status.Status.TheVariants as status
use Rattle.ens_base.proofs.Statuses.{memory_not_done, memory_no_fault}
use Rattle.audit.specs.Printed.{PrintsReport}
use Rattle.audit.proofs.Printing.{writes_no_fault}
use Rattle.audit.proofs.job.print_report.Goals as goal

pub write_ending-requires : goal.write_ending-requires
write_ending-requires g c = writes_no_fault _ c.in-Ok.audited.status _ c.in-Ok.ensures.printed

pub returns-in-Ok-clause-printed : goal.returns-in-Ok-clause-printed
returns-in-Ok-clause-printed g c = λ wrote.
    let w = c.write_ending.ensures.written wrote in
    (c.in-Ok.audited.text.items, subst (λ (s : Status). PrintsReport (g.S.Source.left c.args.input.now) s c.in-Ok.audited.text.items) (sym w.0) c.in-Ok.ensures.printed, w.1)

pub returns-in-Ok-clause-prefix : goal.returns-in-Ok-clause-prefix
returns-in-Ok-clause-prefix g c = λ fault. (c.in-Ok.audited.status, c.in-Ok.audited.text.items, c.in-Ok.ensures.printed, c.in-Ok.ensures.end, c.in-Ok.ensures.read, c.in-Ok.ensures.cut, c.write_ending.ensures.prefix fault)

pub returns-in-Err-clause-prefix : goal.returns-in-Err-clause-prefix
returns-in-Err-clause-prefix g c = λ fault. (status.Memory, _, refl, (λ is. absurd (memory_not_done is)), (λ is. absurd (memory_no_fault is)), (λ is. absurd (memory_no_fault is)), c.finish.ensures.prefix fault)
