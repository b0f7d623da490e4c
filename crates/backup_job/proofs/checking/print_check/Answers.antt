use Rattle.backup_job.proofs.Reading.{checked_as, read_as}
use Rattle.backup_job.proofs.checking.print_check.Goals as goal

pub returns-clause-prefix : goal.returns-clause-prefix
returns-clause-prefix g c = λ fault.
    let f = c.print_ending.ensures.prefix fault in (
      f.0,
      f.1,
      checked_as c.check_ending-ending.result (g.S.Source.left c.args.input.now) f.0 f.1 c.check_ending-ending.ensures.printed f.2,
      read_as c.check_ending-ending.result _ _ _ _ f.0 f.1 c.check_ending-ending.ensures.taken c.check_ending-ending.ensures.end c.check_ending-ending.ensures.read c.check_ending-ending.ensures.cut f.2,
      f.3,
    )

pub returns-clause-input : goal.returns-clause-input
returns-clause-input g c = λ wrote.
    let p = c.print_ending.ensures.printed wrote in
    read_as c.check_ending-ending.result _ _ _ _ c.print_ending.result p.0 c.check_ending-ending.ensures.taken c.check_ending-ending.ensures.end c.check_ending-ending.ensures.read c.check_ending-ending.ensures.cut p.1
