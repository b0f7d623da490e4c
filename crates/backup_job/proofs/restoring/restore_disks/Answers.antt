use Rattle.backup_job.proofs.Reading.{read_as, restored_as}
use Rattle.backup_job.proofs.restoring.restore_disks.Goals as goal

pub returns-clause-printed : goal.returns-clause-printed
returns-clause-printed g c = λ wrote.
    let p = c.print_ending.ensures.printed wrote in (
      p.0,
      (
        c.take-disks.result,
        c.read_and_write-ending.result.disks,
        c.take-disks.ensures,
        c.put.ensures,
        restored_as g.D.Disk.seen g.D.Disk.fault_count (g.S.Source.left c.args.input.now) c.take-disks.result c.read_and_write-ending.result.disks c.read_and_write-ending.result.ending c.print_ending.result p.0 c.read_and_write-ending.ensures.restored p.1,
      ),
      p.2,
    )

pub returns-clause-prefix : goal.returns-clause-prefix
returns-clause-prefix g c = λ fault.
    let f = c.print_ending.ensures.prefix fault in (
      f.0,
      f.1,
      (
        c.take-disks.result,
        c.read_and_write-ending.result.disks,
        c.take-disks.ensures,
        c.put.ensures,
        restored_as g.D.Disk.seen g.D.Disk.fault_count (g.S.Source.left c.args.input.now) c.take-disks.result c.read_and_write-ending.result.disks c.read_and_write-ending.result.ending f.0 f.1 c.read_and_write-ending.ensures.restored f.2,
      ),
      read_as c.read_and_write-ending.result.ending _ _ _ _ f.0 f.1 c.read_and_write-ending.ensures.taken c.read_and_write-ending.ensures.end c.read_and_write-ending.ensures.read c.read_and_write-ending.ensures.cut f.2,
      f.3,
    )

pub returns-clause-input : goal.returns-clause-input
returns-clause-input g c = λ wrote.
    let p = c.print_ending.ensures.printed wrote in
    read_as c.read_and_write-ending.result.ending _ _ _ _ c.print_ending.result p.0 c.read_and_write-ending.ensures.taken c.read_and_write-ending.ensures.end c.read_and_write-ending.ensures.read c.read_and_write-ending.ensures.cut p.1
