use Rattle.backup_job.proofs.backing.print_backup.Goals as goal

pub returns-clause-printed : goal.returns-clause-printed
returns-clause-printed g c = λ wrote.
    let p = c.print_made.ensures.printed wrote in
    (p.0, (c.take-disks.result, c.make-made.result.disks, c.take-disks.ensures, c.put.ensures, record { made = c.make-made.result.made; backs = c.make-made.ensures; ends = p.1 }), p.2)

pub returns-clause-prefix : goal.returns-clause-prefix
returns-clause-prefix g c = λ fault.
    let f = c.print_made.ensures.prefix fault in
    (f.0, f.1, (c.take-disks.result, c.make-made.result.disks, c.take-disks.ensures, c.put.ensures, record { made = c.make-made.result.made; backs = c.make-made.ensures; ends = f.2 }), f.3)
