use Rattle.std.proofs.Common.{sym, ◌∙◌}
use Rattle.disk_stores.proofs.Scanning.{told_also, told_at, stay_at, ends_some}
use Rattle.disk_stores.proofs.scan.next_record.Goals as goal

pub returns-in-Ok-true-clause-next : goal.returns-in-Ok-true-clause-next
returns-in-Ok-true-clause-next g c =
    told_also (g.D.Disk.seen c.args.disk.now)
    (λ file is announced size le.
    ends_some file c.args.at c.in-Some.found (announced size le)
    (sym c.in-Ok-true.field-0-test ∙ told_at _ (g.D.Disk.seen c.announced.new.disk) file (stay_at (g.D.Disk.seen c.args.disk.now) (g.D.Disk.seen c.announced.new.disk) file is c.announced.ensures.seen) c.in-Ok-true.ensures.ended))
    (rw c.in-Some.is at c.in_ok-found.ensures.announced)
