use Rattle.backup_job.proofs.Transporting.{not_rewritten, rewritten}
use Rattle.backup_job.proofs.restoring.rewrite.Goals as goal

pub returns-in-Err : goal.returns-in-Err
returns-in-Err g c = not_rewritten g.D.Disk.seen g.D.Disk.fault_count c.args.content.now c.args.disks c.in-Err.refused.held c.in-Err.refused.error c.in-Err.ensures.outside c.in-Err.ensures.refused c.in-Err.ensures.objects

pub returns : goal.returns
returns g c =
    rewritten g.D.Disk.seen g.D.Disk.fault_count c.args.content.now c.args.disks c.close.result c.in-Ok.logs (record { tree = c.restore-result.new.tree; backend = c.restore-result.new.backend }) (record {}) c.restore-result.new.hasher c.restore-result.result c.requires.map c.in-Ok.ensures.opened c.restore-result.ensures.did c.restore-result.ensures.top
    c.restore-result.ensures.stands c.restore-result.ensures.failed c.close.ensures
