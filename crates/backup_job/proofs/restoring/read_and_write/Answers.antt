use Rattle.backup_job.proofs.Reading.{not_restored, stopped_whole}
use Rattle.backup_job.proofs.restoring.read_and_write.Goals as goal

pub returns-in-Err-clause-restored : goal.returns-in-Err-clause-restored
returns-in-Err-clause-restored g c = not_restored g.D.Disk.seen g.D.Disk.fault_count (g.S.Source.left c.args.input.now) c.args.disks c.in-Err.error c.stopped.result c.in-Err.ensures.reads c.stopped.ensures

pub returns-in-Err-clause-end : goal.returns-in-Err-clause-end
returns-in-Err-clause-end g c = stopped_whole c.stopped.result _ c.in-Err.error c.stopped.ensures c.in-Err.ensures.whole
