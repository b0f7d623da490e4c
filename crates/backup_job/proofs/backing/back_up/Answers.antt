use Rattle.std.proofs.Common.{refl}
use Rattle.backup_job.proofs.Remaining.{backs_err, backs_logs}
use Rattle.backup_job.proofs.backing.back_up.Goals as goal

pub returns-in-Ok : goal.returns-in-Ok
returns-in-Ok g c =
    backs_logs g.D.Disk.seen g.D.Disk.fault_count c.args.logs.now (record { tree = c.take_shape.new.tree; backend = c.args.logs.now.backend }) (record { tree = c.backup.new.tree; backend = c.backup.new.backend }) (record {}) c.backup.new.hasher c.backup.result c.in-Ok.ensures refl c.backup.ensures.did c.backup.ensures.failed

pub returns-in-Err : goal.returns-in-Err
returns-in-Err g c = rw c.tree_error.ensures (backs_err g.D.Disk.seen g.D.Disk.fault_count c.args.logs.now (record { tree = c.take_shape.new.tree; backend = c.args.logs.now.backend }) c.in-Err.error c.in-Err.ensures refl)
