use Rattle.std.proofs.Common.{Err, Some, refl}
use Rattle.backup_job.specs.Disks.{Same}
use Rattle.backup_job.proofs.Holding.{reopened}
use Rattle.backup_job.proofs.Transporting.{changed, kept_objects, not_read}
use Rattle.tree_backup.specs.Causes.{of_tree}
use Rattle.backup_job.proofs.opening.open.Goals as goal

pub returns-in-Err-clause-refused : goal.returns-in-Err-clause-refused
returns-in-Err-clause-refused g c =
    rw c.tree_error.ensures
    (changed g.D.Disk.seen g.D.Disk.fault_count c.args.disks c.close.result c.in_ok-logs.logs (record { tree = c.reopen.new.self; backend = c.in_ok-logs.logs.backend }) (Some (of_tree c.in-Err.error)) Same Same c.in_ok-logs.ensures.opened
    (not_read g.D.Disk.seen g.D.Disk.fault_count c.in_ok-logs.logs (record { tree = c.reopen.new.self; backend = c.in_ok-logs.logs.backend }) c.in-Err.error c.reopen.new.self.top
    (reopened g.D.Disk.seen g.D.Disk.fault_count c.in_ok-logs.logs.tree.store c.reopen.new.self.store c.in_ok-logs.logs.tree.top c.reopen.new.self.top (Err c.in-Err.error) c.in-Err.ensures.did) refl) c.close.ensures)

pub returns-in-Err-clause-objects : goal.returns-in-Err-clause-objects
returns-in-Err-clause-objects g c =
    kept_objects g.D.Disk.seen g.D.Disk.fault_count c.args.disks c.close.result c.in_ok-logs.logs (record { tree = c.reopen.new.self; backend = c.in_ok-logs.logs.backend }) c.in_ok-logs.ensures.opened refl c.close.ensures
