use Rattle.backup_job.proofs.Transporting.{made}
use Rattle.backup_job.proofs.backing.make.Goals as goal

pub returns : goal.returns
returns g c = made g.D.Disk.seen g.D.Disk.fault_count c.args.disks c.close.result c.in-Ok.logs c.back_up-made.new.logs c.back_up-made.result c.in-Ok.ensures.opened c.back_up-made.ensures c.close.ensures
