use Rattle.process_laws.proofs.Joining.{one_group}
use Rattle.process_laws.proofs.group_laws.processes_are_one_group.Goals as goal

pub returns : goal.returns
returns g c = one_group g.D.Disk.seen g.D.Disk.fault_count
