use Rattle.process_laws.proofs.Joining.{keep_time, linearizable}
use Rattle.process_laws.proofs.group_laws.processes_are_linearizable.Goals as goal

pub returns-clause-legal : goal.returns-clause-legal
returns-clause-legal g c = linearizable g.D.Disk.seen g.D.Disk.fault_count

pub returns-clause-in_time : goal.returns-clause-in_time
returns-clause-in_time g c = keep_time g.D.Disk.seen g.D.Disk.fault_count
