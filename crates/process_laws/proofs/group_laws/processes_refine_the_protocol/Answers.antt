use Rattle.process_laws.proofs.Joining.{refine}
use Rattle.process_laws.proofs.group_laws.processes_refine_the_protocol.Goals as goal

pub returns : goal.returns
returns g c = refine g.D.Disk.seen g.D.Disk.fault_count
