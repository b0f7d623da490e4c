use Rattle.process_laws.proofs.LoneGroup.{invented_breaks, lost_breaks, older_fails, second_breaks, unsent_breaks}
use Rattle.process_laws.proofs.group_laws.premises_can_be_broken.Goals as goal

pub returns-clause-unsent : goal.returns-clause-unsent
returns-clause-unsent g c = unsent_breaks g.D.Disk.seen g.D.Disk.fault_count

pub returns-clause-second : goal.returns-clause-second
returns-clause-second g c = second_breaks g.D.Disk.seen g.D.Disk.fault_count

pub returns-clause-lost : goal.returns-clause-lost
returns-clause-lost g c = lost_breaks

pub returns-clause-older : goal.returns-clause-older
returns-clause-older g c = older_fails g.D.Disk.seen g.D.Disk.fault_count

pub returns-clause-invented : goal.returns-clause-invented
returns-clause-invented g c = invented_breaks g.D.Disk.seen g.D.Disk.fault_count
