use Rattle.process_laws.proofs.Running.{run_as_maps}
use Rattle.process_laws.proofs.disk_laws.disks_run_as_maps.Goals as goal

pub returns : goal.returns
returns g c = run_as_maps _ _
