use Rattle.world_refinement.proofs.ScheduleLaws.{schedules_run}
use Rattle.world_refinement.proofs.laws.schedules_refine_the_protocol.Goals as goal

pub returns : goal.returns
returns c = schedules_run
