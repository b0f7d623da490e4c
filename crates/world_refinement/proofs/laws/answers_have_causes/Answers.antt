use Rattle.world_refinement.proofs.ScheduleLaws.{schedules_have_causes}
use Rattle.world_refinement.proofs.laws.answers_have_causes.Goals as goal

pub returns : goal.returns
returns c = schedules_have_causes
