use Rattle.world_refinement.proofs.ScheduleLaws.{schedules_are_legal}
use Rattle.world_refinement.proofs.laws.schedules_have_legal_histories.Goals as goal

pub returns : goal.returns
returns c = schedules_are_legal
