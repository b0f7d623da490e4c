use Rattle.replay.proofs.Short.{undisturbed}
use Rattle.replay.proofs.generated_laws.short_generated_schedules_are_undisturbed.Goals as goal

pub returns : goal.returns
returns c = undisturbed
