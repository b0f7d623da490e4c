use Rattle.std.proofs.Common.{ap, ◌∙◌}
use Rattle.schedule_text.specs.Reading.{schedule_of}
use Rattle.schedule_text.proofs.SchedulesAgain.{schedule_of-text}
use Rattle.schedule_text.proofs.writing.write_schedule.Goals as goal

pub returns-in-Ok-clause-again : goal.returns-in-Ok-clause-again
returns-in-Ok-clause-again c = λ is_schedule. ap schedule_of c.in-Ok.ensures ∙ schedule_of-text c.args.schedule.now is_schedule
