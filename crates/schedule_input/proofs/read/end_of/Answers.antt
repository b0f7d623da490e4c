use Rattle.std.proofs.Common.{sym, ◌∙◌}
use Rattle.schedule_input.proofs.Reached.{reached_schedule}
use Rattle.schedule_input.proofs.read.end_of.Goals as goal

pub returns-in-Ok-clause-valid : goal.returns-in-Ok-clause-valid
returns-in-Ok-clause-valid c = λ reached. reached_schedule c.args.reading c.args.rest.now c.in-Ok.schedule (sym c.end.ensures ∙ c.in-Ok.is) reached
