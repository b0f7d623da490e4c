use Rattle.std.proofs.Common.{sym, ◌∙◌}
use Rattle.scripts.proofs.Scripts.{reached_script}
use Rattle.scripts.proofs.root_input.end_of.Goals as goal

pub returns-in-Ok-clause-valid : goal.returns-in-Ok-clause-valid
returns-in-Ok-clause-valid c = λ reached. reached_script c.args.reading c.args.rest.now c.in-Ok.script (sym c.end.ensures ∙ c.in-Ok.is) reached
