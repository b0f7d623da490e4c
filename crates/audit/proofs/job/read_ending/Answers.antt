use Rattle.audit.proofs.Printing.{report_prints}
use Rattle.audit.proofs.job.read_ending.Goals as goal

pub returns-in-Ok-clause-printed : goal.returns-in-Ok-clause-printed
returns-in-Ok-clause-printed c = λ source read. report_prints source c.args.recorded.now c.in-Ok.text.items c.requires read c.in-Ok.ensures
