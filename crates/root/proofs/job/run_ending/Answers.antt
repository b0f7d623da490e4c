use Rattle.root.proofs.Ends.{run_done}
use Rattle.root.proofs.job.run_ending.Goals as goal

pub returns-in-Ok-clause-ends : goal.returns-in-Ok-clause-ends
returns-in-Ok-clause-ends g c = run_done _ _ c.args.script.now c.in-Ok.field-0.text.items c.requires c.in-Ok.ensures.text c.in-Ok.ensures.within c.in-Ok.ensures.hashed c.in-Ok.ensures.apart c.in-Ok.ensures.legal
