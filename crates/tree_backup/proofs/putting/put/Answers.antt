use Rattle.std.proofs.Common.{◌∙◌}
use Rattle.tree_backup.proofs.Calls.{put_one, counts_later, counts_rose}
use Rattle.tree_backup.proofs.putting.put.Goals as goal

pub returns-in-Ok-clause-did : goal.returns-in-Ok-clause-did
returns-in-Ok-clause-did g c = put_one g.B.Backend.may_answer g.B.Backend.may_refuse c.args.object.now c.as_slice.result.now c.args.backend.now c.put.new.self c.put.result (c.as_slice.ensures.value ∙ c.in-Ok.ensures.ok) c.put.ensures.answer c.put.ensures.refusal

pub returns-in-Ok-clause-later : goal.returns-in-Ok-clause-later
returns-in-Ok-clause-later g c = counts_later _ _ c.put.result c.put.ensures.counts

pub returns-in-Ok-clause-failed : goal.returns-in-Ok-clause-failed
returns-in-Ok-clause-failed g c = counts_rose _ _ c.put.result c.put.ensures.counts
