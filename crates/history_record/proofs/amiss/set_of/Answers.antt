use Rattle.history_record.proofs.Walks.{set_step}
use Rattle.history_record.proofs.amiss.set_of.Goals as goal

pub loop-id-preserved : goal.loop-id-preserved
loop-id-preserved c = λ q. set_step c.args.ids.now c.loop-id.id-index 0 q c.loop-id-test.true _ _ (c.loop-id.invariant q) (c.in_ok-insert.ensures.updates.0 q)
