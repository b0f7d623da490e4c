use Rattle.std.proofs.Common.{length}
use Rattle.std.specs.Vec.Iter.{into_iter_items}
use Rattle.world_model.proofs.OneByOne.{next, had_room}
use Rattle.world_model.proofs.posting.post_all.Goals as goal

pub loop-outgoing-preserved : goal.loop-outgoing-preserved
loop-outgoing-preserved c = rw c.in_ok-send.ensures.ok (rw c.from.view_is (rw c.to.view_is (next c.args.from c.args.network.now c.args.sends.items c.loop-outgoing.network c.in-Some.outgoing (into_iter_items c.next.new.self)
    (had_room c.in_ok-send.field-0 (length c.loop-outgoing.network.sent) c.in_ok-send.ensures.limit.1)
    (rw c.in-Some.ensures.steps.0 at c.loop-outgoing.invariant))))
