use Rattle.std.specs.Vec.Iter.{into_iter_items}
use Rattle.world_model.proofs.OneByOne.{Posting}
use Rattle.world_model.proofs.posting.post_all.Given as goal

abbrev pub invariant-loop-outgoing : goal.invariant-loop-outgoing
invariant-loop-outgoing l = Posting l.fn.from l.initial.network l.fn.sends.items l.network (into_iter_items l.outgoing-iterator)
