use Rattle.std.proofs.Common.{nat_eq}
use Rattle.indexmap.specs.IndexMap.{get}
use Rattle.register_checker.proofs.Ids.{so_far_next}
use Rattle.register_checker.proofs.places.Places.of.Goals as goal

pub loop-place-preserved : goal.loop-place-preserved
loop-place-preserved c =
    so_far_next (get nat_eq c.loop-place.at) (get nat_eq c.insert.new.self) c.args.ids.now c.loop-place.place 0 c.loop-place-test.true c.in_ok-insert.ensures.updates.0 c.loop-place.invariant
