use Rattle.tree_repair.proofs.Buckets.{taken_more}
use Rattle.tree_repair.proofs.segments.copies.Goals as goal

pub loop-placed-preserved : goal.loop-placed-preserved
loop-placed-preserved c = taken_more c.args.entries.now c.args.places.now c.loop-placed.placed-index (record { segment = 0; entry = 0 }) c.index-entries-placed.result c.in_ok-copy.field-0 c.loop-placed.copies.items c.push.new.self.items c.loop-placed-test.true (c.requires c.loop-placed.placed-index (record { segment = 0; entry = 0 }) c.loop-placed-test.true) c.index-entries-placed.is c.in_ok-copy.ensures c.loop-placed.invariant (c.in_ok-push.ensures).items
