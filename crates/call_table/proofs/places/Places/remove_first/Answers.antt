use Rattle.std.proofs.Common.{None, refl, arith}
use Rattle.std.specs.BTreeMap.{get}
use Rattle.ens_base.specs.Lists.{bytes_cmp}
use Rattle.call_table.specs.Queues.{rest_of}
use Rattle.call_table.specs.Slots.{places_at}
use Rattle.call_table.proofs.Lookups.{changed, written, rest_of_few}
use Rattle.call_table.proofs.places.Places.remove_first.Goals as goal

pub returns-then-count-le1 : goal.returns-then-count-le1
returns-then-count-le1 c =
    let queues = c.args.self.now.queues in
    changed rest_of (get bytes_cmp queues c.args.key.now) None (rest_of_few (places_at c.args.self.now c.args.key.now) (omega (arith, c.count.ensures, c.if-count-le1.true))) queues c.remove.new.self c.args.key.now c.remove.ensures.updates refl

pub returns-in-Some : goal.returns-in-Some
returns-in-Some c =
    written rest_of c.in-Some.queue.now c.remove_first.new.self c.remove_first.ensures c.args.self.now.queues (c.get_mut.follows.lender c.remove_first.new.self) c.args.key.now (c.get_mut.follows.holds c.remove_first.new.self) c.in-Some.ensures.value
