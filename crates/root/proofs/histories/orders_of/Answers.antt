use Rattle.std.specs.BTreeMap.{get}
use Rattle.std.specs.Map.Iter.{deref_pair}
use Rattle.std.proofs.lemmas.Map.Iter.{rest_all, rest_more}
use Rattle.ens_base.specs.Lists.{bytes_cmp}
use Rattle.root.proofs.Calls.{orders_last, orders_next}
use Rattle.root.proofs.histories.orders_of.Goals as goal

pub loop-slot-preserved : goal.loop-slot-preserved
loop-slot-preserved c = λ key.
    let left = rest_more deref_pair c.loop-slot._slot-iterator c.next.new.self c.next.result (c.in-Some._slot, c.in-Some.world) c.in-Some.is c.next.ensures.steps in
    orders_next c.in-Some._slot.now c.in-Some.world.now c.next.new.self c.loop-slot._slot-iterator key (get bytes_cmp c.loop-slot.calls key) (get bytes_cmp c.keep_orders.new.calls key) _ left (c.in_ok-keep_orders.ensures key) (c.loop-slot.invariant key)

pub returns-clause-calls : goal.returns-clause-calls
returns-clause-calls c = λ key. orders_last c.loop-slot._slot-iterator key (get bytes_cmp c.loop-slot.calls key) _ (rest_all deref_pair c.loop-slot._slot-iterator c.next.new.self c.next.result c.in-None.is c.next.ensures.steps) (c.loop-slot.invariant key)
