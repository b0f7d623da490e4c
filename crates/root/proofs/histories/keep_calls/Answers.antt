use Rattle.std.specs.BTreeMap.{get}
use Rattle.std.specs.Vec.Iter.{into_iter_items}
use Rattle.ens_base.specs.Lists.{bytes_cmp}
use Rattle.root.proofs.Calls.{calls_next}
use Rattle.root.proofs.histories.keep_calls.Goals as goal

pub loop-history-preserved-in_ok-insert : goal.loop-history-preserved-in_ok-insert
loop-history-preserved-in_ok-insert c = λ key. calls_next c.in-Some.history (into_iter_items c.next.new.self) (into_iter_items c.loop-history.history-iterator) key (get bytes_cmp c.loop-history.calls key) (get bytes_cmp c.insert.new.self key) _ c.in-Some.ensures.steps.0 (c.in_ok-insert.ensures.updates.0 key) (c.loop-history.invariant key)

pub loop-history-preserved : goal.loop-history-preserved
loop-history-preserved c = λ key. calls_next c.in-Some.history (into_iter_items c.next.new.self) (into_iter_items c.loop-history.history-iterator) key (get bytes_cmp c.loop-history.calls key) (get bytes_cmp c.insert.new.self key) _ c.in-Some.ensures.steps.0 (c.in_ok-insert.ensures.updates.0 key) (c.loop-history.invariant key)
