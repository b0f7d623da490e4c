use Rattle.std.proofs.Common.{◌≡◌, ℕ, List}
use Rattle.std.specs.BTreeMap.{get}
use Rattle.std.specs.Vec.Iter.{into_iter_items}
use Rattle.ens_base.specs.Lists.{bytes_cmp}
use Rattle.root.specs.Histories.{calls_in}
use Rattle.root.proofs.histories.keep_calls.Given as goal

abbrev pub invariant-loop-history : goal.invariant-loop-history
invariant-loop-history l = (key : List ℕ) → calls_in (into_iter_items l.history-iterator) key (get bytes_cmp l.calls key) ≡ calls_in l.fn.histories.items key (get bytes_cmp l.fn.calls key)
