use Rattle.std.proofs.Common.{◌≡◌, ℕ, List, None}
use Rattle.std.specs.BTreeMap.{get}
use Rattle.ens_base.specs.Lists.{bytes_cmp}
use Rattle.root.specs.Histories.{orders_by}
use Rattle.root.proofs.histories.orders_of.Given as goal

abbrev pub invariant-loop-slot : goal.invariant-loop-slot
invariant-loop-slot l = (key : List ℕ) → orders_by l._slot-iterator key (get bytes_cmp l.calls key) ≡ orders_by l.slots.entries key None
