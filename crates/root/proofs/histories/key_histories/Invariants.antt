use Rattle.std.proofs.Common.{◌≡◌, map, take}
use Rattle.std.specs.BTreeMap.{get}
use Rattle.ens_base.specs.Lists.{bytes_cmp}
use Rattle.root.specs.Histories.{filled}
use Rattle.root.proofs.histories.key_histories.Given as goal

abbrev pub invariant-loop-history : goal.invariant-loop-history
invariant-loop-history l = l.histories.items ≡ map (filled (get bytes_cmp l.calls)) (take l.history-index l.history-items)
