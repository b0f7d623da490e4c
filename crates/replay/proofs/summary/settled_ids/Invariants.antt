use Rattle.std.proofs.Common.{◌≡◌, ℕ, take}
use Rattle.std.specs.BTreeSet.{contains}
use Rattle.std.specs.List.{list_any}
use Rattle.std.specs.Ordering.{nat_cmp}
use Rattle.replay.specs.Summary.{settles}
use Rattle.replay.proofs.summary.settled_ids.Given as goal

abbrev pub invariant-loop-line : goal.invariant-loop-line
invariant-loop-line l = (id : ℕ) → contains nat_cmp l.ids id ≡ list_any (settles id) (take l.line-index l.printed)
