use Rattle.std.proofs.Common.{◌≡◌, ℕ, take}
use Rattle.std.specs.BTreeSet.{contains}
use Rattle.std.specs.Ordering.{nat_cmp}
use Rattle.ens_base.specs.Lists.{is_in}
use Rattle.history_record.proofs.amiss.set_of.Given as goal

abbrev pub invariant-loop-id : goal.invariant-loop-id
invariant-loop-id l = (x : ℕ) → contains nat_cmp l.set x ≡ is_in (take l.id-index l.ids) x
