use Rattle.std.proofs.Common.{◌≡◌, ◌≤◌, ℕ, length, drop}
use Rattle.std.specs.BTreeSet.{contains}
use Rattle.std.specs.Ordering.{nat_cmp}
use Rattle.ens_base.specs.Lists.{is_in}
use Rattle.history_record.specs.Clauses.{first_stray}
use Rattle.history_record.proofs.stray.first_stray.Given as goal

abbrev pub invariant-loop-place : goal.invariant-loop-place
invariant-loop-place l = record {
  bound : l.place ≤ length l.order;
  found : l.found ≡ first_stray l.calls l.key (drop l.place l.order);
  behind : (x : ℕ) → contains nat_cmp l.behind x ≡ is_in (drop l.place l.order) x;
}

abbrev pub decreases-loop-place : goal.decreases-loop-place
decreases-loop-place l = l.place
