use Rattle.std.proofs.Common.{◌≡◌, ◌≤◌, ℕ, drop, length}
use Rattle.std.specs.BTreeMap.{get}
use Rattle.std.specs.Ordering.{nat_cmp}
use Rattle.std.specs.Prelude.{find}
use Rattle.scripts.specs.Progress.{has_id}
use Rattle.root.specs.Standing.{at_place}
use Rattle.root.proofs.opening.places_of.Given as goal

abbrev pub invariant-loop-place : goal.invariant-loop-place
invariant-loop-place l = record {
  found : (id : ℕ) → at_place l.events (get nat_cmp l.places id) ≡ find (has_id id) (drop l.place l.events);
  within : l.place ≤ length l.events;
}

abbrev pub decreases-loop-place : goal.decreases-loop-place
decreases-loop-place l = l.place
