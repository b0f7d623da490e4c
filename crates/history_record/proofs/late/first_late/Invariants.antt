use Rattle.std.proofs.Common.{◌≡◌, ◌≤◌, ℕ, length, drop}
use Rattle.std.specs.List.{list_any}
use Rattle.history_record.specs.Clauses.{first_late, was_done_before}
use Rattle.history_record.specs.Lookups.{is_before}
use Rattle.history_record.proofs.late.first_late.Given as goal

abbrev pub invariant-loop-place : goal.invariant-loop-place
invariant-loop-place l = record {
  bound : l.place ≤ length l.order;
  found : l.found ≡ first_late l.calls l.answers (drop l.place l.order);
  earliest : (event : ℕ) → list_any (was_done_before l.answers event) (drop l.place l.order) ≡ is_before l.earliest event;
}

abbrev pub decreases-loop-place : goal.decreases-loop-place
decreases-loop-place l = l.place
