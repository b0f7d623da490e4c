use Rattle.std.proofs.Common.{◌+◌, length}
use Rattle.std.specs.BTreeMap.{get}
use Rattle.std.specs.Ordering.{nat_cmp}
use Rattle.history_record.proofs.Gathered.{HasGathered}
use Rattle.history_record.proofs.behind.Hearing.new.Given as goal

abbrev pub invariant-loop-place : goal.invariant-loop-place
invariant-loop-place l =
    HasGathered l.events (get nat_cmp l.open_calls) (get nat_cmp l.open_changes) l.keys.keys (length l.open_calls.entries + (length l.open_changes.entries + length l.keys.keys)) l.place

abbrev pub decreases-loop-place : goal.decreases-loop-place
decreases-loop-place l = l.place
