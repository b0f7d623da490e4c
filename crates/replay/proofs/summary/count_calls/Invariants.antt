use Rattle.std.proofs.Common.{◌≡◌, ◌≤◌, count_by, take}
use Rattle.replay.specs.Summary.{is_call}
use Rattle.replay.proofs.summary.count_calls.Given as goal

abbrev pub invariant-loop-event : goal.invariant-loop-event
invariant-loop-event l = record {
  count : l.calls ≡ count_by is_call (take l.event-index l.events);
  within : l.calls ≤ l.event-index;
}
