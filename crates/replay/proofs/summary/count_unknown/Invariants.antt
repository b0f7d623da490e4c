use Rattle.std.proofs.Common.{◌≡◌, ◌≤◌, count_by, take}
use Rattle.replay.specs.Summary.{is_unknown}
use Rattle.replay.proofs.summary.count_unknown.Given as goal

abbrev pub invariant-loop-event : goal.invariant-loop-event
invariant-loop-event l = record {
  count : l.unknown ≡ count_by (is_unknown l.printed) (take l.event-index l.events);
  within : l.unknown ≤ l.event-index;
}
