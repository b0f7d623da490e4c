use Rattle.std.proofs.Common.{◌≡◌, ◌+◌, ◌++◌, drop}
use Rattle.history_record.specs.Calls.{calls_from}
use Rattle.history_record.proofs.calls.calls_of.Given as goal

abbrev pub invariant-loop-event : goal.invariant-loop-event
invariant-loop-event l = record {
  count : l.number ≡ l.event-index;
  calls : l.calls.items ++ calls_from (l.event-index + 1) (drop l.event-index l.events) ≡ calls_from 1 l.events;
}
