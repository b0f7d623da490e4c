use Rattle.std.proofs.Common.{◌≡◌, ◌++◌, map, string_bytes, take}
use Rattle.schedule_text.specs.Spelling.{event_line}
use Rattle.schedule_text.specs.Writing.{feeds}
use Rattle.schedule_text.proofs.writing.push_events.Given as goal

abbrev pub invariant-loop-event : goal.invariant-loop-event
invariant-loop-event l = string_bytes l.out ≡ string_bytes l.fn.out ++ feeds (map event_line (take l.event-index l.events))
