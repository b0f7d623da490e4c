use Rattle.std.proofs.Common.{◌≡◌, ◌+◌, ◌++◌, [], arith}
use Rattle.history_record.specs.Calls.{call_at}
use Rattle.history_record.proofs.Called.{call_next, calls_end}
use Rattle.history_record.proofs.calls.calls_of.Goals as goal

pub loop-event-preserved : goal.loop-event-preserved
loop-event-preserved c =
    let old = c.loop-event.invariant in
    let next : c.push_call.new.calls.items ≡ c.loop-event.calls.items ++ call_at c.event-item.result (c.loop-event.event-index + 1) [] = rw (← old.count) c.in_ok-push_call.ensures in
    record {
      count = omega (arith, old.count);
      calls = call_next c.args.events.now c.loop-event.event-index c.loop-event.calls.items _ old.calls c.event-item.result c.loop-event-test.true c.event-item.is c.push_call.new.calls.items next;
    }

pub returns : goal.returns
returns c = calls_end c.args.events.now c.loop-event.event-index c.loop-event.calls.items _ c.loop-event.invariant.calls c.loop-event-test.false
