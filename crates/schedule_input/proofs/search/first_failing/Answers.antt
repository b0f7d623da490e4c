use Rattle.std.proofs.Common.{◌+◌, ◌∙◌, None, Some, sym, ap}
use Rattle.std.specs.Prelude.{find}
use Rattle.ens_base.specs.PeerSet.{holds}
use Rattle.schedule_text.specs.declared.event.ScheduleEvent.{ScheduleEvent}
use Rattle.schedule_input.specs.Premise.{fails, views_of_line}
use Rattle.schedule_input.proofs.Searches.{find_next, find_whole, none_of}
use Rattle.schedule_input.proofs.search.first_failing.Goals as goal

pub returns-in-Some : goal.returns-in-Some
returns-in-Some c =
    let i = c.loop-event.event-index in
    sym (find_whole views_of_line (fails (holds c.args.reverted.now)) c.args.events.now (i + 1) c.in-Some.view
    (find_next views_of_line (fails (holds c.args.reverted.now)) c.args.events.now i c.event-item.result (Some c.in-Some.view) c.loop-event-test.true c.loop-event.invariant
    (ap (λ (e : ScheduleEvent). find (fails (holds c.args.reverted.now)) (views_of_line e)) (sym c.event-item.is) ∙ sym c.failing_change.ensures ∙ c.in-Some.is)))

pub loop-event-preserved : goal.loop-event-preserved
loop-event-preserved c =
    find_next views_of_line (fails (holds c.args.reverted.now)) c.args.events.now c.loop-event.event-index c.event-item.result None c.loop-event-test.true c.loop-event.invariant
    (ap (λ (e : ScheduleEvent). find (fails (holds c.args.reverted.now)) (views_of_line e)) (sym c.event-item.is) ∙ sym c.failing_change.ensures ∙ none_of c.failing_change.result c.in_default.not-Some)
