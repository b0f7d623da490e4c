use Rattle.std.proofs.Common.{Result, sym, subst, ◌∙◌}
use Rattle.lexemes.specs.Causes.{Refuses}
use Rattle.lexemes.specs.declared.cause.Cause.{Cause}
use Rattle.schedule_text.specs.Events.{event_of}
use Rattle.schedule_text.specs.declared.event.ScheduleEvent.{ScheduleEvent}
use Rattle.schedule_text.proofs.SchedulesRead.{at_line_ok}
use Rattle.scripts.proofs.Lines.{by_words}
use Rattle.scripts.proofs.Refusals.{has_cause, refused_so}
use Rattle.scripts.proofs.event_lines.event.Goals as goal

pub without_line-requires : goal.without_line-requires
without_line-requires c = has_cause 1 (event_of c.args.peers c.args.line.now) c.in-Err.e c.in-Err.ensures.exact

pub returns-in-Ok : goal.returns-in-Ok
returns-in-Ok c = sym (by_words c.args.peers c.args.line.now c.requires) ∙ at_line_ok 1 (event_of c.args.peers c.args.line.now) c.in-Ok.event c.in-Ok.ensures.exact

pub returns-in-Err : goal.returns-in-Err
returns-in-Err c =
    let Refused : Result ScheduleEvent Cause → Type 0 = λ read. Refuses read c.without_line.result in
    subst Refused (by_words c.args.peers c.args.line.now c.requires)
    (refused_so 1 (event_of c.args.peers c.args.line.now) c.in-Err.e c.without_line.result c.in-Err.ensures.exact c.without_line.ensures)
