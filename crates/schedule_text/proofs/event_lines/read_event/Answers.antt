use Rattle.std.proofs.Common.{◌≡◌, ℕ, Result, Ok, sym, ap, subst, ◌∙◌}
use Rattle.lexemes.specs.Causes.{Refuses}
use Rattle.lexemes.specs.declared.cause.Cause.{Cause}
use Rattle.lexemes.specs.declared.cause.WordError.{WordError}
use Rattle.lexemes.specs.declared.cause.WordError.TheVariants.{Bad, Memory}
use Rattle.lexemes.proofs.Results.{ok_same}
use Rattle.schedule_text.specs.Errors.{Stops, error_at}
use Rattle.schedule_text.specs.Events.{event_of}
use Rattle.schedule_text.specs.declared.error.ScheduleError.{ScheduleError}
use Rattle.schedule_text.specs.declared.event.ScheduleEvent.{ScheduleEvent}
use Rattle.schedule_text.proofs.EventsRead.{event_of-ok}
use Rattle.schedule_text.proofs.OneLine.{event_of-line}
use Rattle.schedule_text.proofs.event_lines.read_event.Goals as goal

-- what reads as an event is refused for memory alone
memory_alone : (event : ScheduleEvent) (read : Result ScheduleEvent Cause) (number : ℕ) (e : WordError) → read ≡ Ok event → Refuses read e
    → Stops {A = ScheduleEvent} (Ok event) (error_at number e)
memory_alone event read number (Bad cause) h k = cc (h, k)
memory_alone event read number Memory h k = tt

pub returns-in-Ok-clause-line : goal.returns-in-Ok-clause-line
returns-in-Ok-clause-line c = λ few. event_of-ok c.args.peers c.args.bytes.now c.in-Ok.event few c.in-Ok.ensures

pub returns-in-Ok-clause-only : goal.returns-in-Ok-clause-only
returns-in-Ok-clause-only c =
    λ event few stands line. let read : event_of c.args.peers c.args.bytes.now ≡ Ok event = ap (event_of c.args.peers) line ∙ event_of-line c.args.peers event few stands in ap Ok (ok_same (sym read ∙ c.in-Ok.ensures))

pub returns-in-Err-clause-only : goal.returns-in-Err-clause-only
returns-in-Err-clause-only c =
    λ event few stands line. let read : event_of c.args.peers c.args.bytes.now ≡ Ok event = ap (event_of c.args.peers) line ∙ event_of-line c.args.peers event few stands in
    subst (λ (x : ScheduleError). Stops {A = ScheduleEvent} (Ok event) x) (sym c.at.ensures) (memory_alone event (event_of c.args.peers c.args.bytes.now) c.args.number c.in-Err.e read c.in-Err.ensures)
