-- The moments of a group as lines of a schedule: of these only the calls and the number count.
use Rattle.std.proofs.Common.{◌≡◌, ◌∙◌, ℕ, ◌+◌, suc, List, [], ◌∷◌, length, None, refl, ap}
use Rattle.world_refinement.specs.Lines as schedule
use Rattle.process_laws.specs.Moments.{Moment, Starts, Takes, Spoils, IsCutOff, call_in, calls_from, answers_in}
use Rattle.peer_state.specs.declared.event.Event.{Event}
use Rattle.peer_state.specs.declared.event.Event.TheVariants as events
use Rattle.register_model.specs.declared.answer.Answer.{Answer}
use Rattle.register_model.specs.declared.call.Call.{Call}
use Rattle.register_model.specs.declared.printed.Printed.{Printed}
use Rattle.register_model.specs.declared.printed.Printed.TheVariants as printed
use Rattle.schedule_text.specs.declared.event.ScheduleEvent.{ScheduleEvent}
use Rattle.schedule_text.specs.declared.event.ScheduleEvent.TheVariants as line

-- a line with the same call, if there is one
abbrev pub line_on : ℕ → Event → ScheduleEvent
line_on p (events.Call c) = line.Call p c.id c.key c.command
line_on p event = line.Tick p 1

abbrev pub line_of : Moment → ScheduleEvent
line_of (Starts p found) = line.Start p
line_of (Takes p event) = line_on p event
line_of (Spoils p nodes objects) = line.Spoil p [] None
line_of (IsCutOff p) = line.Stop p

abbrev pub lines_for : List Moment → List ScheduleEvent
lines_for [] = []
lines_for (m ∷ ms) = line_of m ∷ lines_for ms

-- as many lines as moments
pub lines_many : (ms : List Moment) → length (lines_for ms) ≡ length ms
lines_many [] = refl
lines_many (m ∷ ms) = ap suc (lines_many ms)

call_same : (m : Moment) (n : ℕ) (rest : List Call) → schedule.call_at (line_of m) n rest ≡ call_in m n rest
call_same (Starts p found) n rest = refl
call_same (Takes p (events.Call c)) n rest = refl
call_same (Takes p (events.Deliver from message)) n rest = refl
call_same (Takes p events.Tick) n rest = refl
call_same (Takes p (events.Change view)) n rest = refl
call_same (Spoils p nodes objects) n rest = refl
call_same (IsCutOff p) n rest = refl

-- the same calls at the same numbers
pub calls_same : (n : ℕ) (ms : List Moment) → schedule.calls_from n (lines_for ms) ≡ calls_from n ms
calls_same n [] = refl
calls_same n (m ∷ ms) = call_same m n (schedule.calls_from (n + 1) (lines_for ms)) ∙ ap (λ (rest : List Call). call_in m n rest) (calls_same (n + 1) ms)

-- the same answers
pub answers_same : (lines : List Printed) → schedule.answers_in lines ≡ answers_in lines
answers_same [] = refl
answers_same (printed.Answer a ∷ lines) = ap (λ (given : List Answer). a ∷ given) (answers_same lines)
answers_same (printed.Change event peer taken ∷ lines) = answers_same lines
