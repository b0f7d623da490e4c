-- The ends of a step, whatever the stores answer.
use Rattle.std.specs.Prelude.{◌≡◌, ℕ, Bool, true, List, [], All}
use Rattle.call_table.specs.declared.waiting.Waiting.{Waiting}
use Rattle.leader_output.specs.declared.out.AnswerOut.{AnswerOut}
use Rattle.stored_formats.specs.declared.saved.SavedFact.{SavedFact}
use Rattle.peer_state.specs.declared.event.Event.{Event}
use Rattle.peer_state.specs.declared.event.Event.TheVariants as events
use Rattle.peer_state.specs.declared.state.Phase.{Phase}
use Rattle.peer_state.specs.declared.state.Phase.TheVariants as phases
use Rattle.peer_state.specs.declared.state.State.{State}
use Rattle.step_plans.specs.Calls.{Call, AnswerOf, Save}
use Rattle.step_plans.specs.Plans.{Plan, Done, Say, Ask, Out}

-- the fact that was saved last, with its seal, after a call
abbrev pub last_saved : Call → SavedFact → SavedFact
last_saved (Save saved) last = saved
last_saved other last = last

-- Each end that the plan may reach satisfies P. P is told the fact that was saved last on the way
-- there, with its seal; it is this one if none was saved.
abbrev pub EndsIn : (SavedFact → State → Out → Type 0) → SavedFact → Plan State → Type 0
EndsIn P last (Done x out) = P last x out
EndsIn P last (Say note p) = EndsIn P last p
EndsIn P last (Ask call next) = (a : AnswerOf call) → EndsIn P (last_saved call last) (next a)

-- the calls that a peer has not answered
abbrev pub calls_in : Phase → List Waiting
calls_in (phases.Leading l) = l.leader.table.calls
calls_in (phases.Following f) = []
calls_in (phases.Probing p) = []
calls_in (phases.Electing e) = []

-- the caller of each call passes the test
abbrev pub AllFrom : (ℕ → Bool) → List Waiting → Type 0
AllFrom test calls = All (λ w. test w.from ≡ true) calls

-- each answer goes to a caller that passes the test
abbrev pub AllTo : (ℕ → Bool) → List AnswerOut → Type 0
AllTo test answers = All (λ a. test a.caller ≡ true) answers

-- if the event is a call, its caller passes the test
abbrev pub ComesFrom : (ℕ → Bool) → Event → Type 0
ComesFrom test (events.Call call) = test call.from ≡ true
ComesFrom test (events.Deliver from message) = Unit {0}
ComesFrom test events.Tick = Unit {0}
ComesFrom test (events.Change view) = Unit {0}
