-- The states in which a peer may be between its steps, and how many calls came to it.
use Rattle.std.specs.Prelude.{◌≡◌, ℕ, ◌+◌, Bool, List, [], ◌∷◌}
use Rattle.call_table.specs.declared.waiting.Waiting.{Waiting}
use Rattle.stored_formats.specs.declared.saved.SavedFact.{SavedFact}
use Rattle.peer_spec.specs.Drives.{step_of}
use Rattle.peer_spec.specs.Starts.{first_state}
use Rattle.peer_state.specs.declared.event.Event.{Event}
use Rattle.peer_state.specs.declared.event.Event.TheVariants as events
use Rattle.peer_state.specs.declared.state.Phase.{Phase}
use Rattle.peer_state.specs.declared.state.Phase.TheVariants as phases
use Rattle.peer_state.specs.declared.state.Mode.{Mode}
use Rattle.peer_state.specs.declared.state.State.{State}
use Rattle.step_plans.specs.Calls.{AnswerOf}
use Rattle.step_plans.specs.Plans.{Plan, Done, Say, Ask}

-- the calls that a peer has not answered
abbrev pub unanswered : Phase → List Waiting
unanswered (phases.Leading l) = l.leader.table.calls
unanswered (phases.Following f) = []
unanswered (phases.Probing p) = []
unanswered (phases.Electing e) = []

-- the plan may end in this state, whatever the stores answer
abbrev pub MayEnd : Plan State → State → Type 0
MayEnd (Done x out) y = y ≡ x
MayEnd (Say note p) y = MayEnd p y
MayEnd (Ask call next) y = (a : AnswerOf call) × MayEnd (next a) y

-- peer `me` may be in this state after it started so from this saved fact with this trust, and took a
-- step on each of these events, of which the first is the latest
abbrev pub Reached : ℕ → Mode → SavedFact → Bool → List Event → State → Type 0
Reached me mode saved trusted [] x = x ≡ first_state mode saved trusted
Reached me mode saved trusted (event ∷ events) x = (y : State) × Reached me mode saved trusted events y × MayEnd (step_of me event y) x

-- how many calls an event brings
abbrev pub calls_of : Event → ℕ
calls_of (events.Call call) = 1
calls_of (events.Deliver from message) = 0
calls_of events.Tick = 0
calls_of (events.Change view) = 0

-- how many of the events are calls
abbrev pub calls_among : List Event → ℕ
calls_among [] = 0
calls_among (event ∷ events) = calls_of event + calls_among events
