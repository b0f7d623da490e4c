-- What a step of one peer ends in, on an event and on a call.
use Rattle.std.specs.Prelude.{◌≡◌, ◌+◌, [], ◌∷◌}
use Rattle.protocol_laws.specs.Book.{MayCall}
use Rattle.protocol_laws.specs.Protocol.{State, Ask, state_after}
use Rattle.peer_refinement.specs.WorldSpec.{Held, run}
use Rattle.peer_spec.specs.Drives.{step_of}
use Rattle.peer_state.specs.declared.event.CallIn.{CallIn}
use Rattle.peer_state.specs.declared.event.Event.{Event}
use Rattle.peer_state.specs.declared.event.Event.TheVariants as events
use Rattle.peer_state.specs.declared.state.State.{State as PeerState}
use Rattle.register_model.specs.declared.call.Call.{Call}
use Rattle.step_plans.specs.Plans.{nothing}
use Rattle.peer_refinement.specs.Trees.{AreAmong}
use Rattle.step_refinement.specs.Scenes.{Scene, state_before, now, AtRest, EventComes, EndsBy}
use Rattle.step_refinement.specs.Keys.{AreFew}
use Rattle.step_refinement.specs.Peers.{AsksFit, EpochsFit}

-- the step of a running peer on an event that is no call ends well
abbrev pub StepEndsWell : Type 0
StepEndsWell = (c : Scene) (event : Event) (x : PeerState) (h : Held) → EpochsFit (state_before c) → (rest : AtRest c [] x h nothing []) → EventComes c event (now c rest.0.reached)
    → AreAmong (run (step_of c.peer event x) h []).held.hashed c.strings
    → EndsBy c (run (step_of c.peer event x) h []).ending (run (step_of c.peer event x) h []).held (run (step_of c.peer event x) h []).notes

-- a call, as the book records it at the next event
abbrev pub asked_in : State → CallIn → Call
asked_in s call = record { id = call.id; key = call.key; command = call.command; event = s.book.now + 1 }

-- the scene of a step on a call: the call has come
abbrev pub with_call : (c : Scene) (call : CallIn) → AreFew (state_after c.view (Ask (asked_in (state_before c) call) ∷ c.begun)).book.calls → AsksFit (state_after c.view (Ask (asked_in (state_before c) call) ∷ c.begun)) → Scene
with_call c call few asked = record {
  lines = c.lines;
  version = c.version;
  sound = c.sound;
  view = c.view;
  begun = Ask (asked_in (state_before c) call) ∷ c.begun;
  peer = c.peer;
  is_peer = c.is_peer;
  roles = c.roles;
  said = c.said;
  strings = c.strings;
  free = c.free;
  few = few;
  asked = asked;
  firm = c.firm;
}

-- so does its step on a call, where the call has come, from the peer before it came
abbrev pub CallEndsWell : Type 0
CallEndsWell = (c : Scene) (call : CallIn) (few : AreFew (state_after c.view (Ask (asked_in (state_before c) call) ∷ c.begun)).book.calls) (asked : AsksFit (state_after c.view (Ask (asked_in (state_before c) call) ∷ c.begun))) (x : PeerState) (h : Held)
    → EpochsFit (state_before c) → (rest : AtRest c [] x h nothing []) → rest.0.reached.steps ≡ c.begun → MayCall (state_before c).book (asked_in (state_before c) call)
    → AreAmong (run (step_of c.peer (events.Call call) x) h []).held.hashed c.strings
    → EndsBy (with_call c call few asked) (run (step_of c.peer (events.Call call) x) h []).ending (run (step_of c.peer (events.Call call) x) h []).held (run (step_of c.peer (events.Call call) x) h []).notes
