-- Steps of a peer, one after another, and what they send.
use Rattle.std.specs.Prelude.{◌≡◌, ℕ, List, [], ◌∷◌, ◌++◌, map}
use Rattle.leader_output.specs.declared.out.AnswerOut.{AnswerOut}
use Rattle.leader_output.specs.declared.out.Outgoing.{Outgoing}
use Rattle.peer_turns.specs.PeerSpec.{step_of}
use Rattle.peer_state.specs.declared.event.Event.{Event}
use Rattle.peer_state.specs.declared.state.State.{State}
use Rattle.register_model.specs.declared.note.Note.{Note}
use Rattle.step_plans.specs.Calls.{Call, AnswerOf}
use Rattle.step_plans.specs.Plans.{Out, Finished, Runs}
use Rattle.step_plans.specs.declared.error.PeerError.{PeerError}
use Rattle.wire_frames.specs.Frames.{frame_spelling}
use Rattle.wire_frames.specs.declared.message.Message.TheVariants.{AnswerFrame}

-- a step that came to its end: its event, what it put out, and what it noted
pub record Deed : Type 0 where
  pub event : Event
  pub out : Out
  pub notes : List Note

-- From this state and these stores the peer took these steps, each to its end, and came to that state
-- and those stores. `P` is the state of the stores and the hasher together.
abbrev pub Did : {P : Type 0} → (P → (call : Call) → AnswerOf call → P → Type 0) → (P → Call → PeerError → P → Type 0) → ℕ → State → P → List Deed → State → P → Type 0
Did does refuses me x s [] y t = (y ≡ x) × (t ≡ s)
Did does refuses me x s (d ∷ ds) y t =
    (z : State) × (m : _) × Runs does refuses (step_of me d.event x) s [] (Finished z d.out) m d.notes × Did does refuses me z m ds y t

-- the events of steps
abbrev pub events_in : List Deed → List Event
events_in deeds = map (λ (d : Deed). d.event) deeds

-- a message, and an answer, as it is handed to the link: its receiver, and the bytes of its frame
abbrev pub message_frame : ℕ → Outgoing → ℕ × List ℕ
message_frame me s = (s.to, frame_spelling (record { from = me; to = s.to; message = s.message }))

abbrev pub answer_frame : ℕ → AnswerOut → ℕ × List ℕ
answer_frame me a = (a.caller, frame_spelling (record { from = me; to = a.caller; message = AnswerFrame a.id a.reply }))

-- what a step sends: its messages, and then its answers
abbrev pub frames_of : ℕ → Out → List (ℕ × List ℕ)
frames_of me out = map (message_frame me) out.sends ++ map (answer_frame me) out.answers

-- what steps send, in their order
abbrev pub frames_in : ℕ → List Deed → List (ℕ × List ℕ)
frames_in me [] = []
frames_in me (d ∷ ds) = frames_of me d.out ++ frames_in me ds
