-- The event of a step keeps the limits of frames, and is a request for a view alone.
use Rattle.std.proofs.Common.{◌≡◌, ◌<◌, ◌^◌, ℕ, Bool, true, false, if◌then◌else◌, List, None, Some, Result, Ok, Err, refl, sym, subst, inl, inr}
use Rattle.std.specs.Prelude.{◌==◌}
use Rattle.std.proofs.lemmas.Option.{none-some, same_Some}
use Rattle.ens_base.specs.Limits.{IsBytes, IsKey, IsCommand}
use Rattle.ens_base.specs.View.{IsView}
use Rattle.ens_base.specs.declared.peer_words.PeerWords.{PeerWords}
use Rattle.process_laws.specs.Moments.{Takes}
use Rattle.process_laws.specs.Premises.{IsWithinLimits}
use Rattle.peer_state.specs.declared.event.Event.{Event}
use Rattle.peer_state.specs.declared.event.Event.TheVariants as events
use Rattle.peer_turns.specs.Turns.{event_from, event_in, event_on, is_client, is_other_peer}
use Rattle.wire_frames.proofs.FrameLaws.{frame_found}
use Rattle.wire_frames.specs.Frames.{frame_of}
use Rattle.wire_frames.specs.Messages.{IsMessage}
use Rattle.wire_frames.specs.declared.error.FrameError.{FrameError}
use Rattle.wire_frames.specs.declared.frame.Frame.{Frame}
use Rattle.wire_frames.specs.declared.message.Message.{Message}
use Rattle.wire_frames.specs.declared.message.Message.TheVariants as messages
use Rattle.world_spec.specs.Runs.{Run}
use Rattle.process_laws.specs.Lives.{IsOccasion}

-- a call keeps the limits of a frame, and a peer is asked for a view
abbrev pub KeepsLimits : Event → Type 0
KeepsLimits (events.Call c) = (c.id < 2 ^ 64) × IsKey c.key × IsCommand c.command
KeepsLimits (events.Change view) = IsView view
KeepsLimits event = Unit {0}

pub within_limits : (w : Run) (p : ℕ) (event : Event) → KeepsLimits event → IsWithinLimits w (Takes p event)
within_limits w p (events.Call c) keeps = keeps
within_limits w p (events.Deliver from message) keeps = tt
within_limits w p events.Tick keeps = tt
within_limits w p (events.Change view) keeps = keeps

-- the event of a message, where this is it
called : (client : Bool) (event given : Event) → (if client then Some given else None) ≡ Some event → KeepsLimits given → KeepsLimits event
called true event given is keeps = subst KeepsLimits (same_Some given event is) keeps
called false event given is keeps = absurd (none-some event is)

of_message : (w : PeerWords) (from : ℕ) (m : Message) (event : Event) → IsMessage m → event_from w from m ≡ Some event → KeepsLimits event
of_message w from (messages.CallFrame id key command) event good is = called (is_client from) event (events.Call (record { from = from; id = id; key = key; command = command })) is (good.0, good.1.0, good.1.1)
of_message w from (messages.AnswerFrame id reply) event good is = absurd (none-some event is)
of_message w from message event good is = called (is_other_peer w from) event (events.Deliver from message) is tt

of_frame : (w : PeerWords) (f : Frame) (event : Event) → IsMessage f.message → event_in w f ≡ Some event → KeepsLimits event
of_frame w f event good is = by (f.to == w.me) is
  where
    by : (own : Bool) → (if own then event_from w f.from f.message else None) ≡ Some event → KeepsLimits event
    by true is = of_message w f.from f.message event good is
    by false is = absurd (none-some event is)

of_bytes : (w : PeerWords) (bytes : List ℕ) (read : Result Frame FrameError) (event : Event) → IsBytes bytes → frame_of bytes ≡ read → event_on w read ≡ Some event → KeepsLimits event
of_bytes w bytes (Ok f) event fits was is = of_frame w f event (frame_found bytes (Ok f) fits was).0.message is
of_bytes w bytes (Err e) event fits was is = absurd (none-some event is)

pub keeps_limits : (p : ℕ) (event : Event) → IsOccasion p event → KeepsLimits event
keeps_limits p event (inl tick) = subst KeepsLimits (sym tick) tt
keeps_limits p event (inr (inl came)) = of_bytes came.0 came.1 (frame_of came.1) event came.3 refl came.4
keeps_limits p event (inr (inr asked)) = subst KeepsLimits (sym asked.2) asked.1
