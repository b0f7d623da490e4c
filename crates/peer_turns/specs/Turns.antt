-- The turns of a peer: what each look gave, and whether a tick was due then.
use Rattle.std.specs.Prelude.{◌≡◌, ℕ, ◌+◌, List, [], ◌∷◌, ◌++◌, map, Bool, true, false, not, Option, None, Some, Result, Ok, Err, if◌then◌else◌, ◌==◌, ◌&&◌, nat_le}
use Rattle.ens_base.specs.declared.peer_words.PeerWords.{PeerWords}
use Rattle.peer_state.specs.declared.event.Event.{Event}
use Rattle.peer_state.specs.declared.event.Event.TheVariants as events
use Rattle.wire_frames.specs.Frames.{frame_of}
use Rattle.wire_frames.specs.declared.error.FrameError.{FrameError}
use Rattle.wire_frames.specs.declared.frame.Frame.{Frame}
use Rattle.wire_frames.specs.declared.message.Message.{Message}
use Rattle.wire_frames.specs.declared.message.Message.TheVariants as messages

-- what the look of a turn gave, a frame or nothing, and whether a tick was due after it
pub record Turn : Type 0 where
  pub look : Option (List ℕ)
  pub due : Bool

-- a client is a number from 32 to 63
abbrev pub is_client : ℕ → Bool
is_client n = nat_le 32 n && nat_le n 63

-- another peer is a number from 1 to that of the peers, except this one
abbrev pub is_other_peer : PeerWords → ℕ → Bool
is_other_peer w n = nat_le 1 n && (nat_le n w.peers && not (n == w.me))

-- the event of a message with this sender: a call comes from a client, and any other message from
-- another peer; an answer is no event
abbrev pub event_from : PeerWords → ℕ → Message → Option Event
event_from w from (messages.CallFrame id key command) = if is_client from then Some (events.Call (record { from = from; id = id; key = key; command = command })) else None
event_from w from (messages.AnswerFrame id reply) = None
event_from w from message = if is_other_peer w from then Some (events.Deliver from message) else None

-- the event of a frame; a frame for another receiver is none
abbrev pub event_in : PeerWords → Frame → Option Event
event_in w f = if f.to == w.me then event_from w f.from f.message else None

-- the event of bytes; bytes that are no frame are none
abbrev pub event_on : PeerWords → Result Frame FrameError → Option Event
event_on w (Ok f) = event_in w f
event_on w (Err e) = None

-- the event of a look; a frame that is no event is ignored
abbrev pub event_of : PeerWords → Option (List ℕ) → Option Event
event_of w None = None
event_of w (Some bytes) = event_on w (frame_of bytes)

abbrev pub listed : {A : Type 0} → Option A → List A
listed None = []
listed (Some x) = x ∷ []

abbrev pub tick_if : Bool → List Event
tick_if true = events.Tick ∷ []
tick_if false = []

-- the events of some turns, in order: in each turn the frame comes before the tick
abbrev pub events_of : PeerWords → List Turn → List Event
events_of w [] = []
events_of w (t ∷ ts) = listed (event_of w t.look) ++ (tick_if t.due ++ events_of w ts)

abbrev pub one_if_some : {A : Type 0} → Option A → ℕ
one_if_some None = 0
one_if_some (Some x) = 1

abbrev pub one_if_none : {A : Type 0} → Option A → ℕ
one_if_none None = 1
one_if_none (Some x) = 0

-- 1 if the look gave a frame that is ignored
abbrev pub ignored_by : PeerWords → Option (List ℕ) → ℕ
ignored_by w None = 0
ignored_by w (Some bytes) = one_if_none (event_of w (Some bytes))

-- how many frames are taken
abbrev pub taken_in : PeerWords → List Turn → ℕ
taken_in w [] = 0
taken_in w (t ∷ ts) = one_if_some (event_of w t.look) + taken_in w ts

-- how many frames are ignored
abbrev pub ignored_in : PeerWords → List Turn → ℕ
ignored_in w [] = 0
ignored_in w (t ∷ ts) = ignored_by w t.look + ignored_in w ts

-- how many looks gave a frame
abbrev pub looked_in : List Turn → ℕ
looked_in [] = 0
looked_in (t ∷ ts) = one_if_some t.look + looked_in ts

abbrev pub one_if : Bool → ℕ
one_if true = 1
one_if false = 0

-- how many ticks were due
abbrev pub ticks_in : List Turn → ℕ
ticks_in [] = 0
ticks_in (t ∷ ts) = one_if t.due + ticks_in ts

-- what the looks of some turns gave
abbrev pub looks_of : List Turn → List (Option (List ℕ))
looks_of ts = map (λ (t : Turn). t.look) ts

-- the clock gave these answers, one in each turn
abbrev pub AreDue : (ℕ → Bool) → List Turn → Type 0
AreDue coming [] = Unit {0}
AreDue coming (t ∷ ts) = (t.due ≡ coming 0) × AreDue (λ n. coming (n + 1)) ts
