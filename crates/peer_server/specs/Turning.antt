-- How far a peer came in its turns, from one point to another.
use Rattle.std.specs.Prelude.{◌≡◌, ◌⊎◌, ◌≤◌, ◌<◌, ℕ, ◌+◌, All, Bool, true, false, List, [], ◌∷◌, ◌++◌, length, Option, None, Some}
use Rattle.ens_base.specs.declared.peer_words.PeerWords.{PeerWords}
use Rattle.ens_base.specs.declared.status.Status.{Status}
use Rattle.ens_base.specs.declared.status.Status.TheVariants as statuses
use Rattle.environment.specs.Links.{AnswersNext}
use Rattle.peer_core.specs.declared.peer.Peer.{Peer}
use Rattle.peer_spec.specs.Drives.{MayCome, step_of}
use Rattle.peer_state.specs.declared.event.Event.{Event}
use Rattle.peer_state.specs.declared.event.Event.TheVariants as happenings
use Rattle.peer_state.specs.declared.state.State.{State}
use Rattle.register_model.specs.declared.note.Note.{Note}
use Rattle.step_plans.specs.Calls.{Call, AnswerOf}
use Rattle.step_plans.specs.Plans.{Plan, Out, Finished, Runs, Stopped}
use Rattle.step_plans.specs.declared.error.PeerError.{PeerError}
use Rattle.peer_turns.specs.Ends.{AllFrom, ComesFrom, calls_in}
use Rattle.peer_turns.specs.Deeds.{Deed, events_in, frames_in}
use Rattle.peer_turns.specs.Going.{Grew, Point, Went}
use Rattle.peer_turns.specs.Turns.{AreDue, Turn, event_of, events_of, ignored_by, ignored_in, is_client, listed, looks_of, one_if_some, taken_in, tick_if}
use Rattle.step_plans.specs.Outboxes.{out_of}
use Rattle.step_plans.specs.declared.outbox.Outbox.{Outbox}
use Rattle.peer_server.specs.Commits.{IsSendable}
use Rattle.peer_server.specs.DiskPeers.{OnDisks, disks_do, disks_refuse}
use Rattle.peer_server.specs.Lines.{Line}
use Rattle.peer_server.specs.declared.server.Server.{Server}
use Rattle.peer_server.specs.Faults.{peer_status}
use Rattle.peer_server.specs.declared.turns.Counts.{Counts}
use Rattle.peer_server.specs.declared.turns.Found.{Found}
use Rattle.peer_server.specs.declared.turns.Found.TheVariants as found

-- a ticker that tells gave these answers, one in each turn, and the others are still to come
abbrev pub TicksOn : Option (ℕ → Bool) → Option (ℕ → Bool) → List Turn → Type 0
TicksOn None new turns = Unit {0}
TicksOn (Some coming) None turns = ⊥
TicksOn (Some coming) (Some rest) turns = AreDue coming turns × ((n : ℕ) → rest n ≡ coming (length turns + n))

-- where a turn was stopped: at its look; after its look, which gave this; or after its tick, which was
-- due. Or no turn was, but the commit after the last one.
pub data Place : Type 0 where
  Looking : Place
  Looked : (look : Option (List ℕ)) → Place
  Ticked : (look : Option (List ℕ)) → Place
  Committing : Place

-- that turn, if it came to its tick
abbrev pub ticked_at : Place → List Turn
ticked_at Looking = []
ticked_at (Looked look) = []
ticked_at (Ticked look) = record { look = look; due = true } ∷ []
ticked_at Committing = []

-- what the look of that turn gave
abbrev pub looks_at : Place → List (Option (List ℕ))
looks_at Looking = []
looks_at (Looked look) = look ∷ []
looks_at (Ticked look) = look ∷ []
looks_at Committing = []

-- the events of that turn before the place, and the event at it
abbrev pub events_before : PeerWords → Place → List Event
events_before w Looking = []
events_before w (Looked look) = []
events_before w (Ticked look) = listed (event_of w look)
events_before w Committing = []

abbrev pub event_at : PeerWords → Place → Option Event
event_at w Looking = None
event_at w (Looked look) = event_of w look
event_at w (Ticked look) = Some happenings.Tick
event_at w Committing = None

-- the place is in a turn
abbrev pub IsInTurn : Place → Type 0
IsInTurn Committing = ⊥
IsInTurn place = Unit {0}

-- 1 if a turn had begun
abbrev pub begun_at : Place → ℕ
begun_at Committing = 0
begun_at place = 1

-- a list that is told lost these at its end, and is still told
abbrev pub Shrank : {A : Type 0} → Option (List A) → Option (List A) → List A → Type 0
Shrank None new lost = Unit {0}
Shrank (Some old) None lost = ⊥
Shrank (Some old) (Some now) lost = old ≡ now ++ lost

-- the plan was stopped, by an error with this status
pub record RanInto {P : Type 0} (does : P → (call : Call) → AnswerOf call → P → Type 0) (refuses : P → Call → PeerError → P → Type 0) (status : Status) (plan : Plan State) (s t : P) : Type 0 where
  pub error : PeerError
  pub is : peer_status error ≡ status
  pub notes : List Note
  pub ran : Runs does refuses plan s [] (Stopped error) t notes

module _ {P L : Type 0} (does : P → (call : Call) → AnswerOf call → P → Type 0) (refuses : P → Call → PeerError → P → Type 0)
    (sent : L → Option (List (ℕ × List ℕ))) (given : L → Option (List (Option (List ℕ)))) (me : ℕ) where
  -- A step was taken on each of these events, and all that these steps send was put out. The looks gave
  -- this.
  pub record Took (looks : List (Option (List ℕ))) (events : List Event) (a b : Point P L) : Type 0 where
    pub deeds : List Deed
    pub are : events_in deeds ≡ events
    pub went : Went does refuses sent given me a b looks deeds (frames_in me deeds)

  -- no step was taken and nothing was put out
  pub record Stayed (a b : Point P L) : Type 0 where
    pub state : b.state ≡ a.state
    pub stores : b.stores ≡ a.stores
    pub looked : Grew (given a.link) (given b.link) []
    pub sends : Grew (sent a.link) (sent b.link) []

  -- the step on this event was stopped, by an error with this status, and nothing was put out
  pub record WasStopped (status : Status) (event : Event) (a b : Point P L) : Type 0 where
    pub ran : RanInto does refuses status (step_of me event a.state) a.stores b.stores
    pub looked : Grew (given a.link) (given b.link) []
    pub sends : Grew (sent a.link) (sent b.link) []

  -- the step on this event came to its end, and there was no memory to keep what it put out
  pub record WasDropped (event : Event) (a b : Point P L) : Type 0 where
    pub out : Out
    pub notes : List Note
    pub ran : Runs does refuses (step_of me event a.state) a.stores [] (Finished b.state out) b.stores notes
    pub looked : Grew (given a.link) (given b.link) []
    pub sends : Grew (sent a.link) (sent b.link) []

  -- no step was taken, and of the frames put out the last ones, at least one, were lost
  pub record WasLost (a b : Point P L) : Type 0 where
    pub state : b.state ≡ a.state
    pub stores : b.stores ≡ a.stores
    pub looked : Grew (given a.link) (given b.link) []
    pub lost : List (ℕ × List ℕ)
    pub some : 0 < length lost
    pub sends : Shrank (sent a.link) (sent b.link) lost

  -- What came of the event on which the peer worked at a fault. A fault of the stores stops a step, and
  -- memory may run out at any time: also for what a step put out.
  abbrev pub Fell : Status → Option Event → Point P L → Point P L → Type 0
  Fell statuses.StoreFault (Some event) a b = WasStopped statuses.StoreFault event a b
  Fell statuses.Memory (Some event) a b = Stayed a b ⊎ (WasStopped statuses.Memory event a b ⊎ WasDropped event a b)
  Fell statuses.Memory None a b = Stayed a b
  Fell status event a b = ⊥

  -- what came of a turn that was stopped at this place; at its look the link may have failed
  abbrev pub FellAt : PeerWords → Place → Status → Point P L → Point P L → Type 0
  FellAt w Looking statuses.LinkFault a b = Stayed a b
  FellAt w Committing statuses.StoreFault a b = Stayed a b
  FellAt w Committing statuses.LinkFault a b = WasLost a b
  FellAt w Committing statuses.Memory a b = WasLost a b
  FellAt w place status a b = Fell status (event_at w place) a b

  -- These turns were made, and a fault came in the next one, at this place. A step was taken on each
  -- event before it, and all that these steps send was put out.
  pub record Broke (w : PeerWords) (status : Status) (turns : List Turn) (place : Place) (a b : Point P L) : Type 0 where
    pub between : Point P L
    pub took : Took (looks_of turns ++ looks_at place) (events_of w turns ++ events_before w place) a between
    pub fell : FellAt w place status between b

-- ## The code of a turn

-- the line of a peer that serves: its link, and what it put out
abbrev pub line : {D L : Type 0} → Server D → L → Line L
line server link = record { link = link; unsent = server.unsent.items }

-- where a peer that serves stands, on its line
abbrev pub point : {D L : Type 0} → Server D → L → Point (OnDisks D) (Line L)
point server link = record { state = server.peer.machine.state; stores = (server.peer.machine.stores, record {}); link = line server link }

-- the peer of these words takes steps, and the calls that it has not answered are of clients
pub record CanStep {B N F : Type 0} (w : PeerWords) (p : Peer B N F) : Type 0 where
  pub me : p.me ≡ w.me
  pub goes_on : p.halted ≡ false
  pub callers : AllFrom is_client (calls_in p.machine.state.phase)

-- and what it put out can be sent
pub record IsReady {D : Type 0} (w : PeerWords) (s : Server D) : Type 0 where
  pub peer : CanStep w s.peer
  pub sendable : All (IsSendable w.me) s.unsent.items

module _ {D : Type 0} (seen : D → Option (List ℕ)) (faults : D → ℕ) (me : ℕ) (event : Event) where
  -- a step was taken on this event, and what it put out is the last to be sent
  pub record Stepped (a b : Server D) : Type 0 where
    pub out : Outbox
    pub ran : Runs (disks_do seen faults) (disks_refuse seen faults) (step_of me event a.peer.machine.state) (a.peer.machine.stores, record {}) [] (Finished b.peer.machine.state (out_of out)) (b.peer.machine.stores, record {}) out.notes.items
    pub unsent : b.unsent.items ≡ a.unsent.items ++ out ∷ []

  -- the step was stopped, or there was no memory to keep what it put out
  pub record StepStopped (status : Status) (a b : Server D) : Type 0 where
    pub ran : RanInto (disks_do seen faults) (disks_refuse seen faults) status (step_of me event a.peer.machine.state) (a.peer.machine.stores, record {}) (b.peer.machine.stores, record {})
    pub unsent : b.unsent.items ≡ a.unsent.items

  pub record StepLost (status : Status) (a b : Server D) : Type 0 where
    pub memory : status ≡ statuses.Memory
    pub out : Outbox
    pub ran : Runs (disks_do seen faults) (disks_refuse seen faults) (step_of me event a.peer.machine.state) (a.peer.machine.stores, record {}) [] (Finished b.peer.machine.state (out_of out)) (b.peer.machine.stores, record {}) out.notes.items
    pub unsent : b.unsent.items ≡ a.unsent.items

  -- why no step was taken on this event
  abbrev pub StepBroke : Status → Server D → Server D → Type 0
  StepBroke status a b = StepStopped status a b ⊎ StepLost status a b

-- a step was taken on a tick, if one was due, and nothing else changed
abbrev pub SteppedIf : {D : Type 0} → (D → Option (List ℕ)) → (D → ℕ) → ℕ → Bool → Server D → Server D → Type 0
SteppedIf seen faults me true a b = Stepped seen faults me happenings.Tick a b
SteppedIf seen faults me false a b = b ≡ a

-- the ticker was asked, and a step was taken on a tick that was due
pub record TickCame {D T : Type 0} (seen : D → Option (List ℕ)) (faults : D → ℕ) (coming : T → Option (ℕ → Bool)) (me : ℕ) (a b : Server D) (s t : T) : Type 0 where
  pub due : Bool
  pub answers : AnswersNext (coming s) (coming t) due
  pub took : SteppedIf seen faults me due a b

-- what the peer does on this look
abbrev pub IsFound : PeerWords → Option (List ℕ) → Found → Type 0
IsFound w look found.Nothing = look ≡ None
IsFound w look found.Ignored = (event_of w look ≡ None) × (ignored_by w look ≡ 1)
IsFound w look (found.Taken event) = (event_of w look ≡ Some event) × MayCome w.me event × ComesFrom is_client event

-- A look failed, or memory ran out for the frame that it gave.
pub record FindBroke (old new : Option (List (Option (List ℕ)))) (status : Status) : Type 0 where
  pub place : Place
  pub early : ticked_at place ≡ []
  pub inside : IsInTurn place
  pub looked : Grew old new (looks_at place)
  pub kind : (status ≡ statuses.Memory) ⊎ ((place ≡ Looking) × (status ≡ statuses.LinkFault))

-- the frame of this look is counted
pub record CountsLook (w : PeerWords) (look : Option (List ℕ)) (old new : Counts) : Type 0 where
  pub taken : new.taken ≡ old.taken + one_if_some (event_of w look)
  pub ignored : new.ignored ≡ old.ignored + ignored_by w look
  pub one : new.taken + new.ignored ≤ old.taken + old.ignored + 1

-- the frames of these turns were counted
pub record AreCounted (w : PeerWords) (turns : List Turn) (counts : Counts) : Type 0 where
  pub taken : counts.taken ≡ taken_in w turns
  pub ignored : counts.ignored ≡ ignored_in w turns
  pub few : counts.taken + counts.ignored ≤ length turns

module _ {P L : Type 0} (does : P → (call : Call) → AnswerOf call → P → Type 0) (refuses : P → Call → PeerError → P → Type 0)
    (sent : L → Option (List (ℕ × List ℕ))) (given : L → Option (List (Option (List ℕ)))) (w : PeerWords) where
  -- a look, and the step on what it gave
  pub record LookMade (a b : Point P L) (old new : Counts) : Type 0 where
    pub look : Option (List ℕ)
    pub took : Took does refuses sent given w.me (look ∷ []) (listed (event_of w look)) a b
    pub counted : CountsLook w look old new

  -- a fault in a look
  pub record LookBroke (status : Status) (a b : Point P L) : Type 0 where
    pub place : Place
    pub early : ticked_at place ≡ []
    pub inside : IsInTurn place
    pub broke : Broke does refuses sent given w.me w status [] place a b

module _ {P L T : Type 0} (does : P → (call : Call) → AnswerOf call → P → Type 0) (refuses : P → Call → PeerError → P → Type 0)
    (sent : L → Option (List (ℕ × List ℕ))) (given : L → Option (List (Option (List ℕ)))) (coming : T → Option (ℕ → Bool)) (w : PeerWords) where
  -- a question to the ticker, and the step on a tick that was due
  pub record TickMade (a b : Point P L) (s t : T) : Type 0 where
    pub due : Bool
    pub answers : AnswersNext (coming s) (coming t) due
    pub took : Took does refuses sent given w.me [] (tick_if due) a b

  -- a turn
  pub record TurnMade (a b : Point P L) (s t : T) (old new : Counts) : Type 0 where
    pub turn : Turn
    pub took : Took does refuses sent given w.me (turn.look ∷ []) (listed (event_of w turn.look) ++ tick_if turn.due) a b
    pub answers : AnswersNext (coming s) (coming t) turn.due
    pub counted : CountsLook w turn.look old new

  -- a fault in a turn
  pub record TurnBroke (status : Status) (a b : Point P L) (s t : T) : Type 0 where
    pub place : Place
    pub inside : IsInTurn place
    pub broke : Broke does refuses sent given w.me w status [] place a b
    pub ticks : TicksOn (coming s) (coming t) (ticked_at place)

  -- these turns were made
  pub record TurnsMade (a b : Point P L) (s t : T) (turns : List Turn) : Type 0 where
    pub took : Took does refuses sent given w.me (looks_of turns) (events_of w turns) a b
    pub ticks : TicksOn (coming s) (coming t) turns

  -- after these turns a fault came in the next one, at this place
  pub record TurnsBroke (status : Status) (a b : Point P L) (s t : T) (turns : List Turn) (place : Place) : Type 0 where
    pub broke : Broke does refuses sent given w.me w status turns place a b
    pub ticks : TicksOn (coming s) (coming t) (turns ++ ticked_at place)
