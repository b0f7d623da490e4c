-- The facts that a peer commits to its disk, and what is sent after each commit.
use Rattle.std.specs.Prelude.{◌≡◌, ◌⊎◌, ◌<◌, ℕ, List, [], ◌++◌, Option, None, Some, Result, Ok}
use Rattle.ens_base.specs.declared.status.Status.{Status}
use Rattle.ens_base.specs.declared.status.Status.TheVariants as statuses
use Rattle.fact_store.specs.Commits.{Committed}
use Rattle.fact_store.specs.Files.{FileRefuses}
use Rattle.fact_store.specs.Keeping.{Save, file_fact}
use Rattle.fact_store.specs.declared.error.KeepError.TheVariants as keeps
use Rattle.peer_turns.specs.Sending.{SentAll, SentSome}
use Rattle.stored_formats.specs.declared.fact_error.FactError.{FactError}
use Rattle.stored_formats.specs.declared.saved.SavedFact.{SavedFact}
use Rattle.peer_spec.specs.Kept.{AllMayGo}
use Rattle.peer_state.specs.Moves.{saved_by}
use Rattle.peer_state.specs.declared.state.State.{State}
use Rattle.slot_disk.specs.Crash.{LeavesOnly}
use Rattle.step_plans.specs.Calls.{Call, AnswerOf}
use Rattle.step_plans.specs.Outboxes.{out_of}
use Rattle.step_plans.specs.declared.error.PeerError.{PeerError}
use Rattle.step_plans.specs.declared.outbox.Outbox.{Outbox}
use Rattle.peer_turns.specs.Deeds.{Deed, Did}
use Rattle.peer_turns.specs.Going.{Grew}
use Rattle.peer_turns.specs.Ends.{AllTo}
use Rattle.peer_turns.specs.Turns.{is_client}
use Rattle.peer_server.specs.Lines.{frames_waiting}
use Rattle.peer_server.specs.declared.server.Server.{Server}

-- what a step of this peer put out can be sent: messages to other peers, and answers to clients
abbrev pub IsSendable : ℕ → Outbox → Type 0
IsSendable me out = AllMayGo me (out_of out) × AllTo is_client out.answers.items

-- of these frames a prefix was sent, which may be all of them, and nothing else
abbrev pub SentPrefix : Option (List (ℕ × List ℕ)) → Option (List (ℕ × List ℕ)) → List (ℕ × List ℕ) → Type 0
SentPrefix None new frames = Unit {0}
SentPrefix (Some old) new frames = (prefix : List (ℕ × List ℕ)) × (rest : List (ℕ × List ℕ)) × (new ≡ Some (old ++ prefix)) × (frames ≡ prefix ++ rest)

module _ {P : Type 0} (does : P → (call : Call) → AnswerOf call → P → Type 0) (refuses : P → Call → PeerError → P → Type 0) (me : ℕ) (x : State) (s : P) (deeds : List Deed) where
  -- After some of these steps, from the first on, the peer was in this state; after none of them it was
  -- in the state in which it began.
  pub record WasIn (z : State) : Type 0 where
    pub done : List Deed
    pub later : List Deed
    pub all : deeds ≡ done ++ later
    pub stores : P
    pub did : Did does refuses me x s done z stores

  -- what is kept is the fact of such a state, with its seal
  abbrev pub IsFactOfSome : Option (Result SavedFact FactError) → Type 0
  IsFactOfSome kept = (z : State) × WasIn z × (kept ≡ Some (Ok (saved_by z)))

module _ {D L : Type 0} (seen : D → Option (List ℕ)) (may_leave : D → List ℕ → Type 0) (moment : D → ℕ) (left_since : D → ℕ → List ℕ → Type 0) (faults : D → ℕ)
    (sent : L → Option (List (ℕ × List ℕ))) (given : L → Option (List (Option (List ℕ)))) (link_faults : L → ℕ) (me : ℕ) where
  -- The fact of the peer was committed, and then all that its steps had put out was sent.
  pub record CommitMade (a b : Server D) (link link_after : L) : Type 0 where
    pub peer : b.peer ≡ a.peer
    pub fact : Committed seen may_leave moment left_since faults (saved_by a.peer.machine.state) a.facts b.facts
    pub sends : SentAll sent given link_faults (frames_waiting me a.unsent.items) link link_after
    pub none : b.unsent.items ≡ []

  -- The fact was not saved, and nothing was sent.
  pub record WasNotSaved (a b : Server D) (link link_after : L) : Type 0 where
    pub peer : b.peer ≡ a.peer
    pub refused : FileRefuses seen may_leave moment left_since faults a.facts (Save (saved_by a.peer.machine.state)) keeps.Failed b.facts
    pub unsent : b.unsent ≡ a.unsent
    pub still : link_after ≡ link

  -- The fact was committed, but not all that the steps had put out was sent.
  pub record WasNotSent (a b : Server D) (link link_after : L) : Type 0 where
    pub peer : b.peer ≡ a.peer
    pub fact : Committed seen may_leave moment left_since faults (saved_by a.peer.machine.state) a.facts b.facts
    pub sends : SentSome (sent link) (sent link_after) (frames_waiting me a.unsent.items)
    pub looked : Grew (given link) (given link_after) []
    pub none : b.unsent.items ≡ []

  -- why a commit failed
  abbrev pub CommitBroke : Status → (a b : Server D) (link link_after : L) → Type 0
  CommitBroke statuses.StoreFault a b link link_after = WasNotSaved a b link link_after
  CommitBroke statuses.LinkFault a b link link_after = WasNotSent a b link link_after
  CommitBroke statuses.Memory a b link link_after = WasNotSent a b link link_after
  CommitBroke status a b link link_after = ⊥

  -- The peer committed at the end of a turn, and no turn waits any more; or, with fewer than 32 turns that
  -- wait, it did nothing.
  abbrev pub TurnEnded : (waiting left : ℕ) → (a b : Server D) (link link_after : L) → Type 0
  TurnEnded waiting left a b link link_after = (CommitMade a b link link_after × (left ≡ 0)) ⊎ ((b ≡ a) × (link_after ≡ link) × (left ≡ waiting) × (waiting < 32))

-- What a crash leaves of a disk that held a file of facts, between a first state of it and a last one: at
-- the end one fact, and at any moment another, or what it might have left at first.
pub record LeavesFacts {D : Type 0} (may_leave : D → List ℕ → Type 0) (moment : D → ℕ) (left_since : D → ℕ → List ℕ → Type 0) (first last : D) (left ever : Option (Result SavedFact FactError) → Type 0) : Type 0 where
  pub at_end : (c : List ℕ) → may_leave last c → left (file_fact c)
  pub any_moment : LeavesOnly moment left_since first last (λ c. may_leave first c ⊎ ever (file_fact c))
