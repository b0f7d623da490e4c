-- What a peer did in its turns and in the commits between them.
use Rattle.std.specs.Prelude.{◌≡◌, ◌⊎◌, ◌≤◌, ◌+◌, ◌*◌, ℕ, Bool, List, [], ◌++◌, length, All, Option, Some, Ok}
use Rattle.ens_base.specs.declared.peer_words.PeerWords.{PeerWords}
use Rattle.ens_base.specs.declared.status.Status.{Status}
use Rattle.ens_base.specs.declared.status.Status.TheVariants as statuses
use Rattle.fact_store.specs.Commits.{CommittedAll}
use Rattle.fact_store.specs.Files.{FileRefuses, file_kept}
use Rattle.fact_store.specs.Keeping.{Save}
use Rattle.fact_store.specs.declared.error.KeepError.TheVariants as keeps
use Rattle.fact_store.specs.declared.file.FactFile.{FactFile}
use Rattle.stored_formats.specs.declared.saved.SavedFact.{SavedFact}
use Rattle.peer_state.specs.Moves.{saved_by}
use Rattle.peer_state.specs.declared.state.State.{State}
use Rattle.peer_turns.specs.Deeds.{Deed, Did, frames_in}
use Rattle.peer_turns.specs.Going.{Grew}
use Rattle.peer_turns.specs.Turns.{Turn}
use Rattle.peer_server.specs.Commits.{IsFactOfSome, SentPrefix}
use Rattle.peer_server.specs.DiskPeers.{OnDisks, disks_do, disks_refuse}
use Rattle.peer_server.specs.Lines.{looked, posted}
use Rattle.peer_server.specs.Turning.{Committing, Place, TurnsBroke, TurnsMade, point}
use Rattle.peer_server.specs.declared.server.Server.{Server}

module _ {D : Type 0} (seen : D → Option (List ℕ)) (may_leave : D → List ℕ → Type 0) (moment : D → ℕ) (left_since : D → ℕ → List ℕ → Type 0) (faults : D → ℕ) (me : ℕ) where
  -- Of these steps, taken from a state x with stores s, the first ones are durable: the file of facts keeps
  -- the fact of the state after them. Each fact that was committed is that of the state after some of the
  -- steps. Before the first commit none of them is durable.
  pub record Durable (x : State) (s : OnDisks D) (deeds : List Deed) (f g : FactFile D) : Type 0 where
    pub kept : List Deed
    pub late : List Deed
    pub all : deeds ≡ kept ++ late
    pub state : State
    pub stores : OnDisks D
    pub reached : Did (disks_do seen faults) (disks_refuse seen faults) me x s kept state stores
    pub facts : List SavedFact
    pub commits : CommittedAll seen may_leave moment left_since faults facts f g
    pub each : All (λ (fact : SavedFact). IsFactOfSome (disks_do seen faults) (disks_refuse seen faults) me x s deeds (Some (Ok fact))) facts
    pub newest : ((kept ≡ []) × (g ≡ f)) ⊎ (file_kept g ≡ Some (Ok (saved_by state)))

-- What had been sent of these frames at a fault: if it came in the sending after a commit, a prefix of them,
-- and else all of them. Nothing else had been sent.
abbrev pub SentUntil : Place → Status → Option (List (ℕ × List ℕ)) → Option (List (ℕ × List ℕ)) → List (ℕ × List ℕ) → Type 0
SentUntil Committing statuses.LinkFault old new frames = SentPrefix old new frames
SentUntil Committing statuses.Memory old new frames = SentPrefix old new frames
SentUntil place status old new frames = Grew old new frames

module _ {D L T : Type 0} (seen : D → Option (List ℕ)) (may_leave : D → List ℕ → Type 0) (moment : D → ℕ) (left_since : D → ℕ → List ℕ → Type 0) (faults : D → ℕ)
    (sent : L → Option (List (ℕ × List ℕ))) (given : L → Option (List (Option (List ℕ)))) (coming : T → Option (ℕ → Bool)) (w : PeerWords) where
  -- what became of the file of facts at a fault: if it was the save of a commit, what that save left
  abbrev pub FileEnds : Place → Status → SavedFact → FactFile D → FactFile D → Type 0
  FileEnds Committing statuses.StoreFault fact f g = FileRefuses seen may_leave moment left_since faults f (Save fact) keeps.Failed g
  FileEnds place status fact f g = g ≡ f

  -- these turns were made, and all that their steps put out was sent after a last commit
  pub record AllMade (a b : Server D) (link link_after : L) (s t : T) (turns : List Turn) : Type 0 where
    pub made : TurnsMade (disks_do seen faults) (disks_refuse seen faults) (posted sent w.me) (looked given) coming w (point a link) (point b link_after) s t turns
    pub durable : Durable seen may_leave moment left_since faults w.me a.peer.machine.state (a.peer.machine.stores, record {}) made.took.deeds a.facts b.facts
    pub newest : file_kept b.facts ≡ Some (Ok (saved_by b.peer.machine.state))
    pub none : b.unsent.items ≡ []

  -- These turns were made, and then a fault came, at this place. At most 64 steps are not durable. At most one
  -- fact was committed in each turn, and one after the last.
  pub record BrokeAt (status : Status) (a b : Server D) (link link_after : L) (s t : T) (turns : List Turn) (place : Place) : Type 0 where
    pub broke : TurnsBroke (disks_do seen faults) (disks_refuse seen faults) (posted sent w.me) (looked given) coming w status (point a link) (point b link_after) s t turns place
    pub file : FactFile D
    pub durable : Durable seen may_leave moment left_since faults w.me a.peer.machine.state (a.peer.machine.stores, record {}) broke.broke.took.deeds a.facts file
    pub few : length durable.late ≤ 2 * 32
    pub saves : length durable.facts ≤ length turns + 1
    pub sends : SentUntil place status (sent link) (sent link_after) (frames_in w.me durable.kept)
    pub end : FileEnds place status (saved_by broke.broke.between.state) file b.facts
