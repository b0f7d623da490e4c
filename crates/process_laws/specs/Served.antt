-- What became of a peer that serves on disks, as a life.
use Rattle.std.specs.Prelude.{◌≡◌, ◌⊎◌, ◌≤◌, ◌*◌, ℕ, Bool, List, [], ◌++◌, length, Option, Some, Ok}
use Rattle.ens_base.specs.Lists.{◌∈◌}
use Rattle.ens_base.specs.declared.peer_words.PeerWords.{PeerWords}
use Rattle.ens_base.specs.declared.status.Status.{Status}
use Rattle.peer_server.specs.DiskPeers.{OnDisks, disks_do, disks_refuse, disks_under}
use Rattle.fact_store.specs.declared.file.FactFile.{FactFile}
use Rattle.peer_server.specs.Commits.{SentPrefix}
use Rattle.peer_server.specs.Lines.{Line, looked, posted}
use Rattle.peer_server.specs.Serving.{Ended, IsDurable, IsFoundOrOfSome}
use Rattle.peer_server.specs.Starting.{FactsLeft, Opened, Refused, served_mode}
use Rattle.peer_server.specs.declared.disks.Disks.{Disks}
use Rattle.peer_state.specs.declared.event.Event.{Event}
use Rattle.peer_state.specs.declared.event.Event.TheVariants.{Tick}
use Rattle.peer_state.specs.Moves.{saved_by}
use Rattle.peer_state.specs.declared.state.State.{State}
use Rattle.peer_turns.specs.Deeds.{Deed, Did, events_in, frames_in}
use Rattle.peer_turns.specs.Going.{Point}
use Rattle.peer_turns.specs.Turns.{event_of}
use Rattle.process_laws.specs.ServedLives.{Life}

-- a step was taken on a tick, or on a frame that a look gave and that is for this peer
abbrev pub IsTickOrFrame : PeerWords → List (Option (List ℕ)) → Event → Type 0
IsTickOrFrame w looks event = (event ≡ Tick) ⊎ ((bytes : List ℕ) × (Some bytes ∈ looks) × (event_of w (Some bytes) ≡ Some event))

module _ {D L T : Type 0} (seen : D → Option (List ℕ)) (may_leave : D → List ℕ → Type 0) (moment : D → ℕ) (left_since : D → ℕ → List ℕ → Type 0) (faults : D → ℕ)
    (sent : L → Option (List (ℕ × List ℕ))) (given : L → Option (List (Option (List ℕ)))) (link_faults : L → ℕ) (coming : T → Option (ℕ → Bool)) (w : PeerWords) where
  -- The peer opened its stores and its file of facts on the disks, and lived over the stores and the link,
  -- before which what it puts out waits. It keeps a seal, and its tree has version two. At its end the disks
  -- and the link are these.
  pub record LivedOn (disks disks_after : Disks D) (link link_after : L) : Type 0 where
    pub stores : OnDisks D
    pub file : FactFile D
    pub opened : Opened seen may_leave moment left_since faults disks stores file
    pub end : Point (OnDisks D) (Line L)
    pub end_file : FactFile D
    pub life : Life (disks_do seen faults) (disks_refuse seen faults) (posted sent w.me) (looked given) w.me served_mode w.view stores (record { link = link; unsent = [] }) end
    pub events : (event : Event) → event ∈ events_in life.deeds → IsTickOrFrame w life.looks event
    pub few : length life.looks ≤ w.turns
    pub disks_end : disks_after ≡ disks_under end.stores.0 end_file
    pub link_end : end.link.link ≡ link_after

  -- Others know the first steps of that life, those that are `kept`: of what these put out a prefix was sent,
  -- and nothing else, and a crash of the disk of the facts leaves the fact of the state after them, or the one
  -- that was found if there are none; or else the fact after all steps. The others are few.
  pub record HasLived (disks disks_after : Disks D) (link link_after : L) : Type 0 where
    pub on : LivedOn disks disks_after link link_after
    pub kept : List Deed
    pub late : List Deed
    pub steps : on.life.deeds ≡ kept ++ late
    pub late_few : length late ≤ 2 * 32
    pub state : State
    pub left : OnDisks D
    pub reached : Did (disks_do seen faults) (disks_refuse seen faults) w.me on.life.first.state on.life.first.stores kept state left
    pub sends : SentPrefix (sent link) (sent link_after) (frames_in w.me kept)
    pub facts : FactsLeft seen may_leave moment left_since faults disks on.end_file.slots.disk (λ found now. IsDurable seen may_leave moment left_since faults sent given link_faults coming w kept state found now ⊎ (now ≡ Some (Ok (saved_by on.life.last.state))))
        (IsFoundOrOfSome seen may_leave moment left_since faults sent given link_faults coming w on.life.first.state on.life.first.stores on.life.deeds)

-- A peer that ended as `serve` promises, over disks, a link and a ticker that tell this, has lived, unless it
-- made no turn.
abbrev pub ServedPeersLive : {D L T : Type 0} → (D → Option (List ℕ)) → (D → List ℕ → Type 0) → (D → ℕ) → (D → ℕ → List ℕ → Type 0) → (D → ℕ) → (L → Option (List (ℕ × List ℕ))) → (L → Option (List (Option (List ℕ)))) → (L → ℕ) → (T → Option (ℕ → Bool)) → Type 0
ServedPeersLive {D} {L} {T} seen may_leave moment left_since faults sent given link_faults coming = (w : PeerWords) (disks disks_after : Disks D) (link link_after : L) (ticker ticker_after : T) (status : Status) (text : List ℕ)
    → Ended seen may_leave moment left_since faults sent given link_faults coming w disks disks_after link link_after ticker ticker_after status text
    → HasLived seen may_leave moment left_since faults sent given link_faults coming w disks disks_after link link_after ⊎ Refused seen may_leave moment left_since faults w status disks disks_after
