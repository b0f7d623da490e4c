-- What became of a peer over a link, three disks and a ticker, from its start to the end of its turns
-- or to a fault.
use Rattle.std.specs.Prelude.{◌≡◌, ◌⊎◌, ◌≤◌, ℕ, ◌+◌, ◌*◌, Bool, List, [], ◌∷◌, ◌++◌, length, codes, Option, Some, Result, Ok}
use Rattle.std.specs.Fmt.{decimal}
use Rattle.std.specs.Io.KnownBytes.{Appends}
use Rattle.ens_base.specs.Causes.{Rose}
use Rattle.ens_base.specs.declared.peer_words.PeerWords.{PeerWords}
use Rattle.ens_base.specs.declared.status.Status.{Status}
use Rattle.ens_base.specs.declared.status.Status.TheVariants as statuses
use Rattle.environment.specs.Written.{AppendsPrefix}
use Rattle.fact_store.specs.declared.file.FactFile.{FactFile}
use Rattle.stored_formats.specs.declared.fact_error.FactError.{FactError}
use Rattle.stored_formats.specs.declared.saved.SavedFact.{SavedFact}
use Rattle.peer_state.specs.Moves.{saved_by}
use Rattle.peer_state.specs.declared.state.State.{State}
use Rattle.slot_disk.specs.Crash.{Told}
use Rattle.peer_turns.specs.Deeds.{Deed, frames_in}
use Rattle.peer_turns.specs.Going.{Point}
use Rattle.peer_turns.specs.Turns.{Turn, ignored_in, taken_in}
use Rattle.peer_server.specs.DiskPeers.{KeepsNodes, KeepsObjects, Of, OnDisks, disks_do, disks_refuse, disks_under}
use Rattle.peer_server.specs.Faults.{IsCause, IsStoreCause, fault_text}
use Rattle.peer_server.specs.Commits.{IsFactOfSome}
use Rattle.peer_server.specs.Lines.{Line, looked, posted}
use Rattle.peer_server.specs.Rounds.{Durable, FileEnds, SentUntil}
use Rattle.peer_server.specs.Starting.{Began, FactsLeft, Refused}
use Rattle.peer_server.specs.Turning.{Place, TurnsBroke, TurnsMade, begun_at}
use Rattle.peer_server.specs.declared.disks.Disks.{Disks}

-- the peer is one of at most 31
abbrev pub IsAmongPeers : PeerWords → Type 0
IsAmongPeers w = (1 ≤ w.me) × (w.me ≤ w.peers) × (w.peers ≤ 31)

-- the line that peer `me` prints after its last turn, if it took and ignored so many frames
abbrev pub counts_text : (me taken ignored : ℕ) → List ℕ
counts_text me taken ignored = codes "peer " ++ (decimal me ++ (codes " frames " ++ (decimal taken ++ (codes " refused " ++ (decimal ignored ++ 10 ∷ [])))))

abbrev pub end_text : PeerWords → List Turn → List ℕ
end_text w turns = counts_text w.me (taken_in w turns) (ignored_in w turns)

-- the text was printed and this is the status, or the output failed, and a prefix of the text was
-- printed
abbrev pub Printed : (old new : Option (List ℕ)) → (before now : ℕ) → Status → List ℕ → Status → Type 0
Printed old new before now status text result =
    ((result ≡ status) × Appends old new text) ⊎ ((result ≡ statuses.WriteFault) × AppendsPrefix old new text × Rose before now)

module _ {D L T : Type 0} (seen : D → Option (List ℕ)) (may_leave : D → List ℕ → Type 0) (moment : D → ℕ) (left_since : D → ℕ → List ℕ → Type 0) (faults : D → ℕ)
    (sent : L → Option (List (ℕ × List ℕ))) (given : L → Option (List (Option (List ℕ)))) (link_faults : L → ℕ) (coming : T → Option (ℕ → Bool)) (w : PeerWords) where
  -- what was found at first, or the fact of the state of the peer after some of these steps
  abbrev pub IsFoundOrOfSome : State → OnDisks D → List Deed → (found now : Option (Result SavedFact FactError)) → Type 0
  IsFoundOrOfSome x s deeds found now = (now ≡ found) ⊎ IsFactOfSome (disks_do seen faults) (disks_refuse seen faults) w.me x s deeds now

  -- The peer started and made all its turns. At its end a crash of the disk of the facts leaves the
  -- fact of its state with its seal, and the other two disks hold what its stores hold. At any moment
  -- until then a crash left the fact that the peer found, or that of its state after some of its steps.
  pub record Served (disks disks_after : Disks D) (link link_after : L) (ticker ticker_after : T) (turns : List Turn) : Type 0 where
    pub all : length turns ≡ w.turns
    pub first : Point (OnDisks D) L
    pub link_first : first.link ≡ link
    pub first_file : FactFile D
    pub began : Began seen may_leave moment left_since faults w disks first.state first.stores first_file
    pub end : Point (OnDisks D) L
    pub end_file : FactFile D
    pub made : TurnsMade (disks_do seen faults) (disks_refuse seen faults) sent given coming w first end ticker ticker_after turns
    pub link_end : end.link ≡ link_after
    pub disks_end : disks_after ≡ disks_under end.stores.0 end_file
    pub facts : FactsLeft seen may_leave moment left_since faults disks end_file.slots.disk (λ found now. now ≡ Some (Ok (saved_by end.state))) (IsFoundOrOfSome first.state first.stores made.took.deeds)
    pub nodes : Of disks.nodes (λ d. Told (seen d) (λ file. KeepsNodes seen end.stores.0.tree.store))
    pub objects : Of disks.objects (λ d. Told (seen d) (λ file. KeepsObjects seen end.stores.0.backend))

  -- the fact of the state after the steps that are durable, or what was found if there are none
  abbrev pub IsDurable : (kept : List Deed) → State → (found now : Option (Result SavedFact FactError)) → Type 0
  IsDurable kept z found now = ((kept ≡ []) × (now ≡ found)) ⊎ (now ≡ Some (Ok (saved_by z)))

  -- The peer started, and after these turns a fault came, at this place. The steps until then are those that
  -- are durable and at most 64 that came too late. At most one fact was committed in each turn, and one after
  -- the last; then `file` was the file of facts, and nothing but a save that failed changed it. What the durable
  -- steps put out was sent, or a prefix of it if the fault came while it was sent; and nothing else was. A crash of
  -- the disk of the facts leaves the fact of the state after these, or that after all steps, whose save failed. At
  -- any moment until then it left the fact that the peer found, or that of its state after some of its steps.
  pub record Interrupted (status : Status) (disks disks_after : Disks D) (link link_after : L) (ticker ticker_after : T) (turns : List Turn) (place : Place) : Type 0 where
    pub fewer : length turns + begun_at place ≤ w.turns
    pub first : Point (OnDisks D) (Line L)
    pub first_line : first.link ≡ record { link = link; unsent = [] }
    pub first_file : FactFile D
    pub began : Began seen may_leave moment left_since faults w disks first.state first.stores first_file
    pub end : Point (OnDisks D) (Line L)
    pub end_file : FactFile D
    pub broke : TurnsBroke (disks_do seen faults) (disks_refuse seen faults) (posted sent w.me) (looked given) coming w status first end ticker ticker_after turns place
    pub link_end : end.link.link ≡ link_after
    pub disks_end : disks_after ≡ disks_under end.stores.0 end_file
    pub file : FactFile D
    pub durable : Durable seen may_leave moment left_since faults w.me first.state first.stores broke.broke.took.deeds first_file file
    pub few : length durable.late ≤ 2 * 32
    pub saves : length durable.facts ≤ length turns + 1
    pub file_end : FileEnds seen may_leave moment left_since faults sent given coming w place status (saved_by broke.broke.between.state) file end_file
    pub sends : SentUntil place status (sent link) (sent link_after) (frames_in w.me durable.kept)
    pub facts : FactsLeft seen may_leave moment left_since faults disks end_file.slots.disk (λ found now. IsDurable durable.kept durable.state found now ⊎ (now ≡ Some (Ok (saved_by broke.broke.between.state)))) (IsFoundOrOfSome first.state first.stores broke.broke.took.deeds)
    pub cause : IsCause (IsStoreCause faults disks disks_after file end_file) (Rose (link_faults link) (link_faults link_after)) status

  -- the peer came to a fault, in its turns or before the first of them
  abbrev pub Failed : Status → Disks D → Disks D → L → L → T → T → Type 0
  Failed status disks disks_after link link_after ticker ticker_after =
      ((turns : List Turn) × (place : Place) × Interrupted status disks disks_after link link_after ticker ticker_after turns place)
      ⊎ (Refused seen may_leave moment left_since faults w status disks disks_after × (link_after ≡ link) × (ticker_after ≡ ticker))

  -- The peer ended with this status and prints this text. After the last turn there may be no memory
  -- for the text.
  abbrev pub Ended : Disks D → Disks D → L → L → T → T → Status → List ℕ → Type 0
  Ended disks disks_after link link_after ticker ticker_after statuses.Done text =
      (turns : List Turn) × Served disks disks_after link link_after ticker ticker_after turns × (text ≡ end_text w turns)
  Ended disks disks_after link link_after ticker ticker_after statuses.StoreFault text =
      Failed statuses.StoreFault disks disks_after link link_after ticker ticker_after × (text ≡ fault_text statuses.StoreFault)
  Ended disks disks_after link link_after ticker ticker_after statuses.LinkFault text =
      Failed statuses.LinkFault disks disks_after link link_after ticker ticker_after × (text ≡ fault_text statuses.LinkFault)
  Ended disks disks_after link link_after ticker ticker_after statuses.Memory text =
      (Failed statuses.Memory disks disks_after link link_after ticker ticker_after ⊎ ((turns : List Turn) × Served disks disks_after link link_after ticker ticker_after turns)) × (text ≡ fault_text statuses.Memory)
  Ended disks disks_after link link_after ticker ticker_after status text = ⊥
