-- How a peer starts on its disks.
use Rattle.std.specs.Prelude.{◌≡◌, ◌⊎◌, ℕ, true, List, [], Option, None, Result}
use Rattle.disk_stores.specs.LogFiles.{IsClean}
use Rattle.disk_stores.specs.Records.{entries_of}
use Rattle.disk_stores.specs.DiskCalls.{HoldsNodes, HoldsObjects}
use Rattle.disk_stores.specs.NodeMaps.{nodes_of}
use Rattle.ens_base.specs.Causes.{Rose}
use Rattle.ens_base.specs.declared.peer_words.PeerWords.{PeerWords}
use Rattle.ens_base.specs.declared.status.Status.{Status}
use Rattle.fact_store.specs.Files.{file_kept, file_serial}
use Rattle.fact_store.specs.Keeping.{file_fact}
use Rattle.stored_formats.specs.declared.saved.SavedFact.{SavedFact}
use Rattle.fact_store.specs.Held.{held_kept}
use Rattle.fact_store.specs.declared.file.FactFile.{FactFile}
use Rattle.stored_formats.specs.declared.fact_error.FactError.{FactError}
use Rattle.peer_spec.specs.Starts.{start_of}
use Rattle.peer_state.specs.declared.state.Mode.{Mode}
use Rattle.peer_state.specs.declared.state.State.{State}
use Rattle.slot_disk.specs.Crash.{LeavesOnly, SeenIn, Told}
use Rattle.slot_disk.specs.SlotFiles.{IsAtRest}
use Rattle.slot_disk.specs.Slots.{current, last_serial}
use Rattle.step_plans.specs.Plans.{Finished, Runs, nothing}
use Rattle.tree_node.specs.declared.version.TreeVersion.TheVariants.{Two}
use Rattle.peer_server.specs.DiskPeers.{Of, OnDisks, disks_do, disks_refuse, disks_under}
use Rattle.peer_server.specs.Faults.{Between, DiskRose, IsCause, IsStartCause}
use Rattle.peer_server.specs.Commits.{LeavesFacts}
use Rattle.peer_server.specs.Turning.{RanInto}
use Rattle.peer_server.specs.declared.disks.Disks.{Disks}

-- how a peer on disks is started: it keeps a seal, and its tree has version two
abbrev pub served_mode : Mode
served_mode = record { sealing = true; tree = Two }

module _ {D : Type 0} (seen : D → Option (List ℕ)) (faults : D → ℕ) where
  -- The logs of nodes and objects were opened, and no fault was counted. The root of the tree is not
  -- read yet.
  pub record LogsOpened (nodes objects : D) (s : OnDisks D) : Type 0 where
    pub nodes_held : Told (seen nodes) (λ file. HoldsNodes seen s.0.tree.store (nodes_of file))
    pub nodes_good : faults s.0.tree.store.log.file.disk ≡ faults nodes
    pub objects_held : Told (seen objects) (λ file. HoldsObjects seen s.0.backend (entries_of file))
    pub objects_good : faults s.0.backend.log.file.disk ≡ faults objects
    pub clean : IsClean s.0.tree.store.log.file × IsClean s.0.backend.log.file
    pub unread : s.0.tree.top ≡ None

  -- one of the logs was not opened, and both hold what they held
  pub record LogsRefused (status : Status) (nodes objects nodes_after objects_after : D) : Type 0 where
    pub nodes_held : Told (seen nodes) (λ file. SeenIn seen nodes_after (λ after. nodes_of after ≡ nodes_of file))
    pub objects_held : Told (seen objects) (λ file. SeenIn seen objects_after (λ after. entries_of after ≡ entries_of file))
    pub cause : IsCause (Rose (faults nodes) (faults nodes_after) ⊎ Rose (faults objects) (faults objects_after)) ⊥ status

module _ {D : Type 0} (seen : D → Option (List ℕ)) (may_leave : D → List ℕ → Type 0) (moment : D → ℕ) (left_since : D → ℕ → List ℕ → Type 0) (faults : D → ℕ) where
  -- Stores and a file of facts were opened on disks, and no fault was counted: over disks that tell their
  -- bytes they hold what the disks held. A crash of the disk of the facts at any moment until then leaves
  -- what it might have left before. The root of the tree is not read yet.
  pub record Opened (disks : Disks D) (s : OnDisks D) (file : FactFile D) : Type 0 where
    pub facts : Of disks.facts (λ d. Told (seen d) (λ bytes. IsAtRest seen may_leave file.slots × (file_kept file ≡ file_fact bytes)) × (faults file.slots.disk ≡ faults d))
    pub serial : Of disks.facts (λ d. Told (seen d) (λ bytes. file_serial file ≡ last_serial (current bytes)))
    pub moments : Of disks.facts (λ d. LeavesOnly moment left_since d file.slots.disk (may_leave d))
    pub held : held_kept s.0.facts ≡ file_kept file
    pub nodes : Of disks.nodes (λ d. Told (seen d) (λ bytes. HoldsNodes seen s.0.tree.store (nodes_of bytes)) × (faults s.0.tree.store.log.file.disk ≡ faults d))
    pub objects : Of disks.objects (λ d. Told (seen d) (λ bytes. HoldsObjects seen s.0.backend (entries_of bytes)) × (faults s.0.backend.log.file.disk ≡ faults d))
    pub unspent : file.spent ≡ 0
    pub clean : IsClean s.0.tree.store.log.file × IsClean s.0.backend.log.file
    pub unread : s.0.tree.top ≡ None

  -- A disk was not opened. A crash of the disk of the facts, at the end and at any moment until then,
  -- leaves what it might have left before, and a read of it returns such bytes; the others hold what
  -- they held.
  pub record Unopened (status : Status) (disks disks_after : Disks D) : Type 0 where
    pub facts : Between disks.facts disks_after.facts (λ d e. (c : List ℕ) → may_leave e c → may_leave d c)
    pub moments : Between disks.facts disks_after.facts (λ d e. LeavesOnly moment left_since d e (may_leave d))
    pub read : Between disks.facts disks_after.facts (λ d e. Told (seen d) (λ file. SeenIn seen e (may_leave d)))
    pub nodes : Between disks.nodes disks_after.nodes (λ d e. Told (seen d) (λ file. SeenIn seen e (λ after. nodes_of after ≡ nodes_of file)))
    pub objects : Between disks.objects disks_after.objects (λ d e. Told (seen d) (λ file. SeenIn seen e (λ after. entries_of after ≡ entries_of file)))
    pub cause : IsCause (DiskRose faults disks disks_after) ⊥ status

  -- the peer opened its stores on the disks, and started: in this state, with these stores and this file
  -- of facts, to which nothing was committed yet
  pub record Began (w : PeerWords) (disks : Disks D) (x : State) (s : OnDisks D) (file : FactFile D) : Type 0 where
    pub first : OnDisks D
    pub opened : Opened disks first file
    pub starts : Runs (disks_do seen faults) (disks_refuse seen faults) (start_of served_mode w.view) first [] (Finished x nothing) s []

  -- what a crash leaves of a disk of facts that told its bytes, and this disk is what became of it
  abbrev pub FactsLeft : Disks D → D → (at_end ever : Option (Result SavedFact FactError) → Option (Result SavedFact FactError) → Type 0) → Type 0
  FactsLeft disks last at_end ever = Of disks.facts (λ d. Told (seen d) (λ file. LeavesFacts may_leave moment left_since d last (at_end (file_fact file)) (ever (file_fact file))))

  -- The peer opened its stores, and its start was stopped. Its facts are as they were.
  pub record Unstarted (w : PeerWords) (status : Status) (disks disks_after : Disks D) : Type 0 where
    pub first : OnDisks D
    pub file : FactFile D
    pub opened : Opened disks first file
    pub end : OnDisks D
    pub stops : RanInto (disks_do seen faults) (disks_refuse seen faults) status (start_of served_mode w.view) first end
    pub disks_end : disks_after ≡ disks_under end.0 file
    pub facts : FactsLeft disks file.slots.disk (λ found now. now ≡ found) (λ found now. now ≡ found)
    pub cause : IsCause (IsStartCause faults disks disks_after file) ⊥ status

  -- the peer made no turn
  abbrev pub Refused : PeerWords → Status → Disks D → Disks D → Type 0
  Refused w status disks disks_after = Unopened status disks disks_after ⊎ Unstarted w status disks disks_after
