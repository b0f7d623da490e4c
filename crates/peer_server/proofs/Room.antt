-- A peer whose disk of facts has room ends with a store fault only if one of its disks failed.
use Rattle.std.specs.Prelude.{Option, None, Some}
use Rattle.std.proofs.Common.{◌≡◌, ◌⊎◌, ◌∙◌, ◌+◌, ◌-◌, ◌^◌, ◌*◌, ◌≤◌, ◌<◌, ap, sym, subst, refl, ℕ, Bool, List, [], ◌∷◌, length, Err, inl, inr, arith}
use Rattle.ens_base.specs.declared.peer_words.PeerWords.{PeerWords}
use Rattle.ens_base.specs.declared.status.Status.TheVariants as statuses
use Rattle.fact_store.specs.Commits.{Committed, CommittedAll}
use Rattle.fact_store.specs.Files.{IsSpent, file_kept, file_serial}
use Rattle.fact_store.specs.Keeping.{file_fact}
use Rattle.fact_store.specs.declared.file.FactFile.{FactFile}
use Rattle.stored_formats.specs.declared.fact_error.FactError.{FactError}
use Rattle.stored_formats.specs.declared.saved.SavedFact.{SavedFact}
use Rattle.slot_disk.specs.Crash.{Told}
use Rattle.slot_disk.specs.SlotFiles.{IsAtRest}
use Rattle.slot_disk.specs.Slots.{current, last_serial}
use Rattle.peer_turns.specs.Turns.{Turn}
use Rattle.peer_server.specs.DiskPeers.{Of, OnDisks}
use Rattle.peer_server.specs.Faults.{DiskRose, HasRoom, IsStartCause, IsStoreCause}
use Rattle.peer_server.specs.Serving.{Failed, Interrupted}
use Rattle.peer_server.specs.Starting.{Opened, Unstarted}
use Rattle.peer_server.specs.Turning.{Place, begun_at}
use Rattle.peer_server.specs.declared.disks.Disks.{Disks}

module _ {D : Type 0} (seen : D → Option (List ℕ)) (may_leave : D → List ℕ → Type 0) (moment : D → ℕ) (left_since : D → ℕ → List ℕ → Type 0) (faults : D → ℕ) where
  -- a commit saves at most once
  commit_serial : (fact : SavedFact) (f g : FactFile D) → Committed seen may_leave moment left_since faults fact f g → file_serial g ≤ file_serial f + 1
  commit_serial fact f g (inl same) = let is : file_serial g ≡ file_serial f = ap file_serial same.1 in omega (arith, is)
  commit_serial fact f g (inr done) = omega (arith, done.0.serial)

  commits_serial : (facts : List SavedFact) (f g : FactFile D) → CommittedAll seen may_leave moment left_since faults facts f g → file_serial g ≤ file_serial f + length facts
  commits_serial [] f g commits = let is : file_serial g ≡ file_serial f = ap file_serial commits in omega (arith, is)
  commits_serial (fact ∷ facts) f g commits = omega (arith, commit_serial fact f commits.0 commits.1, commits_serial facts commits.0 g commits.2)

  -- what was opened on a disk that tells these bytes
  told_of : (d : D) (bytes : List ℕ) (P : List ℕ → Type 0) → seen d ≡ Some bytes → Told (seen d) P → P bytes
  told_of d bytes P is told = subst (λ (o : Option (List ℕ)). Told o P) is told

  spent_not : (first saves most last : ℕ) → first + most < 2 ^ 64 - 1 → last ≤ first + saves → saves ≤ most → last ≡ 2 ^ 64 - 1 → ⊥
  spent_not first saves most last room few all is = omega (arith, room, few, all, is)

  begin : (first : OnDisks D) (file : FactFile D) (disks : Disks D) (saves : ℕ) → Opened seen may_leave moment left_since faults disks first file → Of disks.facts (HasRoom seen saves) → (file_serial file + saves < 2 ^ 64 - 1) × ((why : FactError) → file_kept file ≡ Some (Err why) → ⊥)
  begin first file disks saves opened room = by disks.facts opened.facts opened.serial room
    where
      on : (d : D) → Told (seen d) (λ bytes. IsAtRest seen may_leave file.slots × (file_kept file ≡ file_fact bytes)) → Told (seen d) (λ bytes. file_serial file ≡ last_serial (current bytes)) → HasRoom seen saves d
          → (file_serial file + saves < 2 ^ 64 - 1) × ((why : FactError) → file_kept file ≡ Some (Err why) → ⊥)
      on d held serial room =
          let is : file_serial file ≡ last_serial (current room.bytes) = told_of d room.bytes (λ (bytes : List ℕ). file_serial file ≡ last_serial (current bytes)) room.told serial in
          let kept : file_kept file ≡ file_fact room.bytes = (told_of d room.bytes (λ (bytes : List ℕ). IsAtRest seen may_leave file.slots × (file_kept file ≡ file_fact bytes)) room.told held).1 in
          (omega (arith, is, room.room), λ why bad. room.fact why (sym kept ∙ bad))

      by : (o : Option D) → Of o (λ d. Told (seen d) (λ bytes. IsAtRest seen may_leave file.slots × (file_kept file ≡ file_fact bytes)) × (faults file.slots.disk ≡ faults d)) → Of o (λ d. Told (seen d) (λ bytes. file_serial file ≡ last_serial (current bytes))) → Of o (HasRoom seen saves)
          → (file_serial file + saves < 2 ^ 64 - 1) × ((why : FactError) → file_kept file ≡ Some (Err why) → ⊥)
      by None held serial room = absurd room
      by (Some d) held serial room = on d held.0 serial room

  module _ {L T : Type 0} (sent : L → Option (List (ℕ × List ℕ))) (given : L → Option (List (Option (List ℕ)))) (link_faults : L → ℕ) (coming : T → Option (ℕ → Bool)) (w : PeerWords)
      (disks disks_after : Disks D) (link link_after : L) (ticker ticker_after : T) (room : Of disks.facts (HasRoom seen (w.turns + 1))) where
    turns_cause : (turns : List Turn) (place : Place) → Interrupted seen may_leave moment left_since faults sent given link_faults coming w statuses.StoreFault disks disks_after link link_after ticker ticker_after turns place → DiskRose faults disks disks_after
    turns_cause turns place broke = by broke.cause
      where
        few : (saves turns begun all : ℕ) → saves ≤ turns + 1 → turns + begun ≤ all → saves ≤ all + 1
        few saves turns begun all most fewer = omega (arith, most, fewer)

        by : IsStoreCause faults disks disks_after broke.file broke.end_file → DiskRose faults disks disks_after
        by (inl rose) = rose
        by (inr spent) =
            let start = begin broke.began.first broke.first_file disks (w.turns + 1) broke.began.opened room in
            absurd
            (spent_not (file_serial broke.first_file) (length broke.durable.facts) (w.turns + 1) (file_serial broke.file) start.0 (commits_serial broke.durable.facts broke.first_file broke.file broke.durable.commits)
            (few (length broke.durable.facts) (length turns) (begun_at place) w.turns broke.saves broke.fewer) spent.last)

    start_cause : Unstarted seen may_leave moment left_since faults w statuses.StoreFault disks disks_after → DiskRose faults disks disks_after
    start_cause stopped = by stopped.cause
      where
        by : IsStartCause faults disks disks_after stopped.file → DiskRose faults disks disks_after
        by (inl rose) = rose
        by (inr bad) = absurd ((begin stopped.first stopped.file disks (w.turns + 1) stopped.opened room).1 bad.0 bad.1)

    pub disk_failed : Failed seen may_leave moment left_since faults sent given link_faults coming w statuses.StoreFault disks disks_after link link_after ticker ticker_after → DiskRose faults disks disks_after
    disk_failed (inl (turns, place, broke)) = turns_cause turns place broke
    disk_failed (inr (inl unopened, same_link, same_ticker)) = unopened.cause
    disk_failed (inr (inr unstarted, same_link, same_ticker)) = start_cause unstarted
