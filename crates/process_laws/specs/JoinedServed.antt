-- What `serve` promises of a peer, over disks that tell their bytes, is a life that may be joined with others.
use Rattle.std.specs.Prelude.{◌≡◌, ◌⊎◌, ◌++◌, ℕ, Bool, List, [], Option, None, Some}
use Rattle.disk_stores.specs.Records.{entries_of}
use Rattle.process_laws.specs.Memory.{StandsFor}
use Rattle.disk_stores.specs.NodeMaps.{nodes_of}
use Rattle.ens_base.specs.Limits.{IsBytes}
use Rattle.ens_base.specs.Lists.{◌∈◌}
use Rattle.ens_base.specs.declared.peer_words.PeerWords.{PeerWords}
use Rattle.fact_store.specs.Keeping.{file_fact}
use Rattle.stored_formats.specs.declared.saved.SavedFact.{SavedFact}
use Rattle.process_laws.specs.Moments.{Found}
use Rattle.peer_server.specs.DiskPeers.{Of, disks_do, disks_refuse}
use Rattle.peer_server.specs.declared.disks.Disks.{Disks}
use Rattle.process_laws.specs.Served.{HasLived}
use Rattle.slot_disk.specs.Crash.{LeavesOnly}
use Rattle.peer_turns.specs.Deeds.{Deed}
use Rattle.world_stores.specs.Facts.{kept_of}
use Rattle.process_laws.specs.Acts.{steps}
use Rattle.process_laws.specs.Lives as group
use Rattle.process_laws.specs.Joined.{AreSpoiled, fact_on_disk}

-- the disk is there and tells these bytes
abbrev pub Tells : {D : Type 0} → (D → Option (List ℕ)) → Option D → List ℕ → Type 0
Tells seen None file = ⊥
Tells seen (Some disk) file = seen disk ≡ Some file

-- what looks gave is bytes
abbrev pub AreBytes : List (Option (List ℕ)) → Type 0
AreBytes looks = (bytes : List ℕ) → Some bytes ∈ looks → IsBytes bytes

-- this fact, and what these files of nodes and of objects hold
abbrev pub found_in : Option SavedFact → List ℕ → List ℕ → Found
found_in fact nodes objects = record { fact = fact; nodes = (nodes_of nodes).entries; top = (nodes_of nodes).top; objects = entries_of objects }

module _ {D : Type 0} (seen : D → Option (List ℕ)) (faults : D → ℕ) (w : PeerWords) (found : Found) where
  -- a process of the peer that found this took these steps, each to its end
  abbrev pub IsLifeOf : List Deed → Type 0
  IsLifeOf deeds = group.HasLived (disks_do seen faults) (disks_refuse seen faults) (AreSpoiled seen) (StandsFor seen) fact_on_disk w.view w.me (record { found = found; stages = steps deeds })

  -- this fact is the one that a life of some of these steps leaves
  pub record IsAfterSome (deeds : List Deed) (fact : group.FactRead) : Type 0 where
    pub done : List Deed
    pub later : List Deed
    pub all : deeds ≡ done ++ later
    pub lived : IsLifeOf done
    pub is : fact ≡ fact_on_disk lived.left

module _ {D L T : Type 0} (seen : D → Option (List ℕ)) (may_leave : D → List ℕ → Type 0) (moment : D → ℕ) (left_since : D → ℕ → List ℕ → Type 0) (faults : D → ℕ)
    (sent : L → Option (List (ℕ × List ℕ))) (given : L → Option (List (Option (List ℕ)))) (link_faults : L → ℕ) (coming : T → Option (ℕ → Bool)) where
  -- The process found on its disks the fact that the file of facts holds, or none if it holds none, and what the
  -- other two files hold. Those of its steps of which others know are a life, and so are all of its steps. A
  -- crash of the disk of the facts then leaves the fact that one of these lives leaves, or, if nobody knows of a
  -- step, the facts as they were found. At any moment until then it left the facts as they were found, or the
  -- fact of a life of some of the steps.
  pub record MayBeJoined (w : PeerWords) (disks disks_after : Disks D) (link link_after : L) (served : HasLived seen may_leave moment left_since faults sent given link_faults coming w disks disks_after link link_after) (facts nodes objects : List ℕ) : Type 0 where
    pub fact : Option SavedFact
    pub is : file_fact facts ≡ kept_of fact
    pub lived : IsLifeOf seen faults w (found_in fact nodes objects) served.kept
    pub whole : IsLifeOf seen faults w (found_in fact nodes objects) served.on.life.deeds
    pub at_end : (file : List ℕ) → may_leave served.on.end_file.slots.disk file → (file_fact file ≡ fact_on_disk lived.left) ⊎ ((file_fact file ≡ fact_on_disk whole.left) ⊎ ((served.kept ≡ []) × (file_fact file ≡ file_fact facts)))
    pub ever : Of disks.facts (λ d. LeavesOnly moment left_since d served.on.end_file.slots.disk (λ file. may_leave d file ⊎ ((file_fact file ≡ file_fact facts) ⊎ IsAfterSome seen faults w (found_in fact nodes objects) served.on.life.deeds (file_fact file))))

-- whatever the files hold, and whatever the link gave
abbrev pub ServedLivesJoin : {D L T : Type 0} → (D → Option (List ℕ)) → (D → List ℕ → Type 0) → (D → ℕ) → (D → ℕ → List ℕ → Type 0) → (D → ℕ) → (L → Option (List (ℕ × List ℕ))) → (L → Option (List (Option (List ℕ)))) → (L → ℕ) → (T → Option (ℕ → Bool)) → Type 0
ServedLivesJoin {D} {L} {T} seen may_leave moment left_since faults sent given link_faults coming = (w : PeerWords) (disks disks_after : Disks D) (link link_after : L) (served : HasLived seen may_leave moment left_since faults sent given link_faults coming w disks disks_after link link_after) (facts nodes objects : List ℕ)
    → Tells seen disks.facts facts → Tells seen disks.nodes nodes → Tells seen disks.objects objects → AreBytes served.on.life.looks
    → MayBeJoined seen may_leave moment left_since faults sent given link_faults coming w disks disks_after link link_after served facts nodes objects
