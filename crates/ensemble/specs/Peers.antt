-- The jobs that use a link or disks, and what they leave of the disks, the link and the ticker.
use Rattle.std.specs.Prelude.{◌≡◌, ◌⊎◌, ℕ, ◌+◌, Bool, List, Option, None, Some, Result}
use Rattle.backup_job.specs.Backed.{Backed, CanBackUp}
use Rattle.backup_job.specs.Disks.{AreBoth, Between, PairRose}
use Rattle.backup_job.specs.Restored.{Restored}
use Rattle.backup_job.specs.declared.disks.Pair.{Pair}
use Rattle.cluster.specs.Ends.{EndsOverBook}
use Rattle.ens_base.specs.Causes.{Rose}
use Rattle.ens_base.specs.declared.peer_words.ClusterWords.{ClusterWords}
use Rattle.ens_base.specs.declared.peer_words.PeerWords.{PeerWords}
use Rattle.ens_base.specs.declared.status.Status.{Status}
use Rattle.command_line.specs.Forms.{AskFor}
use Rattle.command_line.specs.declared.job.Job.{Job}
use Rattle.command_line.specs.declared.job.Job.TheVariants.{Peer, Cluster, Backup, Restore}
use Rattle.peer_server.specs.DiskPeers.{Of}
use Rattle.peer_server.specs.Faults.{DiskRose, HasRoom, fault_text}
use Rattle.peer_server.specs.Serving.{Ended, Printed}
use Rattle.peer_server.specs.declared.disks.Disks.{Disks}
use Rattle.ensemble.specs.declared.arguments.ArgumentsError.{ArgumentsError}
use Rattle.ensemble.specs.Top.{GivenFor}

-- the first of a job that serves as a peer, the second of one that runs a cluster, the third of a backup, the
-- fourth of a restore, and the fifth of every other job
abbrev pub OnOutside : Job → (PeerWords → Type 0) → (ClusterWords → Type 0) → (backup restore others : Type 0) → Type 0
OnOutside (Peer w) P Q backup restore others = P w
OnOutside (Cluster w) P Q backup restore others = Q w
OnOutside Backup P Q backup restore others = backup
OnOutside Restore P Q backup restore others = restore
OnOutside job P Q backup restore others = others

-- a peer and a cluster use a link, and a peer, a backup and a restore use disks
abbrev pub UsesOutside : Job → Type 0
UsesOutside (Peer w) = Unit {0}
UsesOutside (Cluster w) = Unit {0}
UsesOutside Backup = Unit {0}
UsesOutside Restore = Unit {0}
UsesOutside job = ⊥

-- the words ask for one of them
abbrev pub AskForOutside : List (List ℕ) → Type 0
AskForOutside words = (job : Job) × AskFor words job × UsesOutside job

-- the disks, the link and the ticker are as they were
abbrev pub AreUntouched : {D L T : Type 0} → Disks D → Disks D → L → L → T → T → Type 0
AreUntouched disks disks_after link link_after ticker ticker_after = (disks_after ≡ disks) × (link_after ≡ link) × (ticker_after ≡ ticker)

-- the words were read, and ask for a job that uses a link or disks
abbrev pub GivenForOutside : Result (List (List ℕ)) ArgumentsError → Type 0
GivenForOutside given = (job : Job) × GivenFor given job × UsesOutside job

-- this is the job that the words ask for, or they were not read or ask for none
abbrev pub IsJobOf : Result (List (List ℕ)) ArgumentsError → Option Job → Type 0
IsJobOf given (Some job) = GivenFor given job
IsJobOf given None = (job : Job) → ¬ GivenFor given job

module _ {D L T : Type 0} (seen : D → Option (List ℕ)) (may_leave : D → List ℕ → Type 0) (moment : D → ℕ) (left_since : D → ℕ → List ℕ → Type 0) (faults : D → ℕ)
    (sent : L → Option (List (ℕ × List ℕ))) (given : L → Option (List (Option (List ℕ)))) (link_faults : L → ℕ) (coming : T → Option (ℕ → Bool)) where
  -- what became of a peer of these words, and what was printed of the text with which it ended
  abbrev pub HasServed : Disks D → Disks D → L → L → T → T → (old new : Option (List ℕ)) → (before now : ℕ) → Status → PeerWords → Type 0
  HasServed disks disks_after link link_after ticker ticker_after old new before now result w =
      (status : Status) × (text : List ℕ) × Ended seen may_leave moment left_since faults sent given link_faults coming w disks disks_after link link_after ticker ticker_after status text × Printed old new before now status text result

  -- the same, unless memory ran out before the words were read
  abbrev pub CameToServe : Disks D → Disks D → L → L → T → T → (old new : Option (List ℕ)) → (before now : ℕ) → Status → PeerWords → Type 0
  CameToServe disks disks_after link link_after ticker ticker_after old new before now result w =
      HasServed disks disks_after link link_after ticker ticker_after old new before now result w
      ⊎ (AreUntouched disks disks_after link link_after ticker ticker_after × Printed old new before now Status.Memory (fault_text Status.Memory) result)

  -- what became of a cluster of these words, whose script is in this source, and what was printed of the text
  -- with which it ended
  abbrev pub HasRecorded : Disks D → Disks D → L → L → T → T → Option (List ℕ) → (old new : Option (List ℕ)) → (before now : ℕ) → Status → ClusterWords → Type 0
  HasRecorded disks disks_after link link_after ticker ticker_after source old new before now result w =
      (disks_after ≡ disks) × (ticker_after ≡ ticker)
      × ((status : Status) × (text : List ℕ) × EndsOverBook sent given link_faults w source link link_after status text × Printed old new before now status text result)

  -- the same, unless memory ran out before the words were read
  abbrev pub CameToRecord : Disks D → Disks D → L → L → T → T → Option (List ℕ) → (old new : Option (List ℕ)) → (before now : ℕ) → Status → ClusterWords → Type 0
  CameToRecord disks disks_after link link_after ticker ticker_after source old new before now result w =
      HasRecorded disks disks_after link link_after ticker ticker_after source old new before now result w
      ⊎ (AreUntouched disks disks_after link link_after ticker ticker_after × Printed old new before now Status.Memory (fault_text Status.Memory) result)

module _ {D L T : Type 0} (seen : D → Option (List ℕ)) (faults : D → ℕ) (disks disks_after : Disks D) (link link_after : L) (ticker ticker_after : T) where
  -- A job changed the disks of nodes and of objects so, and ended so. The disk of facts, the link and the ticker
  -- are as they were.
  abbrev pub HasChanged : (Pair D → Pair D → Status → List ℕ → Type 0) → (old new : Option (List ℕ)) → (before now : ℕ) → Status → Type 0
  HasChanged Ends old new before now result =
      (disks_after.facts ≡ disks.facts) × (link_after ≡ link) × (ticker_after ≡ ticker)
      × ((status : Status) × (text : List ℕ) × Between disks.nodes disks.objects disks_after.nodes disks_after.objects (λ first last. Ends first last status text) × Printed old new before now status text result)

  -- what became of a backup
  abbrev pub HasBackedUp : (old new : Option (List ℕ)) → (before now : ℕ) → Status → Type 0
  HasBackedUp old new before now result = HasChanged (λ first last status text. Backed seen faults first last status text) old new before now result

  -- what became of a restore of the backup in this source
  abbrev pub HasRestored : Option (List ℕ) → (old new : Option (List ℕ)) → (before now : ℕ) → Status → Type 0
  HasRestored source old new before now result = HasChanged (λ first last status text. Restored seen faults source first last status text) old new before now result

  -- the same, unless memory ran out before the words were read
  abbrev pub CameToBackUp : (old new : Option (List ℕ)) → (before now : ℕ) → Status → Type 0
  CameToBackUp old new before now result =
      HasBackedUp old new before now result ⊎ (AreUntouched disks disks_after link link_after ticker ticker_after × Printed old new before now Status.Memory (fault_text Status.Memory) result)

  abbrev pub CameToRestore : Option (List ℕ) → (old new : Option (List ℕ)) → (before now : ℕ) → Status → Type 0
  CameToRestore source old new before now result =
      HasRestored source old new before now result ⊎ (AreUntouched disks disks_after link link_after ticker ticker_after × Printed old new before now Status.Memory (fault_text Status.Memory) result)

module _ {D L : Type 0} (seen : D → Option (List ℕ)) (faults : D → ℕ) (link_faults : L → ℕ) (disks disks_after : Disks D) (link link_after : L) where
  -- No disk of the peer failed, and its link counted no fault. The disk of facts tells a fact or nothing, and has
  -- room for one save in each turn and one more.
  abbrev pub CanServe : PeerWords → Type 0
  CanServe w = (¬ DiskRose faults disks disks_after) × Of disks.facts (HasRoom seen (w.turns + 1)) × (¬ Rose (link_faults link) (link_faults link_after))

  -- the disks of nodes and of objects are so, before and after
  abbrev pub DisksAre : (Pair D → Pair D → Type 0) → Type 0
  DisksAre P = (first last : Pair D) → AreBoth disks.nodes disks.objects first → AreBoth disks_after.nodes disks_after.objects last → P first last

  -- Nothing outside failed under the job: under a peer none of its disks nor its link, under a cluster not its
  -- link, and under a backup or a restore neither of its disks. The disk of the facts of a peer tells a fact that can
  -- be replaced, or nothing, and the disks of a backup tell what can be backed up.
  abbrev pub AreSound : Job → Type 0
  AreSound job =
      OnOutside job CanServe (λ w. ¬ Rose (link_faults link) (link_faults link_after)) (DisksAre (λ first last. (¬ PairRose seen faults first last) × CanBackUp seen faults first)) (DisksAre (λ first last. ¬ PairRose seen faults first last)) (Unit {0})
