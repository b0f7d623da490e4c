-- What a backup and a restore print, and what became of the disks.
use Rattle.std.specs.Prelude.{IsSome}
use Rattle.std.proofs.Common.{◌≡◌, ℕ, List, Option, None, Some, refl, subst, sym}
use Rattle.std.specs.Io.KnownBytes.{Appends}
use Rattle.backup_job.specs.Backed.{Backed, PrintsBackup}
use Rattle.backup_job.specs.Disks.{Between}
use Rattle.backup_job.specs.Restored.{PrintsRestore, Restored}
use Rattle.backup_job.proofs.Outlasting.{backed_prints, restored_prints}
use Rattle.ens_base.specs.declared.status.Status.{Status}
use Rattle.command_line.specs.declared.job.Job.{Job}
use Rattle.command_line.specs.declared.job.Job.TheVariants.{Restore}
use Rattle.peer_server.specs.DiskPeers.{AreThere, Of}
use Rattle.peer_server.specs.declared.disks.Disks.{Disks}
use Rattle.ensemble.specs.Top.{ReadsInput}

-- ---- the disks are there

some_of : {D : Type 0} (o : Option D) → Of o (λ d. Unit {0}) → IsSome o
some_of None is = absurd is
some_of (Some d) is = refl

of_some : {D : Type 0} (o : Option D) → IsSome o → Of o (λ d. Unit {0})
of_some None is = absurd cc
of_some (Some d) is = tt

pub both_there : {D : Type 0} (disks : Disks D) → AreThere disks → IsSome disks.nodes × IsSome disks.objects
both_there disks there = (some_of disks.nodes there.1, some_of disks.objects there.2)

pub all_there_still : {D : Type 0} (disks disks_after : Disks D) → AreThere disks → disks_after.facts ≡ disks.facts → IsSome disks_after.nodes → IsSome disks_after.objects → AreThere disks_after
all_there_still {D} disks disks_after there same nodes objects = (subst (λ (o : Option D). Of o (λ d. Unit {0})) (sym same) there.0, of_some disks_after.nodes nodes, of_some disks_after.objects objects)

-- ---- what is printed

module _ {D : Type 0} (seen : D → Option (List ℕ)) (faults : D → ℕ) (nodes objects nodes_after objects_after : Option D) where
  pub backup_text : (status : Status) (text : List ℕ) → Between nodes objects nodes_after objects_after (λ first last. Backed seen faults first last status text) → PrintsBackup status text
  backup_text status text b = backed_prints seen faults b.0 b.1 status text b.4

  pub restore_text : (source : Option (List ℕ)) (status : Status) (text : List ℕ) → Between nodes objects nodes_after objects_after (λ first last. Restored seen faults source first last status text) → PrintsRestore source status text
  restore_text source status text b = restored_prints seen faults source b.0 b.1 status text b.4

-- a backup has no fault of an input
pub no_read : (result : Status) (old new : Option (List ℕ)) → ((result ≡ Status.WriteFault → ⊥) → (text : List ℕ) × PrintsBackup result text × Appends old new text) → result ≡ Status.ReadFault → ⊥
no_read Status.ReadFault old new printed is = (printed (λ e. cc e)).1
no_read result old new printed is = cc

pub restore_reads : (job : Job) → job ≡ Restore → ReadsInput job
restore_reads job is = rw is tt
