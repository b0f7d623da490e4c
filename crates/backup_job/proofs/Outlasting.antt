-- What backups and restores print, and when they run to their end.
use Rattle.std.specs.Prelude.{IsSomeAnd, Vec}
use Rattle.std.specs.declared.alloc.Global.{Global}
use Rattle.std.proofs.Common.{◌≡◌, ◌≢◌, ◌⊎◌, ℕ, List, length, Option, None, Some, Result, Ok, Err, refl, sym, ap, subst, ◌∙◌, inl, inr, arith}
use Rattle.ens_base.specs.declared.status.Status.{Status}
use Rattle.environment.specs.Maps.{Entries}
use Rattle.environment.specs.MemStores.{Held}
use Rattle.disk_stores.specs.Records.{entries_of}
use Rattle.disk_stores.specs.NodeMaps.{nodes_of}
use Rattle.slot_disk.specs.Crash.{Told}
use Rattle.tree_node.specs.declared.position.Position.{Position}
use Rattle.tree_node.specs.declared.version.TreeVersion.{TreeVersion}
use Rattle.tree_backup.specs.Checks.{Spells}
use Rattle.tree_backup.specs.declared.error.BackupError.{BackupError}
use Rattle.tree_backup.specs.declared.error.BackupError.TheVariants as errors
use Rattle.backup_job.specs.Backed.{Backed, CanBackUp, Ends, Gives, GivesTree, IsBackable, IsOfBackup, MayBeMade, PrintsBackup}
use Rattle.backup_job.specs.Disks.{PairRose, error_of}
use Rattle.backup_job.specs.Printed.{IsCheckable, Reports}
use Rattle.backup_job.specs.Restored.{PrintsRestore, Restored}
use Rattle.backup_job.specs.declared.disks.Pair.{Pair}
use Rattle.backup_job.proofs.Completing.{runs_out}

reported : (e : BackupError) (status : Status) (text : List ℕ) → IsOfBackup e → Reports e status text → PrintsBackup status text
reported errors.Failed Status.StoreFault text may h = h
reported errors.Failed status text may h = absurd h
reported (errors.Clash first second) status text may h = absurd h
reported (errors.BookFull n) status text may h = absurd h
reported errors.Memory status text may h = absurd h
reported (errors.Damaged at) Status.Backup text may h = (errors.Damaged at, tt, h)
reported errors.Order Status.Backup text may h = (errors.Order, tt, h)
reported e Status.Backup text may h = absurd may
reported e status text may h = absurd h

prints : (made : Result (Vec ℕ Global) BackupError) (status : Status) (text : List ℕ) → MayBeMade made → Ends made status text → PrintsBackup status text
prints (Ok bytes) Status.Memory text may h = h
prints (Err e) Status.Memory text may h = h
prints (Ok bytes) Status.Done text may h = ((may.0, subst (λ (l : List ℕ). Spells l may.0) (sym h.0) may.1), omega (arith, h.1, ap length h.0))
prints (Ok bytes) Status.Limit text may h = h.1
prints (Ok bytes) status text may h = absurd h
prints (Err e) status text may h = reported e status text may h

-- no error is printed by a job that runs to its end, or when out of memory
not_reported : (e : BackupError) (status : Status) (text : List ℕ) → e ≢ errors.Failed → (IsOfBackup e → e ≡ errors.Order → ⊥) → ((at : Position) → e ≡ errors.Damaged at → ⊥) → IsOfBackup e → Reports e status text → ⊥
not_reported errors.Failed status text calm once whole may h = calm refl
not_reported (errors.Clash first second) status text calm once whole may h = h
not_reported (errors.BookFull n) status text calm once whole may h = h
not_reported errors.Memory status text calm once whole may h = h
not_reported (errors.Damaged at) status text calm once whole may h = whole at refl
not_reported errors.Order status text calm once whole may h = once may refl
not_reported e status text calm once whole may h = may

module _ {D : Type 0} (seen : D → Option (List ℕ)) (faults : D → ℕ) where
  pub backed_prints : (old new : Pair D) (status : Status) (text : List ℕ) → Backed seen faults old new status text → PrintsBackup status text
  backed_prints old new status text b = prints b.made status text b.backs.may b.ends

  pub restored_prints : (source : Option (List ℕ)) (old new : Pair D) (status : Status) (text : List ℕ) → Restored seen faults source old new status text → PrintsRestore source status text
  restored_prints source old new Status.Done text h = record { content = h.0; gave = h.1.0; counted = h.2 }
  restored_prints source old new Status.StoreFault text h = ((h.0, h.1.0), h.2)
  restored_prints source old new Status.Memory text h = h.1
  restored_prints source old new status text h = h.0

  -- a restore of a source that passes runs to its end, if neither the source nor a disk fails
  pub restore_runs_out : (source : Option (List ℕ)) (old new : Pair D) (status : Status) (text : List ℕ) → IsSomeAnd source IsCheckable → (PairRose seen faults old new → ⊥) → Restored seen faults source old new status text → (status ≡ Status.ReadFault → ⊥)
      → (status ≡ Status.Done) ⊎ (status ≡ Status.Memory)
  restore_runs_out source old new Status.Done text free calm h reads = inl refl
  restore_runs_out source old new Status.StoreFault text free calm h reads = absurd (calm (h.1.1.changes.failed refl))
  restore_runs_out source old new Status.Memory text free calm h reads = inr refl
  restore_runs_out source old new status text free calm h reads = runs_out source status text free h.0 reads

  -- what is made of stores that can be backed up
  backable_out : (held : Held) (objects : Entries) (made : Result (Vec ℕ Global) BackupError) (status : Status) (text : List ℕ) (free : IsBackable held objects) → MayBeMade made → GivesTree held objects (Some free.version) made → made ≢ Err errors.Failed → Ends made status text
      → (status ≡ Status.Done) ⊎ (status ≡ Status.Memory)
  backable_out held objects (Ok bytes) Status.Memory text free may gives calm h = inr refl
  backable_out held objects (Err e) Status.Memory text free may gives calm h = inr refl
  backable_out held objects (Ok bytes) Status.Done text free may gives calm h = inl refl
  backable_out held objects (Ok bytes) Status.Limit text free may gives calm h = absurd (omega (arith, h.0, ap length gives.1.spelled, free.few))
  backable_out held objects (Ok bytes) status text free may gives calm h = absurd h
  backable_out held objects (Err e) status text free may gives calm h =
      absurd (not_reported e status text (λ is. calm (ap Err is)) (λ m is. ordered e is gives) (λ at is. damaged e at is gives) may h)
    where
      ordered : (e : BackupError) → e ≡ errors.Order → GivesTree held objects (Some free.version) (Err e) → ⊥
      ordered e is g = let x : GivesTree held objects (Some free.version) (Err errors.Order) = rw is at g in free.once x.1

      damaged : (e : BackupError) (at : Position) → e ≡ errors.Damaged at → GivesTree held objects (Some free.version) (Err e) → ⊥
      damaged e at is g = let x : GivesTree held objects (Some free.version) (Err (errors.Damaged at)) = rw is at g in cc (sym x.1 ∙ free.whole)

  -- a backup of disks that tell what can be backed up runs to its end, if no disk fails
  pub backup_runs_out : (old new : Pair D) (status : Status) (text : List ℕ) → CanBackUp seen faults old → (PairRose seen faults old new → ⊥) → Backed seen faults old new status text
      → (status ≡ Status.Done) ⊎ (status ≡ Status.Memory)
  backup_runs_out old new status text free calm b = by (seen old.nodes) (seen old.objects) free b.backs.gives
    where
      quiet : (made : Result (Vec ℕ Global) BackupError) → made ≡ b.made → made ≢ Err errors.Failed
      quiet made is failed = calm (b.backs.changes.failed (ap error_of (sym is ∙ failed)))

      by : (o p : Option (List ℕ)) → IsSomeAnd o (λ nodes. IsSomeAnd p (λ objects. IsBackable (nodes_of nodes) (entries_of objects))) → Told o (λ nodes. Told p (λ objects. Gives (nodes_of nodes) (entries_of objects) b.made)) → (status ≡ Status.Done) ⊎ (status ≡ Status.Memory)
      by None p f g = absurd f
      by (Some nodes) None f g = absurd f
      by (Some nodes) (Some objects) f g =
          backable_out (nodes_of nodes) (entries_of objects) b.made status text f b.backs.may (subst (λ (o : Option TreeVersion). GivesTree (nodes_of nodes) (entries_of objects) o b.made) f.found g) (quiet b.made refl) b.ends
