-- What a job on a backup comes to.
use Rattle.std.proofs.Common.{◌≡◌, ◌⊎◌, ℕ, List, [], Option, None, Some, Result, Ok, Err, refl, inl, inr, sym, ap, ◌∙◌, arith}
use Rattle.std.specs.Prelude.{IsSomeAnd}
use Rattle.ens_base.specs.declared.status.Status.{Status}
use Rattle.ens_base.proofs.Statuses.{memory_no_fault}
use Rattle.tree_backup.specs.Checks.{check_of}
use Rattle.tree_backup.specs.declared.error.BackupError.{BackupError}
use Rattle.tree_backup.specs.declared.item.Content.{Content}
use Rattle.backup_job.specs.Printed.{GaveAtMost, HasRead, IsCheckable, PrintsCheck}

pub fault_at_usage : ◌≡◌ {A = Status} Status.Usage Status.ReadFault → ⊥
fault_at_usage e = cc e

-- a job that ended before it began read nothing
gave_none : (source : Option (List ℕ)) → GaveAtMost 268435457 source source
gave_none None = tt
gave_none (Some bytes) = ([], refl, omega arith)

pub usage_read : (source : Option (List ℕ)) (before now : ℕ) → HasRead source source before now Status.Usage
usage_read source before now = record { taken = gave_none source; end = λ e. absurd e; fault = λ e. absurd (fault_at_usage e) }

pub memory_read : (source : Option (List ℕ)) (before now : ℕ) → HasRead source source before now Status.Memory
memory_read source before now = record { taken = gave_none source; end = λ e. absurd e; fault = λ e. absurd (memory_no_fault e) }

not_both : (content : Content) (error : BackupError) → (let r : Result Content BackupError = Ok content in r) ≡ Err error → ⊥
not_both content error e = cc

-- a test that nothing ends early runs to its end
pub runs_out : (source : Option (List ℕ)) (status : Status) (text : List ℕ) → IsSomeAnd source IsCheckable → PrintsCheck source status text → (status ≡ Status.ReadFault → ⊥) → (status ≡ Status.Done) ⊎ (status ≡ Status.Memory)
runs_out None status text free does calm = absurd free
runs_out (Some bytes) Status.Done text free does calm = inl refl
runs_out (Some bytes) Status.Memory text free does calm = inr refl
runs_out (Some bytes) Status.ReadFault text free does calm = absurd (calm refl)
runs_out (Some bytes) Status.Limit text free does calm = absurd (omega (arith, free.few, does.0))
runs_out (Some bytes) Status.Backup text free does calm = absurd (not_both free.content does.error (sym free.passes ∙ ap check_of does.gave.whole.known ∙ does.gave.fails))
runs_out (Some bytes) status text free does calm = absurd does
