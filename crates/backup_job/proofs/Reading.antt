-- What a job on a backup read, and what it prints.
use Rattle.std.proofs.Common.{◌≡◌, ℕ, List, Option, Result, Ok, Err, refl, subst, inl}
use Rattle.std.specs.Prelude.{IfOk, string_bytes}
use Rattle.std.specs.Io.KnownBytes.{IsAtEnd}
use Rattle.std.specs.declared.alloc.AllocError.{AllocError}
use Rattle.ens_base.specs.Causes.{Rose}
use Rattle.ens_base.specs.declared.status.Status.{Status}
use Rattle.ens_base.proofs.Statuses.{memory_no_fault}
use Rattle.tree_backup.specs.declared.error.BackupError.{BackupError}
use Rattle.tree_backup.specs.declared.error.BackupError.TheVariants as errors
use Rattle.backup_job.specs.Printed.{EndsAs, GaveAtMost, HasRead, NeedsInput, PrintsCheck, Reads, Reports, Stops, Unread, WasReadWhole, memory_text}
use Rattle.backup_job.specs.Restored.{Restored, RestoresTo}
use Rattle.backup_job.specs.declared.checking.ReadError.{ReadError}
use Rattle.backup_job.specs.declared.checking.ReadError.TheVariants as reads
use Rattle.backup_job.specs.declared.disks.Pair.{Pair}
use Rattle.backup_job.specs.declared.ending.Ending.{Ending}
use Rattle.backup_job.specs.declared.input.InputError.{InputError}
use Rattle.backup_job.specs.declared.input.InputError.TheVariants as inputs

-- an input that was not read
unread_prints : (source : Option (List ℕ)) (e : InputError) (status : Status) (text : List ℕ) → Reads source (Err (reads.Input e)) → Unread e status text → PrintsCheck source status text
unread_prints source inputs.Failed Status.ReadFault text read h = h
unread_prints source inputs.TooLong Status.Limit text read h = (read, h)
unread_prints source e status text read h = absurd h

-- bytes that do not pass
refused_prints : (source : Option (List ℕ)) (e : BackupError) (status : Status) (text : List ℕ) → Reads source (Err (reads.Backup e)) → Reports e status text → PrintsCheck source status text
refused_prints source (errors.Damaged at) status text read h = absurd read.0
refused_prints source errors.Failed status text read h = absurd read.0
refused_prints source (errors.Clash first second) status text read h = absurd h
refused_prints source (errors.BookFull n) status text read h = absurd h
refused_prints source errors.Memory status text read h = absurd h
refused_prints source e Status.Backup text read h = record { error = e; gave = record { bytes = read.1.0; whole = read.1.1; fails = read.1.2 }; named = h }
refused_prints source e status text read h = absurd h

pub stopped_prints : (source : Option (List ℕ)) (e : ReadError) (status : Status) (text : List ℕ) → Reads source (Err e) → Stops e status text → PrintsCheck source status text
stopped_prints source (reads.Input e) status text read h = unread_prints source e status text read h
stopped_prints source (reads.Backup e) status text read h = refused_prints source e status text read h

pub ok_weaker : {A E : Type 0} (r : Result A E) (P Q : A → Type 0) → ((x : A) → P x → Q x) → IfOk r P → IfOk r Q
ok_weaker (Ok x) P Q k h = k x h
ok_weaker (Err e) P Q k h = tt

-- what ended a test of a source that gave no content
done_unread : (e : ReadError) (text : List ℕ) → Stops e Status.Done text → ⊥
done_unread (reads.Input inputs.Failed) text h = h
done_unread (reads.Input inputs.TooLong) text h = h
done_unread (reads.Input inputs.Memory) text h = h
done_unread (reads.Backup e) text h = by e h
  where
    by : (e : BackupError) → Reports e Status.Done text → ⊥
    by errors.Failed h = h
    by (errors.Clash first second) h = h
    by (errors.BookFull n) h = h
    by errors.Memory h = h
    by e h = h

pub stops_done : (e : ReadError) (status : Status) (text : List ℕ) → Stops e status text → status ≡ Status.Done → ⊥
stops_done e status text h is = done_unread e text (subst (λ (s : Status). Stops e s text) is h)

-- an input that was not read to its end, and a status that needs it
unread_needs : (e : InputError) (status : Status) (text : List ℕ) → Unread e status text → NeedsInput status → ⊥
unread_needs inputs.Failed Status.ReadFault text h needs = needs
unread_needs inputs.TooLong Status.Limit text h needs = needs
unread_needs e status text h needs = h

needs_whole : (left : Option (List ℕ)) (e : ReadError) (status : Status) (text : List ℕ) → Stops e status text → WasReadWhole left e → NeedsInput status → IsAtEnd left
needs_whole left (reads.Input e) status text stops whole needs = absurd (unread_needs e status text stops needs)
needs_whole left (reads.Backup e) status text stops whole needs = whole

pub stopped_whole : (ending : Result Ending AllocError) (left : Option (List ℕ)) (e : ReadError) → IfOk ending (λ x. Stops e x.status (string_bytes x.text)) → WasReadWhole left e → IfOk ending (λ x. NeedsInput x.status → IsAtEnd left)
stopped_whole (Ok x) left e stops whole = needs_whole left e x.status (string_bytes x.text) stops whole
stopped_whole (Err x) left e stops whole = tt

-- an ending of this kind
pub as_ok : (ending : Result Ending AllocError) (e : Ending) (text : List ℕ) → ending ≡ Ok e → text ≡ string_bytes e.text → EndsAs ending e.status text
as_ok ending e text is spelled = rw is (refl, spelled)

pub as_err : (ending : Result Ending AllocError) (x : AllocError) → ending ≡ Err x → EndsAs ending Status.Memory memory_text
as_err ending x is = rw is (refl, refl)

-- how far a job read that ends so
pub read_as : (ending : Result Ending AllocError) (source left : Option (List ℕ)) (before now : ℕ) (status : Status) (text : List ℕ) → GaveAtMost 268435457 source left → IfOk ending (λ e. NeedsInput e.status → IsAtEnd left) → IfOk ending (λ e. e.status ≡ Status.ReadFault → Rose before now)
    → IfOk ending (λ e. e.status ≡ Status.ReadFault → GaveAtMost 268435456 source left) → EndsAs ending status text → HasRead source left before now status
read_as (Ok e) source left before now status text taken end fault cut (is, spelled) = rw is (record { taken = taken; end = end; fault = λ x. (fault x, cut x) })
read_as (Err e) source left before now status text taken end fault cut (is, spelled) = rw is (record { taken = taken; end = λ x. absurd x; fault = λ x. absurd (memory_no_fault x) })

-- what a test of a backup prints that ends so
pub checked_as : (ending : Result Ending AllocError) (source : Option (List ℕ)) (status : Status) (text : List ℕ) → IfOk ending (λ e. PrintsCheck source e.status (string_bytes e.text)) → EndsAs ending status text → PrintsCheck source status text
checked_as (Ok e) source status text prints (is, spelled) = rw (is, spelled) prints
checked_as (Err e) source status text prints (is, spelled) = rw (is, spelled) refl

module _ {D : Type 0} (seen : D → Option (List ℕ)) (faults : D → ℕ) where
  -- a source that did not pass touched no disk
  not_done : (source : Option (List ℕ)) (old : Pair D) (status : Status) (text : List ℕ) → (status ≡ Status.Done → ⊥) → PrintsCheck source status text → Restored seen faults source old old status text
  not_done source old Status.Done text other h = absurd (other refl)
  not_done source old Status.StoreFault text other h = absurd h
  not_done source old Status.Memory text other h = (inl refl, h)
  not_done source old status text other h = (h, refl)

  pub not_restored : (source : Option (List ℕ)) (old : Pair D) (e : ReadError) (ending : Result Ending AllocError) → Reads source (Err e) → IfOk ending (λ x. Stops e x.status (string_bytes x.text)) → RestoresTo seen faults source old old ending
  not_restored source old e (Ok x) read stops = not_done source old x.status (string_bytes x.text) (λ is. stops_done e x.status (string_bytes x.text) stops is) (stopped_prints source e x.status (string_bytes x.text) read stops)
  not_restored source old e (Err x) read stops = (inl refl, refl)

  pub restored_as : (source : Option (List ℕ)) (old new : Pair D) (ending : Result Ending AllocError) (status : Status) (text : List ℕ) → RestoresTo seen faults source old new ending → EndsAs ending status text → Restored seen faults source old new status text
  restored_as source old new (Ok e) status text h (is, spelled) = rw (is, spelled) h
  restored_as source old new (Err e) status text h (is, spelled) = rw (is, spelled) h
