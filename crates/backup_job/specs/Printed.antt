-- What the jobs on backups print, and why they end as they do.
use Rattle.std.specs.Prelude.{◌≡◌, ◌<◌, ◌≤◌, ℕ, List, [], ◌∷◌, ◌++◌, length, codes, string_bytes, Option, None, Some, Result, Ok, Err, IfSome}
use Rattle.std.specs.Fmt.{decimal}
use Rattle.std.specs.Io.KnownBytes.{IsAtEnd}
use Rattle.std.specs.declared.alloc.AllocError.{AllocError}
use Rattle.ens_base.specs.Causes.{Rose}
use Rattle.ens_base.specs.declared.status.Status.{Status}
use Rattle.backup_job.specs.declared.checking.ReadError.{ReadError}
use Rattle.backup_job.specs.declared.checking.ReadError.TheVariants as reads
use Rattle.backup_job.specs.declared.ending.Ending.{Ending}
use Rattle.backup_job.specs.declared.input.InputError.{InputError}
use Rattle.backup_job.specs.declared.input.InputError.TheVariants as inputs
use Rattle.tree_backup.specs.Causes.{IsOfCheck, cause_of}
use Rattle.tree_backup.specs.Checks.{Refuses, check_of}
use Rattle.tree_backup.specs.declared.error.BackupError.{BackupError}
use Rattle.tree_backup.specs.declared.error.BackupError.TheVariants.{Failed, Clash, BookFull, Memory}
use Rattle.tree_backup.specs.declared.item.Content.{Content}

-- the source, if known, has more bytes than a backup may have
abbrev pub IsTooLong : Option (List ℕ) → Type 0
IsTooLong None = Unit {0}
IsTooLong (Some bytes) = 268435456 < length bytes

-- how many entries and objects a backup has
abbrev pub content_text : Content → List ℕ
content_text c = codes "entries " ++ (decimal (length c.entries) ++ (codes " objects " ++ (decimal (length c.objects) ++ 10 ∷ [])))

-- the line of a backup that is refused, or of a tree that is not backed up
abbrev pub backup_text : ℕ → List ℕ
backup_text cause = codes "backup " ++ (decimal cause ++ 10 ∷ [])

abbrev pub limit_text : List ℕ
limit_text = codes "limit backup 268435456" ++ 10 ∷ []

-- the line after a disk failed
abbrev pub fault_text : List ℕ
fault_text = codes "store fault" ++ 10 ∷ []

abbrev pub memory_text : List ℕ
memory_text = codes "memory" ++ 10 ∷ []

-- The source gave these bytes, all of them, and a backup may have so many.
pub record IsWhole (source : Option (List ℕ)) (bytes : List ℕ) : Type 0 where
  pub known : IfSome source (λ left. left ≡ bytes)
  pub few : length bytes ≤ 268435456

-- the source gave a backup that passes and holds this content, and nothing behind it
pub record GaveContent (source : Option (List ℕ)) (content : Content) : Type 0 where
  pub bytes : List ℕ
  pub whole : IsWhole source bytes
  pub passes : check_of bytes ≡ Ok content

-- the source gave bytes that do not pass, for this reason
pub record GaveFault (source : Option (List ℕ)) (error : BackupError) : Type 0 where
  pub bytes : List ℕ
  pub whole : IsWhole source bytes
  pub fails : check_of bytes ≡ Err error

-- the bytes pass, and the text counts what they hold
pub record IsCounted (source : Option (List ℕ)) (text : List ℕ) : Type 0 where
  pub content : Content
  pub gave : GaveContent source content
  pub counted : text ≡ content_text content

-- the bytes do not pass, and the text names the cause
pub record IsRefused (source : Option (List ℕ)) (text : List ℕ) : Type 0 where
  pub error : BackupError
  pub gave : GaveFault source error
  pub named : text ≡ backup_text (cause_of error)

-- what the test of a backup prints, for each status
abbrev pub PrintsCheck : Option (List ℕ) → Status → List ℕ → Type 0
PrintsCheck source Status.Done text = IsCounted source text
PrintsCheck source Status.Backup text = IsRefused source text
PrintsCheck source Status.Limit text = IsTooLong source × (text ≡ limit_text)
PrintsCheck source Status.ReadFault text = text ≡ codes "read fault" ++ 10 ∷ []
PrintsCheck source Status.Memory text = text ≡ memory_text
PrintsCheck source status text = ⊥

-- the content that was read of a source, or why none was
abbrev pub Reads : Option (List ℕ) → Result Content ReadError → Type 0
Reads source (Ok content) = GaveContent source content
Reads source (Err (reads.Input inputs.TooLong)) = IsTooLong source
Reads source (Err (reads.Input e)) = Unit {0}
Reads source (Err (reads.Backup e)) = IsOfCheck e × ((bytes : List ℕ) × IsWhole source bytes × Refuses e (check_of bytes))

-- what is printed of an input that was not read
abbrev pub Unread : InputError → Status → List ℕ → Type 0
Unread inputs.Failed Status.ReadFault text = text ≡ codes "read fault" ++ 10 ∷ []
Unread inputs.TooLong Status.Limit text = text ≡ limit_text
Unread e status text = ⊥

-- what is printed of an error: the fault of a disk, or the cause for which there is no backup
abbrev pub Reports : BackupError → Status → List ℕ → Type 0
Reports Failed Status.StoreFault text = text ≡ fault_text
Reports Failed status text = ⊥
Reports (Clash first second) status text = ⊥
Reports (BookFull n) status text = ⊥
Reports Memory status text = ⊥
Reports e Status.Backup text = text ≡ backup_text (cause_of e)
Reports e status text = ⊥

-- what is printed where no content was read
abbrev pub Stops : ReadError → Status → List ℕ → Type 0
Stops (reads.Input e) status text = Unread e status text
Stops (reads.Backup e) status text = Reports e status text

-- a job ends with the status and the text of this ending, or with `memory` when out of memory
abbrev pub EndsAs : Result Ending AllocError → Status → List ℕ → Type 0
EndsAs (Ok e) status text = (status ≡ e.status) × (text ≡ string_bytes e.text)
EndsAs (Err e) status text = (status ≡ Status.Memory) × (text ≡ memory_text)

-- a source gave some bytes, at most so many
abbrev pub GaveAtMost : ℕ → Option (List ℕ) → Option (List ℕ) → Type 0
GaveAtMost most None left = Unit {0}
GaveAtMost most (Some bytes) None = ⊥
GaveAtMost most (Some bytes) (Some left) = (prefix : List ℕ) × (bytes ≡ prefix ++ left) × (length prefix ≤ most)

-- a job ends with this status only if it read its input to the end
abbrev pub NeedsInput : Status → Type 0
NeedsInput Status.Done = Unit {0}
NeedsInput Status.Backup = Unit {0}
NeedsInput Status.StoreFault = Unit {0}
NeedsInput status = ⊥

-- How far a job read its source, and how many faults were counted, when it ends with this status. The source gave
-- at most one byte more than a backup may have. A read fault came before its bytes decided anything: they could be
-- the prefix of a backup.
pub record HasRead (source left : Option (List ℕ)) (before now : ℕ) (status : Status) : Type 0 where
  pub taken : GaveAtMost 268435457 source left
  pub end : NeedsInput status → IsAtEnd left
  pub fault : status ≡ Status.ReadFault → Rose before now × GaveAtMost 268435456 source left

-- bytes that do not pass were read to their end
abbrev pub WasReadWhole : Option (List ℕ) → ReadError → Type 0
WasReadWhole left (reads.Input e) = Unit {0}
WasReadWhole left (reads.Backup e) = IsAtEnd left

-- nothing in these bytes ends a test of them early: they are not too many, and they pass
pub record IsCheckable (bytes : List ℕ) : Type 0 where
  pub few : length bytes ≤ 268435456
  pub content : Content
  pub passes : check_of bytes ≡ Ok content
