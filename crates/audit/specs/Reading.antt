-- How the rest of a source is read, and why no record was read.
use Rattle.std.specs.Prelude.{◌≡◌, ◌+◌, ◌≤◌, ◌++◌, ℕ, List, length, Option, None, Some, Result, Ok, Err, IfSome}
use Rattle.environment.specs.declared.lines.NextError.{NextError}
use Rattle.environment.specs.declared.lines.NextError.TheVariants as next
use Rattle.lexemes.specs.Words.{parts_of}
use Rattle.history_record.specs.Reading.{Stage, first_stage, most_in, read_parts, record_of}
use Rattle.history_record.specs.ShortRecords.{short_record, short_result, short_stage}
use Rattle.history_record.specs.declared.error.AuditError.{AuditError}
use Rattle.history_record.specs.declared.error.AuditError.TheVariants as audit
use Rattle.history_record.specs.declared.record.Record.{Record}
use Rattle.audit.specs.Lines.{IsLine}
use Rattle.audit.specs.declared.read.ReadError.{ReadError}
use Rattle.audit.specs.declared.read.ReadError.TheVariants as read

abbrev pub of_next : NextError → ReadError
of_next next.Failed = read.Failed
of_next next.Memory = read.Memory

abbrev pub of_audit : AuditError → ReadError
of_audit (audit.Bad line cause) = read.Bad line cause
of_audit audit.Lines = read.Lines
of_audit audit.Memory = read.Memory

-- the bytes to come, after the lines so far, give this result
abbrev pub ReadsAs : Option (List ℕ) → Stage → Result Record AuditError → Type 0
ReadsAs rest stage result = IfSome rest (λ bytes. read_parts stage (parts_of 10 bytes) ≡ result)

-- the bytes before and the bytes now, each after the lines read by then, give the same result
abbrev pub ReadsOn : Option (List ℕ) → Stage → Option (List ℕ) → Stage → Type 0
ReadsOn None s rest t = Unit {0}
ReadsOn (Some old) s None t = ⊥
ReadsOn (Some old) s (Some new) t = read_parts s (parts_of 10 old) ≡ read_parts t (parts_of 10 new)

-- the same up to the shortening of histories
abbrev pub ReadsAlike : Option (List ℕ) → Stage → Option (List ℕ) → Stage → Type 0
ReadsAlike None s rest t = Unit {0}
ReadsAlike (Some old) s None t = ⊥
ReadsAlike (Some old) s (Some new) t = short_result (read_parts s (parts_of 10 old)) ≡ short_result (read_parts t (parts_of 10 new))

-- the bytes are a record that this one is like: once their histories are shortened they are the same
abbrev pub IsLike : List ℕ → Record → Type 0
IsLike bytes r = (told : Record) × (record_of bytes ≡ Ok told) × (short_record told ≡ short_record r)

-- these bytes, read from the beginning, come to this stage
abbrev pub ComeTo : List ℕ → Stage → Type 0
ComeTo lines stage = (rest : List ℕ) → read_parts first_stage (parts_of 10 (lines ++ rest)) ≡ read_parts stage (parts_of 10 rest)

-- a source held the first bytes, and the last ones are left: it gave the lines so far, and the pending
-- bytes after them. Histories of the stage to which they come may be shortened
pub record IsReading (bytes pending left : List ℕ) (stage : Stage) : Type 0 where
  pub lines : List ℕ
  pub told : Stage
  pub are : bytes ≡ lines ++ (pending ++ left)
  pub good : ComeTo lines told
  pub alike : short_stage told ≡ short_stage stage

-- the same if the bytes are known
abbrev pub HasTaken : Option (List ℕ) → List ℕ → Option (List ℕ) → Stage → Type 0
HasTaken None pending left stage = Unit {0}
HasTaken (Some bytes) pending None stage = ⊥
HasTaken (Some bytes) pending (Some left) stage = IsReading bytes pending left stage

-- Of a source that held the first bytes the second ones are left. It gave lines none of which is bad, and after
-- them at most one byte more than the next line may have.
pub record IsTakenTo (bytes left : List ℕ) : Type 0 where
  pub lines : List ℕ
  pub more : List ℕ
  pub stage : Stage
  pub are : bytes ≡ lines ++ (more ++ left)
  pub good : ComeTo lines stage
  pub few : length more ≤ most_in stage + 1

-- the same if the bytes are known
abbrev pub WasTakenTo : Option (List ℕ) → Option (List ℕ) → Type 0
WasTakenTo None left = Unit {0}
WasTakenTo (Some bytes) None = ⊥
WasTakenTo (Some bytes) (Some left) = IsTakenTo bytes left

-- Of a source that held the first bytes the second ones are left. It failed before the bytes that it gave
-- decided anything: after lines none of which is bad come no line feed and no more bytes than the next
-- line may have.
pub record IsCutOff (bytes left : List ℕ) : Type 0 where
  pub lines : List ℕ
  pub more : List ℕ
  pub stage : Stage
  pub are : bytes ≡ lines ++ (more ++ left)
  pub good : ComeTo lines stage
  pub undecided : IsLine (most_in stage) more

-- the same if the bytes are known
abbrev pub WasCutOff : Option (List ℕ) → Option (List ℕ) → Type 0
WasCutOff None left = Unit {0}
WasCutOff (Some bytes) None = ⊥
WasCutOff (Some bytes) (Some left) = IsCutOff bytes left

-- an error and the bytes to come: it names their first bad line and its cause, or they have too many lines
abbrev pub Refuses : Option (List ℕ) → Stage → ReadError → Type 0
Refuses rest stage (read.Bad line cause) = ReadsAs rest stage (Err (audit.Bad line cause))
Refuses rest stage read.Lines = ReadsAs rest stage (Err audit.Lines)
Refuses rest stage read.Failed = Unit {0}
Refuses rest stage read.Memory = Unit {0}
