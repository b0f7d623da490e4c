-- The jobs, and what the program prints.
use Rattle.std.specs.Prelude.{◌≡◌, ◌<◌, ℕ, true, false, List, [], ◌∷◌, ◌++◌, codes, Option, Result, Ok, Err, IsSomeAnd}
use Rattle.std.specs.Io.KnownBytes.{IsAtEnd}
use Rattle.ens_base.specs.Causes.{Rose}
use Rattle.backup_job.specs.Backed.{PrintsBackup}
use Rattle.backup_job.specs.Printed.{IsCheckable, PrintsCheck, HasRead as HasReadBackup}
use Rattle.backup_job.specs.Restored.{PrintsRestore}
use Rattle.cluster.specs.Ends.{IsPastLines, PrintsRecord, opening, recorded_schedule, HasRead as HasReadScript}
use Rattle.scripts.specs.Scripts.{script_of}
use Rattle.scripts.specs.declared.line.ScriptLine.{ScriptLine}
use Rattle.cluster.specs.Recordings.{Follows, IsPart, Recording}
use Rattle.ens_base.specs.declared.peer_words.ClusterWords.{ClusterWords}
use Rattle.ens_base.specs.declared.peer_words.PeerWords.{PeerWords}
use Rattle.ens_base.specs.declared.status.Status.{Status}
use Rattle.command_line.specs.Forms.{AskFor}
use Rattle.command_line.specs.declared.job.Job.{Job}
use Rattle.command_line.specs.declared.job.Job.TheVariants.{Replay, Peer, Cluster, Audit, Backup, Check, Restore, Root, Generate}
use Rattle.root.specs.Jobs.{HasRead as HasReadRoot, IsRunnable as IsRunnableRoot, Prints as PrintsRoot}
use Rattle.peer_server.specs.Faults.{fault_text}
use Rattle.peer_server.specs.Serving.{counts_text}
use Rattle.audit.specs.Reading.{WasCutOff, WasTakenTo}
use Rattle.audit.specs.Printed.{IsAuditable, PrintsReport}
use Rattle.root.specs.ReplayJob.{CompletesAll, HasRead, IsRunnable, Prints, hashed_by, EndsInSummary, StaysWithin}
use Rattle.world_spec.specs.Held.{HasNoClash}
use Rattle.schedule_generator.specs.Generated.{generate}
use Rattle.schedule_text.specs.Spelling.{schedule_text}
use Rattle.ensemble.specs.declared.arguments.ArgumentsError.{ArgumentsError}
use Rattle.ensemble.specs.declared.arguments.ArgumentsError.TheVariants.{NotText, Memory}

-- a replay, an audit, a cluster, a root, and the test and the restore of a backup read the input
abbrev pub ReadsInput : Job → Type 0
ReadsInput Replay = Unit {0}
ReadsInput Audit = Unit {0}
ReadsInput Check = Unit {0}
ReadsInput Restore = Unit {0}
ReadsInput Root = Unit {0}
ReadsInput (Cluster w) = Unit {0}
ReadsInput job = ⊥

-- the words ask for one of them
abbrev pub AskToRead : List (List ℕ) → Type 0
AskToRead words = (job : Job) × AskFor words job × ReadsInput job

-- how far an audit read its source: at status 0 nothing is left, and a read fault was counted, and came
-- before the bytes that the source gave decided anything
pub record HasReadRecord (source left : Option (List ℕ)) (before now : ℕ) (status : Status) : Type 0 where
  pub taken : WasTakenTo source left
  pub end : status ≡ Status.Done → IsAtEnd left
  pub fault : status ≡ Status.ReadFault → Rose before now
  pub cut : status ≡ Status.ReadFault → WasCutOff source left

-- how far a job read its source, and how many faults were counted, when it ends with this status
abbrev pub DidRead : Job → (source left : Option (List ℕ)) → (before now : ℕ) → Status → Type 0
DidRead Replay source left before now status = HasRead source left before now status
DidRead Audit source left before now status = HasReadRecord source left before now status
DidRead Check source left before now status = HasReadBackup source left before now status
DidRead Restore source left before now status = HasReadBackup source left before now status
DidRead Root source left before now status = HasReadRoot source left before now status
DidRead (Cluster w) source left before now status = HasReadScript w source left before now status
DidRead job source left before now status = Unit {0}

-- the words ask for no job
abbrev pub AskForNone : List (List ℕ) → Type 0
AskForNone words = (job : Job) → ¬ AskFor words job

-- the text reports that the words ask for no job
abbrev pub IsUsageText : List ℕ → Type 0
IsUsageText text = text ≡ codes "usage" ++ 10 ∷ []

-- the text reports that memory ran out
abbrev pub IsMemoryText : List ℕ → Type 0
IsMemoryText text = text ≡ codes "memory" ++ 10 ∷ []

-- the schedule that is generated from a number, for so many calls
abbrev pub PrintsSchedule : ℕ → ℕ → Status → List ℕ → Type 0
PrintsSchedule number calls Status.Done text = text ≡ schedule_text (generate number calls)
PrintsSchedule number calls Status.Memory text = IsMemoryText text
PrintsSchedule number calls status text = ⊥

-- what the summary of a schedule that is generated for fewer than 500 calls counts: each of its calls is
-- completed, if no two different strings of the run have the same MD5
abbrev pub CountsAllDone : ℕ → ℕ → Type 0
CountsAllDone number calls = calls < 500 → HasNoClash (hashed_by (generate number calls)) → CompletesAll (generate number calls)

-- the summary of the run of that schedule
abbrev pub PrintsSummary : ℕ → ℕ → Status → List ℕ → Type 0
PrintsSummary number calls Status.Memory text = IsMemoryText text
PrintsSummary number calls Status.Done text = EndsInSummary (generate number calls) Status.Done text × CountsAllDone number calls
PrintsSummary number calls status text = EndsInSummary (generate number calls) status text

-- a peer counts its frames after its last turn, or reports a fault
abbrev pub PrintsCounts : PeerWords → Status → List ℕ → Type 0
PrintsCounts w Status.Done text = (taken : ℕ) × (ignored : ℕ) × (text ≡ counts_text w.me taken ignored)
PrintsCounts w Status.StoreFault text = text ≡ fault_text Status.StoreFault
PrintsCounts w Status.LinkFault text = text ≡ fault_text Status.LinkFault
PrintsCounts w Status.Memory text = IsMemoryText text
PrintsCounts w status text = ⊥

-- the text that a job prints, for each status; only some jobs read the source
abbrev pub Does : Job → Option (List ℕ) → Status → List ℕ → Type 0
Does Replay source status text = Prints source status text
Does (Peer words) source status text = PrintsCounts words status text
Does (Cluster words) source status text = PrintsRecord words source status text
Does Audit source status text = PrintsReport source status text
Does Backup source status text = PrintsBackup status text
Does Check source status text = PrintsCheck source status text
Does Restore source status text = PrintsRestore source status text
Does Root source status text = PrintsRoot source status text
Does (Generate number calls false) source status text = PrintsSchedule number calls status text
Does (Generate number calls true) source status text = PrintsSummary number calls status text

-- the text that the program prints, for each status: a usage line if the words ask for no job, and
-- otherwise what the job prints, unless memory runs out
abbrev pub Ends : List (List ℕ) → Option (List ℕ) → Status → List ℕ → Type 0
Ends words source Status.Usage text = AskForNone words × IsUsageText text
Ends words source Status.Memory text = IsMemoryText text
Ends words source status text = (job : Job) × AskFor words job × Does job source status text

-- these bytes are a script, and whatever the link gives, what a part of it records is a schedule of at most
-- 200,000 lines, of which nothing ends a replay early
abbrev pub IsRecordable : ClusterWords → List ℕ → Type 0
IsRecordable w bytes =
    (script : List ScriptLine) × (script_of w.peers bytes ≡ Ok script)
    × ((part : List ScriptLine) (looks : List (Option (List ℕ))) (r : Recording) → IsPart part script → Follows part looks (opening w) r → ¬ IsPastLines r × IsRunnable (schedule_text (recorded_schedule w r)))

-- Nothing in its source ends the job early: a replay, an audit, a cluster, a root, and the test and the restore of a
-- backup have a source whose bytes are known, and which nothing in them ends early; and the run that is summed up stays
-- within the limit on messages. A peer and a backup read no source.
abbrev pub IsUnhindered : Job → Option (List ℕ) → Type 0
IsUnhindered Replay source = IsSomeAnd source IsRunnable
IsUnhindered (Peer words) source = Unit {0}
IsUnhindered (Cluster words) source = IsSomeAnd source (IsRecordable words)
IsUnhindered Audit source = IsSomeAnd source IsAuditable
IsUnhindered Backup source = Unit {0}
IsUnhindered Check source = IsSomeAnd source IsCheckable
IsUnhindered Restore source = IsSomeAnd source IsCheckable
IsUnhindered Root source = IsSomeAnd source IsRunnableRoot
IsUnhindered (Generate number calls false) source = Unit {0}
IsUnhindered (Generate number calls true) source = StaysWithin (generate number calls)

-- how the program ends if its arguments could not be read: with the usage line if one of them is no
-- text, and with `memory` when out of memory
abbrev pub EndsUnread : ArgumentsError → Status → List ℕ → Type 0
EndsUnread NotText Status.Usage text = IsUsageText text
EndsUnread Memory Status.Memory text = IsMemoryText text
EndsUnread e status text = ⊥

-- the same for words that may not have been read
abbrev pub EndsGiven : Result (List (List ℕ)) ArgumentsError → Option (List ℕ) → Status → List ℕ → Type 0
EndsGiven (Ok words) source status text = Ends words source status text
EndsGiven (Err e) source status text = EndsUnread e status text

-- the words were read, and ask for the job
abbrev pub GivenFor : Result (List (List ℕ)) ArgumentsError → Job → Type 0
GivenFor (Ok words) job = AskFor words job
GivenFor (Err e) job = ⊥

-- the words were read, and ask for a job that reads the input
abbrev pub GivenToRead : Result (List (List ℕ)) ArgumentsError → Type 0
GivenToRead (Ok words) = AskToRead words
GivenToRead (Err e) = ⊥
