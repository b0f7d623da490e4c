-- What a job prints is what the program prints.
use Rattle.std.proofs.Common.{◌≡◌, ℕ, true, false, List, Option, Result, Ok, Err, sym, ap, subst, ◌∙◌}
use Rattle.ens_base.specs.declared.status.Status.{Status}
use Rattle.ens_base.proofs.Statuses.{memory_not_done, memory_no_fault}
use Rattle.command_line.specs.Forms.{AskFor, Reads}
use Rattle.command_line.specs.declared.job.Job.{Job}
use Rattle.command_line.specs.declared.job.Job.TheVariants.{Replay, Peer, Cluster, Audit, Backup, Check, Restore, Root, Generate}
use Rattle.command_line.specs.declared.job.WordsError.TheVariants.{Usage}
use Rattle.command_line.proofs.Exactly.{job_back}
use Rattle.command_line.specs.Reading.{job_of}
use Rattle.backup_job.proofs.Completing.{memory_read as check_memory_read, usage_read as check_usage_read, fault_at_usage}
use Rattle.backup_job.specs.Printed.{HasRead as HasReadBackup}
use Rattle.cluster.proofs.Outcomes.{memory_read as script_memory_read, usage_read as script_usage_read}
use Rattle.root.proofs.Completing.{memory_read as root_memory_read, usage_read as root_usage_read}
use Rattle.root.specs.Jobs.{HasRead as HasReadRoot}
use Rattle.root.proofs.ReplayJob.{completed, memory_read, usage_read}
use Rattle.audit.proofs.Cutting.{none_taken as record_none_taken}
use Rattle.root.specs.ReplayJob.{HasRead, EndsInSummary}
use Rattle.schedule_generator.specs.Generated.{generate}
use Rattle.ensemble.specs.Top.{AskForNone, AskToRead, DidRead, Does, Ends, EndsGiven, EndsUnread, GivenFor, GivenToRead, HasReadRecord, PrintsSummary, ReadsInput}
use Rattle.ensemble.specs.declared.arguments.ArgumentsError.{ArgumentsError}
use Rattle.ensemble.proofs.Recording.{record_memory, record_usage}

pub summary_prints : (number calls : ℕ) (status : Status) (text : List ℕ) → EndsInSummary (generate number calls) status text → PrintsSummary number calls status text
summary_prints number calls Status.Memory text h = absurd h
summary_prints number calls Status.Done text h = (h, λ few apart. completed number calls few h.0 apart)
summary_prints number calls status text h = h

pub job_ends : (words : List (List ℕ)) (source : Option (List ℕ)) (job : Job) (status : Status) (text : List ℕ) → AskFor words job → Does job source status text
    → Ends words source status text
job_ends words source (Peer w) Status.Usage text asks h = absurd h
job_ends words source (Cluster w) Status.Usage text asks h = absurd (record_usage w source text h)
job_ends words source (Peer w) Status.Memory text asks h = h
job_ends words source (Cluster w) Status.Memory text asks h = record_memory w source text h
job_ends words source Replay Status.Usage text asks h = absurd h.1
job_ends words source (Generate number calls true) Status.Usage text asks h = absurd h
job_ends words source (Generate number calls false) Status.Usage text asks h = absurd h
job_ends words source Audit Status.Usage text asks h = absurd h
job_ends words source Backup Status.Usage text asks h = absurd h
job_ends words source Check Status.Usage text asks h = absurd h
job_ends words source Restore Status.Usage text asks h = absurd h
job_ends words source Root Status.Usage text asks h = absurd h.1
job_ends words source Replay Status.Memory text asks h = h.1
job_ends words source Audit Status.Memory text asks h = h
job_ends words source Backup Status.Memory text asks h = h
job_ends words source Check Status.Memory text asks h = h
job_ends words source Restore Status.Memory text asks h = h
job_ends words source Root Status.Memory text asks h = h.1
job_ends words source (Generate number calls true) Status.Memory text asks h = h
job_ends words source (Generate number calls false) Status.Memory text asks h = h
job_ends words source job status text asks h = (job, asks, h)

pub refused_words : (words : List (List ℕ)) → Reads words (Err Usage) → AskForNone words
refused_words words none = none

pub asked_one : (words : List (List ℕ)) (job other : Job) → AskFor words job → AskFor words other → job ≡ other
asked_one words job other asks also = same (sym (job_back job asks.0) ∙ ap job_of (sym asks.1 ∙ also.1) ∙ job_back other also.0)
  where
    same : {C : Type 0} → ◌≡◌ {A = Result Job C} (Ok job) (Ok other) → job ≡ other
    same h = cc h

-- words that ask for a job that reads the input ask to read
pub asked_reads : (words : List (List ℕ)) (job : Job) → AskFor words job → ReadsInput job → AskToRead words
asked_reads words job asks reads = (job, asks, reads)

-- the same of words that were read
pub given_did_read : (given : Result (List (List ℕ)) ArgumentsError) (words : List (List ℕ)) (Q : Job → Type 0) → ((job : Job) → AskFor words job → Q job) → given ≡ Ok words → (job : Job) → GivenFor given job → Q job
given_did_read given words Q f is job asks = f job (subst (λ (g : Result (List (List ℕ)) ArgumentsError). GivenFor g job) is asks)

pub not_to_read : (given : Result (List (List ℕ)) ArgumentsError) (words : List (List ℕ)) (Q : Type 0) → (¬ AskToRead words → Q) → given ≡ Ok words → ¬ GivenToRead given → Q
not_to_read given words Q f is none = f (λ asks. none (subst GivenToRead (sym is) asks))

at_usage : ◌≡◌ {A = Status} Status.Usage Status.Done → ⊥
at_usage e = cc e

pub usage_did_read : (job : Job) (source : Option (List ℕ)) (before now : ℕ) → DidRead job source source before now Status.Usage
usage_did_read Replay source before now = usage_read source before now
usage_did_read Audit source before now = record { taken = record_none_taken source; end = λ e. absurd (at_usage e); fault = λ e. absurd (fault_at_usage e); cut = λ e. absurd (fault_at_usage e) }
usage_did_read Backup source before now = tt
usage_did_read Check source before now = check_usage_read source before now
usage_did_read Restore source before now = check_usage_read source before now
usage_did_read Root source before now = root_usage_read source before now
usage_did_read (Peer w) source before now = tt
usage_did_read (Cluster w) source before now = script_usage_read w source before now
usage_did_read (Generate number calls summary) source before now = tt

pub memory_did_read : (job : Job) (source : Option (List ℕ)) (before now : ℕ) → DidRead job source source before now Status.Memory
memory_did_read Replay source before now = memory_read source before now
memory_did_read Audit source before now = record { taken = record_none_taken source; end = λ e. absurd (memory_not_done e); fault = λ e. absurd (memory_no_fault e); cut = λ e. absurd (memory_no_fault e) }
memory_did_read Backup source before now = tt
memory_did_read Check source before now = check_memory_read source before now
memory_did_read Restore source before now = check_memory_read source before now
memory_did_read Root source before now = root_memory_read source before now
memory_did_read (Peer w) source before now = tt
memory_did_read (Cluster w) source before now = script_memory_read w source before now
memory_did_read (Generate number calls summary) source before now = tt

-- the same at a status that is known to be this one
pub did_read_at : (job : Job) (source left : Option (List ℕ)) (before now : ℕ) (status ended : Status) → ended ≡ status → DidRead job source left before now status → DidRead job source left before now ended
did_read_at job source left before now status ended is did = subst (λ (s : Status). DidRead job source left before now s) (sym is) did

pub did_read_record : (job : Job) (source left : Option (List ℕ)) (before now : ℕ) (status : Status) → job ≡ Audit → HasReadRecord source left before now status → DidRead job source left before now status
did_read_record job source left before now status is has = rw is has

pub did_read_backup : (job : Job) (source left : Option (List ℕ)) (before now : ℕ) (status : Status) → job ≡ Check → HasReadBackup source left before now status → DidRead job source left before now status
did_read_backup job source left before now status is has = rw is has

pub did_read_restore : (job : Job) (source left : Option (List ℕ)) (before now : ℕ) (status : Status) → job ≡ Restore → HasReadBackup source left before now status → DidRead job source left before now status
did_read_restore job source left before now status is has = rw is has

-- a backup reads no input
pub did_back_up : (job : Job) (source left : Option (List ℕ)) (before now : ℕ) (status : Status) → job ≡ Backup → DidRead job source left before now status
did_back_up job source left before now status is = rw is tt

pub did_read_root : (job : Job) (source left : Option (List ℕ)) (before now : ℕ) (status : Status) → job ≡ Root → HasReadRoot source left before now status → DidRead job source left before now status
did_read_root job source left before now status is has = rw is has

pub did_read_schedule : (job : Job) (source left : Option (List ℕ)) (before now : ℕ) (status : Status) → job ≡ Replay → HasRead source left before now status → DidRead job source left before now status
did_read_schedule job source left before now status is has = rw is has

-- the job that the words ask for is the one that read
pub asked_did_read : (words : List (List ℕ)) (job other : Job) (source left : Option (List ℕ)) (before now : ℕ) (status : Status) → AskFor words job → AskFor words other → DidRead job source left before now status → DidRead other source left before now status
asked_did_read words job other source left before now status asks also did = subst (λ (j : Job). DidRead j source left before now status) (asked_one words job other asks also) did

-- what a job that reads words ends with, for words that were read
pub prefix_given : (given : Result (List (List ℕ)) ArgumentsError) (words : List (List ℕ)) (source : Option (List ℕ)) (Q : Job → Status → Type 0) (R : List ℕ → Type 0)
    → (status : Status) × (text : List ℕ) × Ends words source status text × ((job : Job) → AskFor words job → Q job status) × R text
    → given ≡ Ok words → (status : Status) × (text : List ℕ) × EndsGiven given source status text × ((job : Job) → GivenFor given job → Q job status) × R text
prefix_given given words source Q R f is = (
  f.0,
  f.1,
  subst (λ (g : Result (List (List ℕ)) ArgumentsError). EndsGiven g source f.0 f.1) (sym is) f.2,
  (λ job asks. f.3 job (subst (λ (g : Result (List (List ℕ)) ArgumentsError). GivenFor g job) is asks)),
  f.4,
)

-- what a job prints, for words that were read
pub printed_given : (given : Result (List (List ℕ)) ArgumentsError) (words : List (List ℕ)) (source : Option (List ℕ)) (status : Status) (R : List ℕ → Type 0)
    → (text : List ℕ) × Ends words source status text × R text → given ≡ Ok words → (text : List ℕ) × EndsGiven given source status text × R text
printed_given given words source status R p is = (p.0, subst (λ (g : Result (List (List ℕ)) ArgumentsError). EndsGiven g source status p.0) (sym is) p.1, p.2)

-- what the program ends with, for words that were not read
pub unread_ends : (given : Result (List (List ℕ)) ArgumentsError) (why : ArgumentsError) (source : Option (List ℕ)) (status : Status) (text : List ℕ) → given ≡ Err why → EndsUnread why status text → EndsGiven given source status text
unread_ends given why source status text is ends = subst (λ (g : Result (List (List ℕ)) ArgumentsError). EndsGiven g source status text) (sym is) ends
