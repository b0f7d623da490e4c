-- What reading the words gives: a job, or the cause for which they are refused.
use Rattle.std.specs.Prelude.{ℕ, ◌-◌, ◌^◌, Bool, true, false, if◌then◌else◌, List, [], ◌∷◌, codes, Result, Ok, Err}
use Rattle.ens_base.specs.Lists.{same_bytes}
use Rattle.ens_base.specs.Results.{◌>>=◌}
use Rattle.lexemes.specs.Words.{number_of, peer_of, view_of}
use Rattle.lexemes.specs.declared.cause.Cause.{Cause}
use Rattle.lexemes.specs.declared.cause.Cause.TheVariants.{Unknown, Words}
use Rattle.command_line.specs.declared.job.Job.{Job}
use Rattle.command_line.specs.declared.job.Job.TheVariants.{Replay, Peer, Cluster, Audit, Backup, Check, Restore, Root, Generate}

-- the words behind the first one of each form

-- none
abbrev pub alone_of : Job → List (List ℕ) → Result Job Cause
alone_of job [] = Ok job
alone_of job _ = Err Words

unfoldable pub peer_form_of : List ℕ → List ℕ → List ℕ → List ℕ → List (List ℕ) → Result Job Cause
peer_form_of id count base limit members = do
  peers ← number_of 1 31 count
  me ← peer_of peers id
  port ← number_of 1 65000 base
  turns ← number_of 1 1000000000 limit
  view ← view_of peers members
  Ok (Peer (record { me = me; peers = peers; port = port; turns = turns; view = view }))

abbrev pub peer_of_words : List (List ℕ) → Result Job Cause
peer_of_words (id ∷ count ∷ base ∷ limit ∷ members) = peer_form_of id count base limit members
peer_of_words _ = Err Words

abbrev pub cluster_form_of : List ℕ → List ℕ → List (List ℕ) → Result Job Cause
cluster_form_of count base members = do
  peers ← number_of 1 31 count
  port ← number_of 1 65000 base
  view ← view_of peers members
  Ok (Cluster (record { peers = peers; port = port; view = view }))

abbrev pub cluster_of : List (List ℕ) → Result Job Cause
cluster_of (count ∷ base ∷ members) = cluster_form_of count base members
cluster_of _ = Err Words

-- whether the word asks for a summary, and not for the schedule
abbrev pub summary_of : List ℕ → Result Bool Cause
summary_of word =
    if same_bytes word (codes "schedule") then Ok false
    else if same_bytes word (codes "summary") then Ok true
    else Err Unknown

abbrev pub generator_of : List ℕ → List ℕ → List ℕ → Result Job Cause
generator_of n c o = do
  number ← number_of 0 (2 ^ 64 - 1) n
  calls ← number_of 1 20000 c
  summary ← summary_of o
  Ok (Generate number calls summary)

abbrev pub generate_of : List (List ℕ) → Result Job Cause
generate_of (n ∷ c ∷ o ∷ []) = generator_of n c o
generate_of _ = Err Words

-- the job that the words ask for
abbrev pub job_of : List (List ℕ) → Result Job Cause
job_of [] = Err Words
job_of (verb ∷ rest) =
    if same_bytes verb (codes "replay") then alone_of Replay rest
    else if same_bytes verb (codes "peer") then peer_of_words rest
    else if same_bytes verb (codes "cluster") then cluster_of rest
    else if same_bytes verb (codes "audit") then alone_of Audit rest
    else if same_bytes verb (codes "generate") then generate_of rest
    else if same_bytes verb (codes "backup") then alone_of Backup rest
    else if same_bytes verb (codes "check") then alone_of Check rest
    else if same_bytes verb (codes "restore") then alone_of Restore rest
    else if same_bytes verb (codes "root") then alone_of Root rest
    else Err Unknown
