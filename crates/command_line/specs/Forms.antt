-- The forms of the command line: the words that ask for each job.
use Rattle.std.specs.Prelude.{◌≡◌, ◌<◌, ◌≤◌, ◌^◌, ℕ, Bool, true, false, List, [], ◌∷◌, codes, Result, Ok, Err}
use Rattle.std.specs.Fmt.{decimal}
use Rattle.ens_base.specs.View.{IsView}
use Rattle.lexemes.specs.Spelling.{AreMembers, IsAmong, member_words}
use Rattle.command_line.specs.declared.job.Job.{Job}
use Rattle.command_line.specs.declared.job.Job.TheVariants.{Replay, Peer, Cluster, Audit, Backup, Check, Restore, Root, Generate}
use Rattle.command_line.specs.declared.job.WordsError.{WordsError}
use Rattle.command_line.specs.declared.job.WordsError.TheVariants.{Usage, Memory}

-- the word for what a generator prints: a summary of the run, or the schedule
abbrev pub output_word : Bool → List ℕ
output_word true = codes "summary"
output_word false = codes "schedule"

-- the words for a job
abbrev pub words_of : Job → List (List ℕ)
words_of Replay = codes "replay" ∷ []
words_of (Peer w) = codes "peer" ∷ decimal w.me ∷ decimal w.peers ∷ decimal w.port ∷ decimal w.turns ∷ member_words w.view
words_of (Cluster w) = codes "cluster" ∷ decimal w.peers ∷ decimal w.port ∷ member_words w.view
words_of Audit = codes "audit" ∷ []
words_of Backup = codes "backup" ∷ []
words_of Check = codes "check" ∷ []
words_of Restore = codes "restore" ∷ []
words_of Root = codes "root" ∷ []
words_of (Generate number calls summary) = codes "generate" ∷ decimal number ∷ decimal calls ∷ output_word summary ∷ []

-- 1 to 31 peers, with ports that begin behind this one, and a view of them
pub record HasPeers (peers port : ℕ) (view : List ℕ) : Type 0 where
  pub count : (1 ≤ peers) × (peers ≤ 31)
  pub base : (1 ≤ port) × (port ≤ 65000)
  pub members : AreMembers peers view × IsView view

-- a job that may be asked for
abbrev pub IsJob : Job → Type 0
IsJob Replay = Unit {0}
IsJob (Peer w) = HasPeers w.peers w.port w.view × IsAmong w.peers w.me × (1 ≤ w.turns) × (w.turns ≤ 1000000000)
IsJob (Cluster w) = HasPeers w.peers w.port w.view
IsJob Audit = Unit {0}
IsJob Backup = Unit {0}
IsJob Check = Unit {0}
IsJob Restore = Unit {0}
IsJob Root = Unit {0}
IsJob (Generate number calls summary) = (number < 2 ^ 64) × (1 ≤ calls) × (calls ≤ 20000)

-- the words ask for the job
abbrev pub AskFor : List (List ℕ) → Job → Type 0
AskFor words job = IsJob job × (words ≡ words_of job)

-- the words ask for the job that is returned, or for none
abbrev pub Reads : List (List ℕ) → Result Job WordsError → Type 0
Reads words (Ok job) = AskFor words job
Reads words (Err Usage) = (job : Job) → ¬ AskFor words job
Reads words (Err Memory) = Unit {0}
