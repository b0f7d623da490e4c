-- What holds of a leader's table between rules: each round counts the votes of the leader's own
-- views, a reply that waits for a check is that of a read, and the index of checks names exactly the
-- keys that check.
use Rattle.std.specs.Prelude.{◌≡◌, ◌≤◌, ℕ, ◌+◌, All, IsSome, length, Option, Some, None, List, [], ◌∷◌}
use Rattle.ens_base.specs.declared.epoch.Version.{Version}
use Rattle.ens_base.specs.declared.reply.Reply.{Reply}
use Rattle.ens_base.specs.declared.reply.Reply.TheVariants as replies
use Rattle.quorums.specs.declared.round.Round.{Round}
use Rattle.call_table.specs.Rows.{Checks, row_at, check_at, check_round}
use Rattle.call_table.specs.declared.row.Stage.{Stage}
use Rattle.call_table.specs.declared.row.Stage.TheVariants.{Idle, Reading, Checking, Putting}
use Rattle.call_table.specs.declared.table.CallTable.{CallTable}
use Rattle.leader_output.specs.declared.out.LeadOut.{LeadOut}
use Rattle.register_model.specs.declared.note.Note.{Note}
use Rattle.register_model.specs.declared.note.Note.TheVariants.{Settled, Read}
use Rattle.leader.specs.declared.leader.Leader.{Leader}
use Rattle.leader.specs.declared.pending.Pending.{Pending}
use Rattle.leader.specs.declared.pending.Pending.TheVariants as tasks

-- the reply of a command that writes nothing
abbrev pub IsRead : Reply → Type 0
IsRead (replies.Value stamp bytes) = Unit {0}
IsRead replies.NotFound = Unit {0}
IsRead replies.Failed = Unit {0}
IsRead other = ⊥

-- the votes are those of these views, one flag for each number from 0 to 31
pub record CountsVotes (views : List (List ℕ)) (round : Round) : Type 0 where
  pub on : round.tally.views ≡ views
  pub flags : length round.tally.votes ≡ 32

-- a round counts in these views, and a reply that waits for a check is that of a read
abbrev pub IsStage : List (List ℕ) → Stage → Type 0
IsStage views Idle = Unit {0}
IsStage views (Reading round heard best) = CountsVotes views heard
IsStage views (Checking round heard reply) = CountsVotes views heard × IsRead reply
IsStage views (Putting object digest acks rewrite) = CountsVotes views acks

-- a task to check is for the reply of a read
abbrev pub IsTask : Pending → Type 0
IsTask (tasks.Check reply) = IsRead reply
IsTask task = Unit {0}

-- the rounds of these checks ascend, from `low` to at most `high`
abbrev pub AreRounds : ℕ → ℕ → Checks → Type 0
AreRounds low high [] = Unit {0}
AreRounds low high (check ∷ checks) = (low ≤ check.0) × (check.0 ≤ high) × AreRounds (check.0 + 1) high checks

-- The index of checks: a key checks in a round exactly if the index has the key for that round. Of
-- the leader's rounds, this many have begun.
pub record IsIndexed (begun : ℕ) (t : CallTable) : Type 0 where
  pub found : (k : List ℕ) (r : ℕ) → check_round (row_at k t.rows).stage ≡ Some r → check_at r t.checks ≡ Some k
  pub only : (k : List ℕ) (r : ℕ) → check_at r t.checks ≡ Some k → check_round (row_at k t.rows).stage ≡ Some r
  pub rounds : AreRounds 0 begun t.checks

pub record IsWhole (l : Leader) : Type 0 where
  pub stages : (k : List ℕ) → IsStage l.fact.views (row_at k l.table.rows).stage
  pub task : IsTask l.task
  pub index : IsIndexed l.round l.table

-- the key does not check
abbrev pub IsClear : Leader → List ℕ → Type 0
IsClear l key = check_round (row_at key l.table.rows).stage ≡ None

-- after a rule on this key: the table is whole, and no key on which a rule follows checks
pub record StaysWhole (key : List ℕ) (r : Leader × LeadOut) : Type 0 where
  pub whole : IsWhole r.0
  pub clear : All (IsClear r.0) r.1.keys
  pub own : IsSome r.1.own → IsClear r.0 key

-- Which notes come with a reply: `lost` has none, `ok` has that a version is settled, and the reply of
-- a read has that of the read. No other reply is given so.
abbrev pub IsGivenFor : List Note → Reply → Type 0
IsGivenFor notes replies.Lost = notes ≡ []
IsGivenFor notes (replies.Ok stamp) = (key : List ℕ) × (version : Version) × (notes ≡ Settled key version ∷ [])
IsGivenFor notes (replies.Value stamp bytes) = (id : ℕ) × (key : List ℕ) × (base : Option Version) × (notes ≡ Read id key base ∷ [])
IsGivenFor notes replies.NotFound = (id : ℕ) × (key : List ℕ) × (base : Option Version) × (notes ≡ Read id key base ∷ [])
IsGivenFor notes replies.Failed = (id : ℕ) × (key : List ℕ) × (base : Option Version) × (notes ≡ Read id key base ∷ [])
IsGivenFor notes other = ⊥

-- each call that is answered has the reply of such notes
abbrev pub AreGiven : LeadOut → Type 0
AreGiven o = All (λ a. IsGivenFor o.notes a.reply) o.answers
