-- A leader of the program, seen as a leader of the theory. Ages, the peers that calls came from, the
-- bytes of digests while nothing is settled, and the object of a put beyond its stamp and content are
-- forgotten. A task is seen as the stage that it leads to.
use Rattle.std.specs.Prelude.{ℕ, Bool, true, false, if◌then◌else◌, List, [], ◌∷◌, ◌++◌, Option, None, Some}
use Rattle.ens_base.specs.Lists.{same_bytes}
use Rattle.ens_base.specs.PeerSet.{holds}
use Rattle.ens_base.specs.declared.entry.Entry.{Entry}
use Rattle.ens_base.specs.declared.epoch.Version.{Version}
use Rattle.stored_formats.specs.declared.object.Object.{Object}
use Rattle.protocol_laws.specs.Numbers.{epoch_number}
use Rattle.quorums.specs.declared.round.Round.{Round}
use Rattle.call_table.specs.Calls.{running}
use Rattle.call_table.specs.Rows.{row_at}
use Rattle.call_table.specs.declared.row.Found.{Found}
use Rattle.call_table.specs.declared.row.Known.{Known}
use Rattle.call_table.specs.declared.row.Known.TheVariants as knowns
use Rattle.call_table.specs.declared.row.Stage.{Stage}
use Rattle.call_table.specs.declared.row.Stage.TheVariants as stages
use Rattle.call_table.specs.declared.table.CallTable.{CallTable}
use Rattle.call_table.specs.declared.waiting.Waiting.{Waiting}
use Rattle.leader_output.specs.declared.out.AnswerOut.{AnswerOut}
use Rattle.leader.specs.declared.leader.Leader.{Leader}
use Rattle.leader.specs.declared.pending.Pending.{Pending}
use Rattle.leader.specs.declared.pending.Pending.TheVariants as tasks
use Rattle.role_laws.specs.Tables as theory

-- the number of a version
abbrev pub rank : Version → ℕ
rank v = theory.version_at (epoch_number v.epoch) v.seq

-- the number of a version, 0 for none
abbrev pub rank_or_none : Option Version → ℕ
rank_or_none None = 0
rank_or_none (Some v) = rank v

-- stamp and content of an object
abbrev pub content_of : Object → theory.Object
content_of o = record { stamp = o.stamp; content = o.value }

abbrev pub content_or_none : Option Object → Option theory.Object
content_or_none None = None
content_or_none (Some o) = Some (content_of o)

-- what is known of a key
abbrev pub known_of : Known → theory.Known
known_of knowns.Unknown = theory.Unknown
known_of knowns.Absent = theory.Nothing
known_of (knowns.Present version stamp digest tombstone) = theory.Held (rank version) stamp digest tombstone

-- the number of the greatest entry so far, 0 for none
abbrev pub best_rank : Option Found → ℕ
best_rank None = 0
best_rank (Some f) = rank f.entry.version

-- its object
abbrev pub best_object : Option Found → Option theory.Object
best_object None = None
best_object (Some f) = content_or_none f.object

-- the number of the entry that a peer shows, 0 for none
abbrev pub entry_rank : Option Entry → ℕ
entry_rank None = 0
entry_rank (Some e) = rank e.version

-- its object; there is none without an entry
abbrev pub shown : Option Entry → Option Object → Option theory.Object
shown None object = None
shown (Some e) object = content_or_none object

-- the peers that answered in a round
abbrev pub voters : Round → ℕ → Bool
voters round = holds round.tally.votes

-- a version that is out, as a rewrite or as the write of the call
abbrev pub put_of : Bool → ℕ → Object → (ℕ → Bool) → theory.Stage
put_of true i o acks = theory.Rewriting i (rank o.version) (content_of o) acks
put_of false i o acks = theory.Writing i (rank o.version) (content_of o) acks

-- the stage of the running call
abbrev pub stage_of : Stage → ℕ → theory.Stage
stage_of stages.Idle i = theory.Begun i
stage_of (stages.Reading round heard best) i = theory.Reading i round (voters heard) (best_rank best) (best_object best)
stage_of (stages.Checking round heard reply) i = theory.Checking i round (voters heard) reply
stage_of (stages.Putting o digest acks rewrite) i = put_of rewrite i o (voters acks)

-- the same while a task is at hand: a proposal counts as out once its number is taken
abbrev pub tasked : Pending → Stage → ℕ → theory.Stage
tasked tasks.Nothing stage i = stage_of stage i
tasked (tasks.Apply current) stage i = theory.Sure i
tasked (tasks.Propose o parent None) stage i = put_of true i o (λ q. false)
tasked (tasks.Propose o parent (Some call)) stage i = put_of false i o (λ q. false)
tasked task stage i = theory.Begun i

-- the stage of a key with this running call, if any
abbrev pub running_stage : Option Waiting → Pending → Stage → theory.Stage
running_stage None task stage = theory.Idle
running_stage (Some w) task stage = tasked task stage w.id

-- the calls on a key, in order of arrival
abbrev pub ids_on : List ℕ → List Waiting → List ℕ
ids_on key [] = []
ids_on key (w ∷ ws) = if same_bytes w.key key then w.id ∷ ids_on key ws else ids_on key ws

-- the unanswered calls, in order of arrival
abbrev pub ids_of : List Waiting → List ℕ
ids_of [] = []
ids_of (w ∷ ws) = w.id ∷ ids_of ws

-- those that wait behind the running one
abbrev pub waiting_behind : List ℕ → List Waiting → List ℕ
waiting_behind key [] = []
waiting_behind key (w ∷ ws) = if same_bytes w.key key then ids_on key ws else waiting_behind key ws

-- a row from its parts
abbrev pub row_parts : Known → Option Waiting → Pending → Stage → List ℕ → theory.KeyRow
row_parts known call task stage rest = theory.row_of (known_of known) (running_stage call task stage) rest

-- the row of a key
abbrev pub row_seen : Pending → List ℕ → CallTable → theory.KeyRow
row_seen task key t = row_parts (row_at key t.rows).known (running key t.calls) task (row_at key t.rows).stage (waiting_behind key t.calls)

-- the task, if it is of this key
abbrev pub task_on : List ℕ → Pending → List ℕ → Pending
task_on key task j = if same_bytes key j then task else tasks.Nothing

-- the leader with a task on this key, who owes these answers
abbrev pub table_of : List ℕ → List theory.Owed → Leader → theory.Leader
table_of key owed l = record {
  epoch = epoch_number l.fact.epoch;
  seat = record { peer = l.me; owed = owed };
  seq = l.seq;
  round = l.round;
  rows = λ j. row_seen (task_on key l.task j) j l.table;
}

-- what is owed after these answers too
abbrev pub owed_after : List theory.Owed → List AnswerOut → List theory.Owed
owed_after owed [] = owed
owed_after owed (a ∷ answers) = owed_after (owed ++ record { call = a.id; reply = a.reply } ∷ []) answers
