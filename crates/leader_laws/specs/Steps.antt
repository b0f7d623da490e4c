-- What each rule on a key keeps to: to whom it sends, what comes next, which call it answers, and
-- what it leaves as it was.
use Rattle.std.specs.Prelude.{◌≡◌, ◌≢◌, ◌⊎◌, ℕ, ◌+◌, ◌==◌, ◌||◌, Bool, true, false, IsSome, map, filter, if◌then◌else◌, Option, Some, None, List, [], ◌∷◌}
use Rattle.ens_base.specs.Lists.{◌∈◌, same_bytes}
use Rattle.ens_base.specs.PeerSet.{holds}
use Rattle.ens_base.specs.View.{IsPeer}
use Rattle.ens_base.specs.declared.epoch.Epoch.{Epoch}
use Rattle.ens_base.specs.declared.epoch.Version.{Version}
use Rattle.ens_base.specs.declared.reply.Reply.{Reply}
use Rattle.ens_base.specs.declared.reply.Reply.TheVariants as replies
use Rattle.stored_formats.specs.declared.object.Object.{Object}
use Rattle.quorums.specs.Quorums.{is_quorum}
use Rattle.quorums.specs.declared.round.Round.{Round}
use Rattle.register_model.specs.declared.note.Note.{Note}
use Rattle.register_model.specs.declared.note.Note.TheVariants.{Proposed, Settled, Read}
use Rattle.wire_frames.specs.Messages.{Obeys}
use Rattle.phase_rows.specs.declared.phase.Seen.{Seen}
use Rattle.phase_rows.specs.declared.phase.Seen.TheVariants.{Stored}
use Rattle.phase_rows.specs.declared.phase.Then.{Then}
use Rattle.phase_rows.specs.declared.phase.Then.TheVariants.{Stay, Untrust, OnKeys}
use Rattle.phase_rows.specs.declared.rules.KeyRule.{KeyRule}
use Rattle.phase_rows.specs.declared.rules.KeyRule.TheVariants as key_rules
use Rattle.call_table.specs.Calls.{running, without_running, older, is_due, not_due}
use Rattle.call_table.specs.Rows.{row_at}
use Rattle.call_table.specs.declared.row.Stage.{Stage}
use Rattle.call_table.specs.declared.row.Stage.TheVariants.{Idle, Putting}
use Rattle.call_table.specs.declared.table.CallTable.{CallTable}
use Rattle.call_table.specs.declared.waiting.Waiting.{Waiting}
use Rattle.leader_output.specs.Outs.{asked_by}
use Rattle.leader_output.specs.declared.out.AnswerOut.{AnswerOut}
use Rattle.leader_output.specs.declared.out.LeadOut.{LeadOut}
use Rattle.leader_output.specs.declared.out.Outgoing.{Outgoing}
use Rattle.leader_output.specs.declared.out.Own.{Own}
use Rattle.leader_output.specs.declared.out.Own.TheVariants as owns
use Rattle.leader.specs.Leaders.{next_version}
use Rattle.leader.specs.Ticks.{left_answer}
use Rattle.leader.specs.declared.leader.Leader.{Leader}
use Rattle.leader.specs.declared.pending.Pending.{Pending}
use Rattle.leader.specs.declared.pending.Pending.TheVariants as tasks

-- the message goes to a peer other than `me`, and obeys the grammar of frames
abbrev pub MayGo : ℕ → Outgoing → Type 0
MayGo me s = IsPeer s.to × (s.to ≢ me) × Obeys s.message

-- nothing follows, or the tree is no longer trusted, or a rule runs on this key
abbrev pub NamesOn : List ℕ → Then → List (List ℕ) → Type 0
NamesOn key Stay keys = keys ≡ []
NamesOn key Untrust keys = keys ≡ []
NamesOn key (OnKeys rule) keys = keys ≡ key ∷ []
NamesOn key other keys = ⊥

-- rule 28 fetches the object of this key, rule 29 looks the key up, and rule 35 puts an object
abbrev pub AsksOn : KeyRule → List ℕ → Option Own → Type 0
AsksOn rule key None = Unit {0}
AsksOn rule key (Some (owns.Fetch k)) = (k ≡ key) × (rule ≡ key_rules.StartCall)
AsksOn rule key (Some (owns.Look k)) = (k ≡ key) × (rule ≡ key_rules.Read)
AsksOn rule key (Some (owns.Put o)) = rule ≡ key_rules.Put

-- without an answer, at most one note is made: that a version of this key is proposed or settled
abbrev pub TellsOf : List ℕ → List Note → Type 0
TellsOf key [] = Unit {0}
TellsOf key (Proposed k version parent call ∷ []) = k ≡ key
TellsOf key (Settled k version ∷ []) = k ≡ key
TellsOf key notes = ⊥

-- why a running call is answered: its object is lost, or a read is noted, or a version is settled
-- and the reply is `ok`
abbrev pub IsCause : List ℕ → Waiting → Reply → List Note → Type 0
IsCause key w reply [] = reply ≡ replies.Lost
IsCause key w reply (Read id k base ∷ []) = (id ≡ w.id) × (k ≡ key)
IsCause key w reply (Settled k version ∷ []) = (k ≡ key) × (stamp : _) × (reply ≡ replies.Ok stamp)
IsCause key w reply notes = ⊥

-- the table without the running call of the key, which is idle
pub record IsEnded (key : List ℕ) (old new : CallTable) (w : Waiting) : Type 0 where
  pub running : running key old.calls ≡ Some w
  pub calls : new.calls ≡ without_running key old.calls
  pub idle : (row_at key new.rows).stage ≡ Idle

-- the calls stay as they are, or the running call of the key is answered and removed
abbrev pub Serves : List ℕ → CallTable → CallTable → List AnswerOut → List Note → Type 0
Serves key old new [] notes = (new.calls ≡ old.calls) × TellsOf key notes
Serves key old new (a ∷ []) notes = (w : Waiting) × IsEnded key old new w × (a.caller ≡ w.from) × (a.id ≡ w.id) × IsCause key w a.reply notes
Serves key old new answers notes = ⊥

-- what is known and asked of every other key stays as it is
abbrev pub KeepsOthers : List ℕ → CallTable → CallTable → Type 0
KeepsOthers key old new = (k : List ℕ) → same_bytes key k ≡ false → row_at k new.rows ≡ row_at k old.rows

-- this task is to propose an object of this version
abbrev pub Proposes : Pending → Version → Type 0
Proposes (tasks.Propose o parent call) version = o.version ≡ version
Proposes task version = ⊥

-- the number of the last write stays, or it rises by 1 and an object of the next version is to be
-- put
abbrev pub Numbers : Leader → Leader → Type 0
Numbers old new = (new.seq ≡ old.seq) ⊎ ((new.seq ≡ old.seq + 1) × Proposes new.task (next_version old))

-- a version that is noted as proposed has the number of the last write
abbrev pub ProposesAt : Leader → List Note → Type 0
ProposesAt l (Proposed k version parent call ∷ notes) = version ≡ record { epoch = l.fact.epoch; seq = l.seq }
ProposesAt l notes = Unit {0}

-- the key has an unanswered call
abbrev pub Runs : List ℕ → Leader → Type 0
Runs key l = IsSome (running key l.table.calls)

-- the rules that begin without a task
abbrev pub is_start : KeyRule → Bool
is_start key_rules.StartCall = true
is_start key_rules.Read = true
is_start key_rules.EnoughReplies = true
is_start key_rules.StartNextCall = true
is_start rule = false

-- the task of a leader is for this rule, and for a running call of the key
abbrev pub Fits : KeyRule → List ℕ → Leader → Pending → Type 0
Fits rule key l tasks.Nothing = is_start rule ≡ true
Fits rule key l (tasks.Write content parent) = (rule ≡ key_rules.Write) × Runs key l
Fits rule key l (tasks.Rewrite o) = (rule ≡ key_rules.Rewrite) × Runs key l
Fits rule key l (tasks.Check reply) = (rule ≡ key_rules.Check) × Runs key l
Fits rule key l (tasks.Apply current) = (rule ≡ key_rules.Apply) × Runs key l
Fits rule key l (tasks.Propose o parent call) = (rule ≡ key_rules.Put) × Runs key l × (o.key ≡ key) × (o.version ≡ record { epoch = l.fact.epoch; seq = l.seq })

-- the leader is ready for this rule on the key
abbrev pub IsReady : KeyRule → List ℕ → Leader → Type 0
IsReady rule key l = Fits rule key l l.task

-- the leader is ready for what comes next: the rule that asks the stores, once they returned, or
-- the rule that is named, or the next event
abbrev pub IsReadyFor : List ℕ → Option Own → Then → Leader → Type 0
IsReadyFor key (Some own) next l = IsReady (asked_by own) key l
IsReadyFor key None (OnKeys rule) l = IsReady rule key l
IsReadyFor key None other l = l.task ≡ tasks.Nothing

-- a key without a call is idle
abbrev pub IsCalm : CallTable → Type 0
IsCalm t = (k : List ℕ) → running k t.calls ≡ None → (row_at k t.rows).stage ≡ Idle

-- between two events: no task is left, and a key without a call is idle
pub record IsAtRest (l : Leader) : Type 0 where
  pub task : l.task ≡ tasks.Nothing
  pub calm : IsCalm l.table

-- in a tick, the leader steps down if a put or the change is late; otherwise the calls that have
-- waited for 8 ticks are answered `timeout` and removed, and no others
pub record IsTimely (late : Bool) (l : Leader) (r : Leader × LeadOut) : Type 0 where
  pub leave : r.1.leave ≡ late
  pub answers : r.1.answers ≡ (if late then [] else map left_answer (filter is_due (map older l.table.calls)))
  pub calls : late ≡ false → r.0.table.calls ≡ not_due (map older l.table.calls)

-- no version is noted as settled
abbrev pub SettlesNothing : List Note → Type 0
SettlesNothing notes = (key : List ℕ) (version : Version) → ¬ (Settled key version ∈ notes)

-- the task is to put an object of this version, the peer's own stores have it, and the leader alone
-- is a quorum of the views of its epoch
pub record SettlesAlone (version : Version) (seen : Seen) (l : Leader) : Type 0 where
  pub put : Proposes l.task version
  pub digest : List ℕ
  pub stored : seen ≡ Stored digest
  pub quorum : is_quorum (λ p. p == l.me) l.fact.views ≡ true

-- the key has put an object of this version, the reply is of the leader's epoch, and its sender and
-- the peers that acknowledged the put before are a quorum of the views of that epoch
pub record SettlesWith (from : ℕ) (ballot : Epoch) (key : List ℕ) (version : Version) (l : Leader) : Type 0 where
  pub object : Object
  pub digest : List ℕ
  pub acks : Round
  pub rewrite : Bool
  pub stage : (row_at key l.table.rows).stage ≡ Putting object digest acks rewrite
  pub put : object.version ≡ version
  pub epoch : ballot ≡ l.fact.epoch
  pub quorum : is_quorum (λ p. p == from || holds acks.tally.votes p) l.fact.views ≡ true

-- the acknowledgements of a put are counted in these views
abbrev pub CountsIn : List (List ℕ) → Stage → Type 0
CountsIn views (Putting object digest acks rewrite) = acks.tally.views ≡ views
CountsIn views stage = Unit {0}

-- the acknowledgements of each put are counted in the views of the leader's epoch
abbrev pub CountsInOwnViews : Leader → Type 0
CountsInOwnViews l = (k : List ℕ) → CountsIn l.fact.views (row_at k l.table.rows).stage
