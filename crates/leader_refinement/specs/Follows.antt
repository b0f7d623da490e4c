-- What the answer of a rule of a leader has to agree with in the theory.
use Rattle.std.specs.Prelude.{◌≡◌, ◌⊎◌, ◌<◌, ◌^◌, ℕ, Bool, true, false, All, List, [], ◌∷◌, ◌++◌, map, Option, None, Some}
use Rattle.ens_base.specs.Lists.{◌∈◌, AreDistinct}
use Rattle.ens_base.specs.declared.epoch.Version.{Version}
use Rattle.ens_base.specs.declared.reply.Reply.{Reply}
use Rattle.stored_formats.specs.declared.object.Object.{Object}
use Rattle.leader.specs.Rounds.{register_at as object_register}
use Rattle.register_model.specs.Registers.{outcome, Keeps, Writes}
use Rattle.register_model.specs.declared.call.Call.{Call}
use Rattle.protocol_laws.specs.Numbers.{epoch_number, IsEpoch, IsVersion}
use Rattle.protocol_laws.specs.Book.{Book, register_at}
use Rattle.stored_formats.specs.declared.fact.Fact.{Fact}
use Rattle.protocol_laws.specs.Protocol.{State, Step, Acknowledge, Ask, Propose, Settle, Note, happens, after}
use Rattle.quorums.specs.declared.round.Round.{Round}
use Rattle.wire_frames.specs.declared.message.Message.{Message}
use Rattle.wire_frames.specs.declared.message.Message.TheVariants as messages
use Rattle.phase_rows.specs.declared.phase.Then.{Then}
use Rattle.phase_rows.specs.declared.phase.Then.TheVariants.{OnKeys, Untrust}
use Rattle.phase_rows.specs.declared.rules.KeyRule.{KeyRule}
use Rattle.phase_rows.specs.declared.rules.KeyRule.TheVariants as key_rules
use Rattle.call_table.specs.Calls.{running}
use Rattle.call_table.specs.Rows.{row_at}
use Rattle.call_table.specs.declared.row.Found.{Found}
use Rattle.call_table.specs.declared.row.Known.{Known}
use Rattle.call_table.specs.declared.row.Known.TheVariants as knowns
use Rattle.call_table.specs.declared.row.Stage.{Stage}
use Rattle.call_table.specs.declared.row.Stage.TheVariants as stages
use Rattle.call_table.specs.declared.row.KeyRow.{KeyRow}
use Rattle.call_table.specs.declared.waiting.Waiting.{Waiting}
use Rattle.leader_output.specs.Outs.{comes, leaves}
use Rattle.leader_output.specs.declared.out.LeadOut.{LeadOut}
use Rattle.leader_output.specs.declared.out.Outgoing.{Outgoing}
use Rattle.leader_output.specs.declared.out.Own.{Own}
use Rattle.leader_output.specs.declared.out.Own.TheVariants as owns
use Rattle.leader_laws.specs.Steps.{IsCalm, IsReady}
use Rattle.leader.specs.Ticks.{left_answer}
use Rattle.leader.specs.declared.leader.Leader.{Leader}
use Rattle.leader.specs.declared.pending.Pending.{Pending}
use Rattle.leader.specs.declared.pending.Pending.TheVariants as tasks
use Rattle.role_laws.specs.Tables.{Ghosts, Owed, base_of, calls_of, timeouts, with_home}
use Rattle.role_laws.specs.Leaders.{LeaderHolds, TurnsHold, OwesHold, IsParent, IsObjectOf, IsSettledKey, IsFresh}
use Rattle.role_laws.specs.LeaderMessages.{GetSays, CheckSays, PutSays}
use Rattle.role_laws.specs.Moves.{IsLeaderMove}
use Rattle.leader_refinement.specs.Seen.{rank, rank_or_none, content_of, known_of, ids_of, table_of, owed_after}

-- ## Numbers and rounds of a row

-- a version, if there is one, is in range
abbrev pub MayBeVersion : Option Version → Type 0
MayBeVersion None = Unit {0}
MayBeVersion (Some v) = IsVersion v

-- what is known is in range
abbrev pub KnownFits : Known → Type 0
KnownFits (knowns.Present version stamp digest tombstone) = IsVersion version
KnownFits known = Unit {0}

abbrev pub FoundFits : Option Found → Type 0
FoundFits None = Unit {0}
FoundFits (Some f) = IsVersion f.entry.version

-- the round asks the members of these views
abbrev pub IsOn : List (List ℕ) → Round → Type 0
IsOn views round = round.tally.views ≡ views

-- the digest of an object, by its version, key, stamp and value
abbrev pub Hash : Type 0
Hash = Version → List ℕ → Version → Option (List ℕ) → List ℕ

-- the object of the best reply has the version of its entry, and the entry its digest
abbrev pub FoundNames : Hash → List ℕ → Option Found → Type 0
FoundNames hash key None = Unit {0}
FoundNames hash key (Some u) = (o : Object) → u.object ≡ Some o → (o.version ≡ u.entry.version) × (u.entry.digest ≡ hash u.entry.version key o.stamp o.value)

-- what is said of an object that is out: its key, its digest, and the stamp of a write
pub record PutFits (hash : Hash) (key : List ℕ) (rewrite : Bool) (o : Object) (digest : List ℕ) : Type 0 where
  pub on_key : o.key ≡ key
  pub hashed : digest ≡ hash o.version key o.stamp o.value
  pub stamp : rewrite ≡ false → o.stamp ≡ o.version

-- the round of a stage asks these views, its versions are in range, and its digests are those of its
-- objects
abbrev pub StageFits : Hash → List ℕ → List (List ℕ) → Stage → Type 0
StageFits hash key views stages.Idle = Unit {0}
StageFits hash key views (stages.Reading round heard best) = IsOn views heard × (FoundFits best × FoundNames hash key best)
StageFits hash key views (stages.Checking round heard reply) = IsOn views heard
StageFits hash key views (stages.Putting o digest acks rewrite) = IsOn views acks × (IsVersion o.version × PutFits hash key rewrite o digest)

abbrev pub RowFits : Hash → List (List ℕ) → List ℕ → KeyRow → Type 0
RowFits hash views key row = KnownFits row.known × StageFits hash key views row.stage

-- ## Tasks

-- the number of the settled version, 0 for none
abbrev pub settled_rank : Known → ℕ
settled_rank known = base_of (known_of known)

-- a write: the outcome of the running call upon the parent
pub record WriteHolds (s : State) (d : ℕ) (key : List ℕ) (w : Waiting) (content : Option (List ℕ)) (parent : Option Version) : Type 0 where
  pub parent_holds : IsParent s d key (rank_or_none parent)
  pub applies : outcome w.command (register_at s.book (rank_or_none parent)) ≡ Writes content
  pub fits : MayBeVersion parent

-- a rewrite: the object of the parent, and a quorum stood at the epoch or below when the call came
pub record RewriteHolds (s : State) (d : ℕ) (key : List ℕ) (w : Waiting) (o : Object) : Type 0 where
  pub parent_holds : IsParent s d key (rank o.version)
  pub object : IsObjectOf s (rank o.version) (content_of o)
  pub fresh : IsFresh s d w.id
  pub fits : IsVersion o.version

-- a check: the command of the running call returns the reply on the settled register
pub record CheckHolds (s : State) (known : Known) (w : Waiting) (reply : Reply) : Type 0 where
  pub settled : IsSettledKey (known_of known)
  pub keeps : outcome w.command (register_at s.book (settled_rank known)) ≡ Keeps reply

-- the settled register is the one of this object
pub record ApplyHolds (s : State) (known : Known) (current : Option Object) : Type 0 where
  pub register : object_register current ≡ register_at s.book (settled_rank known)

-- a proposal: it is for the running call or for none, and is noted next, with this parent
pub record ProposeHolds (l : Leader) (key : List ℕ) (w : Waiting) (o : Object) (parent : Option Version) (call : Option ℕ) : Type 0 where
  pub on_key : o.key ≡ key
  pub version : o.version ≡ record { epoch = l.fact.epoch; seq = l.seq }
  pub fits : IsVersion o.version
  pub for_call : (i : ℕ) → call ≡ Some i → i ≡ w.id
  pub own_stamp : (i : ℕ) → call ≡ Some i → o.stamp ≡ o.version

-- what holds of the task on a key whose running call is this one
abbrev pub TaskHolds : State → Leader → List ℕ → Known → Option Waiting → Pending → Type 0
TaskHolds s l key known call tasks.Nothing = Unit {0}
TaskHolds s l key known None task = ⊥
TaskHolds s l key known (Some w) (tasks.Write content parent) = WriteHolds s (epoch_number l.fact.epoch) key w content parent
TaskHolds s l key known (Some w) (tasks.Rewrite o) = RewriteHolds s (epoch_number l.fact.epoch) key w o
TaskHolds s l key known (Some w) (tasks.Check reply) = CheckHolds s known w reply
TaskHolds s l key known (Some w) (tasks.Apply current) = ApplyHolds s known current
TaskHolds s l key known (Some w) (tasks.Propose o parent call) = ProposeHolds l key w o parent call

-- ## A leader at work on a key

-- each call was called, with its command
abbrev pub AreCalled : (ℕ → Bool) → (ℕ → Call) → List Waiting → Type 0
AreCalled called asked [] = Unit {0}
AreCalled called asked (w ∷ ws) = ((called w.id ≡ true) × ((asked w.id).command ≡ w.command)) × AreCalled called asked ws

-- each call is in the book
abbrev pub CallsAgree : Book → List Waiting → Type 0
CallsAgree b calls = AreCalled b.called b.asked calls

-- numbers, views, rounds, digests and calls of the program's leader; a key without a call is idle
pub record LeaderFits (hash : Hash) (s : State) (l : Leader) : Type 0 where
  pub epoch : IsEpoch l.fact.epoch
  pub seq : l.seq < 2 ^ 64
  pub views : s.objects.ledger.views (epoch_number l.fact.epoch) ≡ l.fact.views
  pub rows : (key : List ℕ) → RowFits hash l.fact.views key (row_at key l.table.rows)
  pub calls : CallsAgree s.book l.table.calls
  pub calm : IsCalm l.table

-- between two rules on the key the leader, who owes these answers, is seen as a leader of the theory
pub record IsAtWork (g : Ghosts) (s : State) (key : List ℕ) (owed : List Owed) (l : Leader) : Type 0 where
  pub holds : LeaderHolds g s (table_of key owed l)
  pub turns : TurnsHold g s
  pub fits : LeaderFits g.hash s l
  pub task : TaskHolds s l key (row_at key l.table.rows).known (running key l.table.calls) l.task

-- ## The answer of a rule

-- what a message of a leader says
abbrev pub SendSays : Ghosts → State → Message → Type 0
SendSays g s (messages.Get ballot round key) = GetSays g s (epoch_number ballot) round key
SendSays g s (messages.Check ballot round) = CheckSays g (epoch_number ballot) round
SendSays g s (messages.Put ballot o) = PutSays s (epoch_number ballot) o.key (rank o.version) (content_of o)
SendSays g s other = ⊥

abbrev pub SentSays : Ghosts → State → Outgoing → Type 0
SentSays g s o = SendSays g s o.message

-- a start of a call, of a read and of the next call find the key idle
abbrev pub finds_idle : KeyRule → Bool
finds_idle key_rules.StartCall = true
finds_idle key_rules.Read = true
finds_idle key_rules.StartNextCall = true
finds_idle rule = false

abbrev pub IsReadyFor : Then → List ℕ → Leader → Type 0
IsReadyFor (OnKeys rule) key l = finds_idle rule ≡ true → (row_at key l.table.rows).stage ≡ stages.Idle
IsReadyFor next key l = Unit {0}

-- what comes next finds the task that it takes: the stores are asked about the key without a task, or
-- to take the object that is to be proposed; a rule that is named runs on the key; and without one no
-- task is left
abbrev pub NextFits : List ℕ → Leader → Option Own → Then → List (List ℕ) → Type 0
NextFits key l (Some (owns.Fetch k)) next keys = (k ≡ key) × (l.task ≡ tasks.Nothing)
NextFits key l (Some (owns.Look k)) next keys = (k ≡ key) × (l.task ≡ tasks.Nothing)
NextFits key l (Some (owns.Put o)) next keys = (o.key ≡ key) × (parent : Option Version) × (call : Option ℕ) × (l.task ≡ tasks.Propose o parent call)
NextFits key l None (OnKeys rule) keys = (keys ≡ key ∷ []) × IsReady rule key l
NextFits key l None next keys = (keys ≡ []) × (l.task ≡ tasks.Nothing)

-- a leader proposes, settles and notes reads, and its own peer acknowledges what its tree shows; s is
-- the state in which the rule begins
abbrev pub IsLeaderStep : State → ℕ → Step → Type 0
IsLeaderStep s me (Propose v k u stamp content call) = Unit {0}
IsLeaderStep s me (Settle v) = Unit {0}
IsLeaderStep s me (Note i k u d) = Unit {0}
IsLeaderStep s me (Acknowledge p v) = (p ≡ me) × (s.objects.visible me (s.objects.key v) ≡ v)
IsLeaderStep s me step = ⊥

abbrev pub AreLeaderSteps : State → ℕ → List Step → Type 0
AreLeaderSteps s me [] = Unit {0}
AreLeaderSteps s me (step ∷ steps) = IsLeaderStep s me step × AreLeaderSteps s me steps

-- such steps keep the ledger, the trees of the peers with their trust, and what is recorded of calls,
-- answers and times
pub record IsKept (s t : State) : Type 0 where
  pub ledger : t.objects.ledger ≡ s.objects.ledger
  pub map : t.objects.map ≡ s.objects.map
  pub visible : t.objects.visible ≡ s.objects.visible
  pub floor : t.objects.floor ≡ s.objects.floor
  pub trusted : t.objects.trusted ≡ s.objects.trusted
  pub reverted : t.objects.reverted ≡ s.objects.reverted
  pub calls : t.book.calls ≡ s.book.calls
  pub called : t.book.called ≡ s.book.called
  pub asked : t.book.asked ≡ s.book.asked
  pub stood : t.book.stood ≡ s.book.stood
  pub answers : t.book.answers ≡ s.book.answers
  pub answered : t.book.answered ≡ s.book.answered
  pub now : t.book.now ≡ s.book.now
  pub elected_at : t.book.elected_at ≡ s.book.elected_at

-- the leader of this fact at this peer makes moves of the theory: the answers are owed, the notes are
-- those of the book, and the messages say what holds
pub record FollowsAs (g : Ghosts) (s : State) (key : List ℕ) (owed : List Owed) (fact : Fact) (me : ℕ) (accepts : List Bool) (r : Leader × LeadOut) : Type 0 where
  pub steps : List Step
  pub ghosts : Ghosts
  pub move : IsLeaderMove g s steps ghosts (table_of key (owed_after owed r.1.answers) r.0)
  pub kinds : AreLeaderSteps s me steps
  pub turns : TurnsHold ghosts (after s steps)
  pub fits : LeaderFits ghosts.hash (after s steps) r.0
  pub same : (r.0.fact ≡ fact) × ((r.0.me ≡ me) × (r.0.accepts ≡ accepts))
  pub task : TaskHolds (after s steps) r.0 key (row_at key r.0.table.rows).known (running key r.0.table.calls) r.0.task
  pub notes : (after s steps).book.notes ≡ s.book.notes ++ r.1.notes
  pub sends : All (SentSays ghosts (after s steps)) r.1.sends
  pub ready : IsReadyFor r.1.then key r.0
  pub next : NextFits key r.0 r.1.own r.1.then r.1.keys

-- after the leader l
abbrev pub Follows : Ghosts → State → List ℕ → List Owed → Leader → Leader × LeadOut → Type 0
Follows g s key owed l r = FollowsAs g s key owed l.fact l.me l.accepts r

-- a call comes, and the leader goes on from there: both together are a move of the theory
pub record TakesCall (g : Ghosts) (s : State) (key : List ℕ) (owed : List Owed) (l : Leader) (c : Call) (r : Leader × LeadOut) : Type 0 where
  pub follows : Follows (with_home g c.id l.me) (happens s (Ask c)) key owed l r
  pub move : IsLeaderMove g s (Ask c ∷ follows.steps) follows.ghosts (table_of key (owed_after owed r.1.answers) r.0)

-- the leader steps down, or its peer no longer trusts its tree: nothing is answered, noted or sent,
-- and its calls are the same, up to their ages, so that each is answered `timeout` when it leaves
pub record Ends (l : Leader) (r : Leader × LeadOut) : Type 0 where
  pub why : (r.1 ≡ leaves) ⊎ (r.1 ≡ comes Untrust)
  pub calls : map left_answer r.0.table.calls ≡ map left_answer l.table.calls
  pub same : (r.0.fact ≡ l.fact) × ((r.0.me ≡ l.me) × (r.0.accepts ≡ l.accepts))

abbrev pub GoesOn : Ghosts → State → List ℕ → List Owed → Leader → Leader × LeadOut → Type 0
GoesOn g s key owed l r = Ends l r ⊎ Follows g s key owed l r

-- time has passed at a leader without a task: the answers are owed, nothing is noted or sent, and
-- rule 36 comes next on each key that is named, which is idle, so that its next call starts
pub record TimesOut (g : Ghosts) (s : State) (owed : List Owed) (l : Leader) (r : Leader × LeadOut) : Type 0 where
  pub move : (key : List ℕ) → IsLeaderMove g s [] g (table_of key (owed_after owed r.1.answers) r.0)
  pub fits : LeaderFits g.hash s r.0
  pub same : (r.0.fact ≡ l.fact) × ((r.0.me ≡ l.me) × (r.0.accepts ≡ l.accepts))
  pub task : r.0.task ≡ tasks.Nothing
  pub notes : r.1.notes ≡ []
  pub sends : r.1.sends ≡ []
  pub own : r.1.own ≡ None
  pub next : r.1.then ≡ OnKeys key_rules.StartNextCall
  pub ready : (key : List ℕ) → key ∈ r.1.keys → (row_at key r.0.table.rows).stage ≡ stages.Idle

-- the leader leaves: its unanswered calls are calls of its table, each once, and for each a timeout
-- is owed, in order of arrival
pub record Leaves (g : Ghosts) (s : State) (key : List ℕ) (owed : List Owed) (l : Leader) : Type 0 where
  pub distinct : AreDistinct (ids_of l.table.calls)
  pub among : (i : ℕ) → i ∈ ids_of l.table.calls → (k : List ℕ) × (i ∈ calls_of ((table_of key owed l).rows k))
  pub answers : owed_after owed (map left_answer l.table.calls) ≡ owed ++ timeouts (ids_of l.table.calls)
  pub owes : OwesHold g s l.me (owed_after owed (map left_answer l.table.calls))
