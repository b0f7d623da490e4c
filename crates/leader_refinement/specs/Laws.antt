-- The rules of a leader as moves of the theory, in each state of a run.
use Rattle.std.specs.Prelude.{◌≡◌, ◌⊎◌, ◌<◌, ◌+◌, ℕ, Bool, true, false, if◌then◌else◌, List, Option, Some, None}
use Rattle.ens_base.specs.declared.command.Command.{Command}
use Rattle.ens_base.specs.declared.entry.Entry.{Entry}
use Rattle.ens_base.specs.declared.epoch.Epoch.{Epoch}
use Rattle.ens_base.specs.declared.reply.Reply.{Reply}
use Rattle.ens_base.specs.declared.epoch.Version.{Version}
use Rattle.stored_formats.specs.declared.object.Object.{Object}
use Rattle.phase_rows.specs.declared.phase.Seen.{Seen}
use Rattle.phase_rows.specs.declared.phase.Seen.TheVariants as seens
use Rattle.protocol_laws.specs.Book.{version_of}
use Rattle.protocol_laws.specs.Protocol.{State, Step, Write, MayCome, happens, after}
use Rattle.protocol_laws.specs.Numbers.{epoch_number, IsEpoch, IsVersion}
use Rattle.protocol_laws.specs.Ledger.{is_established}
use Rattle.call_table.specs.Best.{better}
use Rattle.call_table.specs.Rows.{row_at, check_at}
use Rattle.call_table.specs.declared.row.Found.{Found}
use Rattle.call_table.specs.declared.row.Stage.TheVariants as stages
use Rattle.leader_output.specs.declared.out.LeadOut.{LeadOut}
use Rattle.stored_formats.specs.declared.fact.Fact.{Fact}
use Rattle.leader.specs.Leaders.{new_leader}
use Rattle.leader.specs.Puts.{row_31, row_32, row_35, row_35_reply}
use Rattle.leader.specs.Rounds.{row_29, row_29_reply, row_30, row_33, row_33_reply, row_34}
use Rattle.leader.specs.Starts.{row_27, row_28, row_36}
use Rattle.leader.specs.Ticks.{Finishing, aged, row_5_calls}
use Rattle.leader.specs.declared.leader.Leader.{Leader}
use Rattle.leader.specs.declared.pending.Pending.TheVariants as tasks
use Rattle.protocol_laws.specs.Stays.{EntriesStay}
use Rattle.role_laws.specs.Tables as theory
use Rattle.role_laws.specs.Tables.{Ghosts, Owed}
use Rattle.role_laws.specs.Leaders.{IsObjectOf, IsUnled, OwesHold, TurnsHold}
use Rattle.role_laws.specs.LeaderMessages.{CheckReplySays, GetReplySays, PutSays}
use Rattle.role_laws.specs.Moves.{IsLeaderMove}
use Rattle.leader_refinement.specs.Seen.{rank, content_of, entry_rank, shown, table_of}
use Rattle.leader_refinement.specs.Follows.{Hash, FoundNames, LeaderFits, IsAtWork, AreLeaderSteps, IsKept, GoesOn, TakesCall, Ends, TimesOut, Leaves}

-- a leader of an epoch that no leader has begun, with an empty table
abbrev pub LeadersBegin : State → Type 0
LeadersBegin s = (g : Ghosts) (key : List ℕ) (owed : List Owed) (fact : Fact) (me : ℕ) (accepts : List Bool) → TurnsHold g s → OwesHold g s me owed → 0 < epoch_number fact.epoch → s.objects.ledger.elected (epoch_number fact.epoch) ≡ true → is_established s.objects.ledger (epoch_number fact.epoch) ≡ true → IsUnled g s (epoch_number fact.epoch)
    → IsEpoch fact.epoch → s.objects.ledger.views (epoch_number fact.epoch) ≡ fact.views → IsAtWork g s key owed (new_leader fact me accepts)

-- an object of the backend: if its version was settled under the key, and its digest is that of the
-- version's object, then it is that object
abbrev pub KeptSays : Ghosts → State → List ℕ → Object × List ℕ → Type 0
KeptSays g s key kept =
    let u = rank kept.0.version in kept.0.key ≡ key → s.objects.settled u ≡ true → s.objects.key u ≡ key
    → kept.1 ≡ g.hash (version_of u) key (s.book.stamp u) (s.book.content u) → IsObjectOf s u (content_of kept.0)

-- what rule 28 sees of the backend
abbrev pub BackendSays : Ghosts → State → List ℕ → Seen → Type 0
BackendSays g s key (seens.Kept (Some kept)) = KeptSays g s key kept
BackendSays g s key seen = Unit {0}

-- rule 28: a call starts on an idle key
abbrev pub CallsStart : State → Type 0
CallsStart s = (g : Ghosts) (key : List ℕ) (owed : List Owed) (l : Leader) (seen : Seen) → IsAtWork g s key owed l → l.task ≡ tasks.Nothing → (row_at key l.table.rows).stage ≡ stages.Idle → BackendSays g s key seen → GoesOn g s key owed l (row_28 key seen l)

-- rule 33: a check begins, unless no round is left
abbrev pub ChecksBegin : State → Type 0
ChecksBegin s = (g : Ghosts) (key : List ℕ) (owed : List Owed) (l : Leader) (reply : Reply) → IsAtWork g s key owed l → l.task ≡ tasks.Check reply → s.objects.ledger.ballot l.me ≡ epoch_number l.fact.epoch → GoesOn g s key owed l (row_33 key l)

-- rule 33, CheckReply: it counts for the key that checks in the round
abbrev pub ChecksCount : State → Type 0
ChecksCount s = (g : Ghosts) (key : List ℕ) (owed : List Owed) (l : Leader) (from : ℕ) (ballot : Epoch) (round : ℕ) → IsAtWork g s key owed l → l.task ≡ tasks.Nothing → check_at round l.table.checks ≡ Some key → CheckReplySays g s from (epoch_number ballot) round → GoesOn g s key owed l (row_33_reply from ballot round l)

-- rule 34: the command of the running call is applied to the settled object
abbrev pub TasksApply : State → Type 0
TasksApply s = (g : Ghosts) (key : List ℕ) (owed : List Owed) (l : Leader) (current : Option Object) → IsAtWork g s key owed l → l.task ≡ tasks.Apply current → GoesOn g s key owed l (row_34 key l)

-- rule 36: the next call of a key is looked for
abbrev pub NextIsSought : State → Type 0
NextIsSought s = (g : Ghosts) (key : List ℕ) (owed : List Owed) (l : Leader) → IsAtWork g s key owed l → l.task ≡ tasks.Nothing → (row_at key l.table.rows).stage ≡ stages.Idle → GoesOn g s key owed l (row_36 key l)

-- rule 27: a call joins or is refused
abbrev pub CallsJoin : State → Type 0
CallsJoin s = (g : Ghosts) (key : List ℕ) (owed : List Owed) (l : Leader) (from id : ℕ) (command : Command) (finishing : Bool) → IsAtWork g s key owed l → l.task ≡ tasks.Nothing → s.book.called id ≡ false
    → TakesCall g s key owed l (record { id = id; key = key; command = command; event = s.book.now + 1 }) (row_27 from id key command finishing l)

-- a rule that proposes, and the first run of rule 35 after it, which notes the proposal
abbrev pub noted_next : List ℕ → Leader × LeadOut → Leader × LeadOut
noted_next key r = if r.1.leave then r else row_35 key seens.Nothing r.0

-- rule 31: a write is proposed and noted, unless no number is left
abbrev pub WritesGoOut : State → Type 0
WritesGoOut s = (g : Ghosts) (key : List ℕ) (owed : List Owed) (l : Leader) (content : Option (List ℕ)) (parent : Option Version) → IsAtWork g s key owed l → l.task ≡ tasks.Write content parent → GoesOn g s key owed l (noted_next key (row_31 key l))

-- rule 32: a rewrite is proposed and noted, unless no number is left
abbrev pub RewritesGoOut : State → Type 0
RewritesGoOut s = (g : Ghosts) (key : List ℕ) (owed : List Owed) (l : Leader) (o : Object) → IsAtWork g s key owed l → l.task ≡ tasks.Rewrite o → GoesOn g s key owed l (noted_next key (row_32 key l))

-- the version of the object that rule 35 puts may go into the tree of the leader's own peer, which
-- then shows it, and the leader is at work as before
pub record PutGoesIn (g : Ghosts) (s : State) (key : List ℕ) (owed : List Owed) (l : Leader) (o : Object) : Type 0 where
  pub says : PutSays s (epoch_number l.fact.epoch) key (rank o.version) (content_of o)
  pub may : MayCome s (Write l.me (rank o.version))
  pub shows : (happens s (Write l.me (rank o.version))).objects.visible l.me key ≡ rank o.version
  pub work : IsAtWork g (happens s (Write l.me (rank o.version))) key owed l

abbrev pub PutsGoIn : State → Type 0
PutsGoIn s = (g : Ghosts) (key : List ℕ) (owed : List Owed) (l : Leader) (o : Object) (parent : Option Version) (call : Option ℕ) → IsAtWork g s key owed l → l.task ≡ tasks.Propose o parent call
    → s.objects.ledger.ballot l.me ≡ epoch_number l.fact.epoch → s.objects.trusted l.me ≡ true → s.objects.ledger.accepted (epoch_number l.fact.epoch) l.me ≡ true → PutGoesIn g s key owed l o

-- what rule 35 sees after its own put: the digest of the object, whose version the tree now shows; or
-- damage
abbrev pub StoredSays : Ghosts → State → ℕ → List ℕ → Object → Seen → Type 0
StoredSays g s me key o (seens.Stored digest) = (digest ≡ g.hash o.version key o.stamp o.value) × (s.objects.visible me key ≡ rank o.version)
StoredSays g s me key o (seens.Damaged at) = Unit {0}
StoredSays g s me key o seen = ⊥

-- rule 35: the leader's own peer has stored the object, or has found damage
abbrev pub PutsAreStored : State → Type 0
PutsAreStored s = (g : Ghosts) (key : List ℕ) (owed : List Owed) (l : Leader) (o : Object) (parent : Option Version) (call : Option ℕ) (seen : Seen) → IsAtWork g s key owed l → l.task ≡ tasks.Propose o parent call
    → s.objects.ledger.ballot l.me ≡ epoch_number l.fact.epoch → s.objects.trusted l.me ≡ true → s.objects.ledger.accepted (epoch_number l.fact.epoch) l.me ≡ true → StoredSays g s l.me key o seen → GoesOn g s key owed l (row_35 key seen l)

-- rule 35, PutReply: it counts if it names the epoch and the version that the key has put
abbrev pub PutsCount : State → Type 0
PutsCount s = (g : Ghosts) (key : List ℕ) (owed : List Owed) (l : Leader) (from : ℕ) (ballot : Epoch) (version : Version) → IsAtWork g s key owed l → l.task ≡ tasks.Nothing → s.objects.acked (rank version) from ≡ true → GoesOn g s key owed l (row_35_reply from ballot key version l)

-- the object of what was found has the version of its entry, and the entry its digest
abbrev pub FoundSays : Ghosts → List ℕ → Option Found → Type 0
FoundSays g key best = FoundNames g.hash key best

-- rule 30: the replies of a round of reading are evaluated
abbrev pub RepliesAreRead : State → Type 0
RepliesAreRead s = (g : Ghosts) (key : List ℕ) (owed : List Owed) (l : Leader) → IsAtWork g s key owed l → l.task ≡ tasks.Nothing → GoesOn g s key owed l (row_30 key l)

-- the version of an entry is in range
abbrev pub EntryFits : Option Entry → Type 0
EntryFits None = Unit {0}
EntryFits (Some e) = IsVersion e.version

-- what rule 29 sees of the leader's own tree and backend: the entry that the tree shows, with an
-- object of it, if there is one; or damage
abbrev pub LookSays : State → ℕ → List ℕ → Seen → Type 0
LookSays s me key (seens.Held entry object) = EntryFits entry × (s.objects.visible me key ≡ entry_rank entry) × ((x : theory.Object) → shown entry object ≡ Some x → IsObjectOf s (entry_rank entry) x)
LookSays s me key (seens.Damaged at) = Unit {0}
LookSays s me key seen = ⊥

-- and what this says of the object
abbrev pub LookNames : Ghosts → List ℕ → Seen → Type 0
LookNames g key (seens.Held entry object) = FoundSays g key (better None entry object)
LookNames g key seen = Unit {0}

-- the first run of rule 29, and the second one, with what the leader's own peer has of the key
abbrev pub looked_next : List ℕ → Seen → Leader × LeadOut → Leader × LeadOut
looked_next key seen r = if r.1.leave then r else row_29 key seen r.0

-- rule 29: the key is read in a new round, unless no round is left
abbrev pub ReadsStart : State → Type 0
ReadsStart s = (g : Ghosts) (key : List ℕ) (owed : List Owed) (l : Leader) (seen : Seen) → IsAtWork g s key owed l → l.task ≡ tasks.Nothing → (row_at key l.table.rows).stage ≡ stages.Idle
    → s.objects.ledger.ballot l.me ≡ epoch_number l.fact.epoch → s.objects.trusted l.me ≡ true → LookSays s l.me key seen → LookNames g key seen → GoesOn g s key owed l (looked_next key seen (row_29 key seens.Nothing l))

-- rule 29, GetReply: it counts if it names the epoch and the round in which the key is read
abbrev pub ReadsCount : State → Type 0
ReadsCount s = (g : Ghosts) (key : List ℕ) (owed : List Owed) (l : Leader) (from : ℕ) (ballot : Epoch) (round : ℕ) (entry : Option Entry) (object : Option Object) → IsAtWork g s key owed l → l.task ≡ tasks.Nothing
    → GetReplySays g s from (epoch_number ballot) round key (entry_rank entry) (shown entry object) → EntryFits entry → FoundSays g key (better None entry object) → GoesOn g s key owed l (row_29_reply from ballot round key entry object l)

-- rule 5, the calls: the leader steps down if a put or the change is late; otherwise the calls that
-- are due are answered
abbrev pub TicksPass : State → Type 0
TicksPass s = (g : Ghosts) (key : List ℕ) (owed : List Owed) (l : Leader) (finishing : Finishing) → IsAtWork g s key owed l → l.task ≡ tasks.Nothing → Ends l (row_5_calls finishing l) ⊎ TimesOut g s owed l (row_5_calls finishing l)

-- a leader leaves
abbrev pub LeadersLeave : State → Type 0
LeadersLeave s = (g : Ghosts) (key : List ℕ) (owed : List Owed) (l : Leader) → IsAtWork g s key owed l → Leaves g s key owed l

-- a leader is seen the same whatever the ages of its calls are and, without a task, whatever the key
-- is
pub record IsSeenAlike (key : List ℕ) (owed : List Owed) (l : Leader) : Type 0 where
  pub ages : (j : List ℕ) → (table_of key owed l).rows j ≡ (table_of key owed (record l { table = aged l.table })).rows j
  pub keys : (k j : List ℕ) → l.task ≡ tasks.Nothing → (table_of key owed l).rows j ≡ (table_of k owed l).rows j

abbrev pub LeadersAreSeen : Type 0
LeadersAreSeen = (key : List ℕ) (owed : List Owed) (l : Leader) → IsSeenAlike key owed l

-- a leader without a task that is at work on one key is at work on each, and so are its moves
pub record KeysChange (s : State) : Type 0 where
  pub works : (g : Ghosts) (key k : List ℕ) (owed : List Owed) (l : Leader) → l.task ≡ tasks.Nothing → IsAtWork g s key owed l → IsAtWork g s k owed l
  pub moves : (g h : Ghosts) (steps : List Step) (key k : List ℕ) (owed : List Owed) (l : Leader) → l.task ≡ tasks.Nothing → IsLeaderMove g s steps h (table_of key owed l) → IsLeaderMove g s steps h (table_of k owed l)

-- the steps of a leader keep the ledger, the trees, and what is recorded of calls, answers and times
abbrev pub StepsKeep : Type 0
StepsKeep = (s : State) (me : ℕ) (steps : List Step) → AreLeaderSteps s me steps → IsKept s (after s steps)

-- each acknowledgement that the steps of a leader add is of its own peer, whose tree showed the version
abbrev pub AcksAreShown : Type 0
AcksAreShown = (s : State) (me : ℕ) (steps : List Step) → AreLeaderSteps s me steps → (v q : ℕ) → (after s steps).objects.acked v q ≡ true → (s.objects.acked v q ≡ true) ⊎ ((q ≡ me) × (s.objects.visible me (s.objects.key v) ≡ v))

-- what fits of a leader stays so, if the views of its epoch do
abbrev pub FitsStay : Type 0
FitsStay = (hash : Hash) (s t : State) (l : Leader) → EntriesStay s t → t.objects.ledger.views (epoch_number l.fact.epoch) ≡ s.objects.ledger.views (epoch_number l.fact.epoch) → LeaderFits hash s l → LeaderFits hash t l
