-- What ends a round: the replies that a quorum of the members gave, and what they come to.
use Rattle.std.specs.Prelude.{◌≡◌, ◌≢◌, ◌<◌, ◌==◌, ◌||◌, ℕ, Bool, true, false, map, is_none, Option, Some, None, List, [], ◌∷◌, ◌++◌}
use Rattle.ens_base.specs.Lists.{◌∈◌}
use Rattle.ens_base.specs.PeerSet.{holds}
use Rattle.ens_base.specs.View.{IsPeer}
use Rattle.ens_base.specs.declared.command.Command.{Command}
use Rattle.ens_base.specs.declared.command.Command.TheVariants.{Get, Append, Add, Swap, Over, Delete}
use Rattle.ens_base.specs.declared.entry.Entry.{Entry}
use Rattle.ens_base.specs.declared.epoch.Version.{Version}
use Rattle.ens_base.specs.declared.reply.Reply.{Reply}
use Rattle.stored_formats.specs.declared.object.Object.{Object}
use Rattle.quorums.specs.Quorums.{is_member, is_quorum}
use Rattle.quorums.specs.declared.round.Round.{Round}
use Rattle.register_model.specs.Registers.{Outcome, Keeps, Writes}
use Rattle.register_model.specs.declared.note.Note.{Note}
use Rattle.register_model.specs.declared.note.Note.TheVariants.{Settled}
use Rattle.wire_frames.specs.declared.message.Message.{Message}
use Rattle.phase_rows.specs.declared.phase.Then.TheVariants.{OnKeys}
use Rattle.phase_rows.specs.declared.rules.KeyRule.TheVariants as key_rules
use Rattle.call_table.specs.Best.{entry_cmp, best_of}
use Rattle.call_table.specs.Calls.{running, without_running, waiting_on, is_due}
use Rattle.call_table.specs.Rows.{row_at}
use Rattle.call_table.specs.declared.row.Found.{Found}
use Rattle.call_table.specs.declared.row.Known.{Known}
use Rattle.call_table.specs.declared.row.Known.TheVariants.{Unknown, Absent, Present}
use Rattle.call_table.specs.declared.row.Stage.TheVariants.{Idle, Reading}
use Rattle.call_table.specs.declared.waiting.Waiting.{Waiting}
use Rattle.leader_output.specs.Outs.{rests, leads_on}
use Rattle.leader_output.specs.declared.out.LeadOut.{LeadOut}
use Rattle.leader_output.specs.declared.out.Outgoing.{Outgoing}
use Rattle.leader.specs.Leaders.{base}
use Rattle.leader.specs.declared.leader.Leader.{Leader}
use Rattle.leader.specs.declared.pending.Pending.TheVariants as tasks
use Rattle.std.specs.declared.cmp.Ordering.TheVariants.{Less}

-- this call was running on the key: it is answered with this reply and these notes, it is gone, and
-- the next call of the key starts
pub record IsAnswered (w : Waiting) (reply : Reply) (notes : List Note) (key : List ℕ) (l : Leader) (r : Leader × LeadOut) : Type 0 where
  pub answers : r.1.answers ≡ record { caller = w.from; id = w.id; reply = reply } ∷ []
  pub noted : r.1.notes ≡ notes
  pub calls : r.0.table.calls ≡ without_running key l.table.calls
  pub idle : (row_at key r.0.table.rows).stage ≡ Idle
  pub next : r.1.then ≡ OnKeys key_rules.StartNextCall
  pub keys : r.1.keys ≡ key ∷ []

-- the sender and those that answered before are a quorum of the views of the leader's epoch
abbrev pub MakesQuorum : ℕ → Round → Leader → Type 0
MakesQuorum from round l = IsPeer from × (is_quorum (λ p. p == from || holds round.tally.votes p) l.fact.views ≡ true)

-- the leader alone is a quorum of the views of its epoch
abbrev pub IsQuorumAlone : Leader → Type 0
IsQuorumAlone l = IsPeer l.me × (is_quorum (λ p. p == l.me) l.fact.views ≡ true)

-- ## The replies of a round of reading

-- a reply of a member: the entry of its tree, and the object of its backend if that is the entry's
pub record GetReply : Type 0 where
  pub from : ℕ
  pub entry : Option Entry
  pub object : Option Object

abbrev pub contents : List GetReply → List (Option Entry × Option Object)
contents replies = map (λ g. (g.entry, g.object)) replies

-- whether this peer has replied
abbrev pub has_replied : List GetReply → ℕ → Bool
has_replied [] p = false
has_replied (g ∷ replies) p = p == g.from || has_replied replies p

-- the key is read in this round, in which these replies came, the newest first
pub record IsReading (key : List ℕ) (round : ℕ) (replies : List GetReply) (l : Leader) : Type 0 where
  pub votes : Round
  pub best : Option Found
  pub stage : (row_at key l.table.rows).stage ≡ Reading round votes best
  pub heard : (p : ℕ) → is_member l.fact.views p ≡ true → holds votes.tally.votes p ≡ has_replied replies p
  pub is_best : best ≡ best_of (contents replies)

-- no reply has an entry
abbrev pub HaveNoEntry : List GetReply → Type 0
HaveNoEntry replies = (e : Entry) (object : Option Object) → ¬ ((Some e, object) ∈ contents replies)

-- u is the greatest entry of the replies, by version, digest and key
pub record HaveGreatest (replies : List GetReply) (u : Entry) : Type 0 where
  pub named : (object : Option Object) × ((Some u, object) ∈ contents replies)
  pub greatest : (e : Entry) (object : Option Object) → (Some e, object) ∈ contents replies → ¬ (entry_cmp u e ≡ Less)

-- a reply has the entry u and its object o
abbrev pub HaveObject : List GetReply → Entry → Object → Type 0
HaveObject replies u o = (Some u, Some o) ∈ contents replies

-- the command writes this whatever the key holds: an overwrite its value, a delete none
abbrev pub Overwrites : Command → Option (List ℕ) → Type 0
Overwrites (Over value) content = content ≡ Some value
Overwrites Delete content = content ≡ None
Overwrites other content = ⊥

-- a command that needs the object that the key holds: any but an overwrite and a delete
abbrev pub NeedsObject : Command → Type 0
NeedsObject command = (content : Option (List ℕ)) → ¬ Overwrites command content

-- ## What follows

-- rule 30 follows on the key
pub record Evaluates (key : List ℕ) (o : LeadOut) : Type 0 where
  pub next : o.then ≡ OnKeys key_rules.EnoughReplies
  pub keys : o.keys ≡ key ∷ []

-- the version of the object is noted as settled, and the key is settled with the object
pub record IsSettled (o : Object) (digest : List ℕ) (key : List ℕ) (r : Leader × LeadOut) : Type 0 where
  pub noted : r.1.notes ≡ Settled key o.version ∷ []
  pub known : (row_at key r.0.table.rows).known ≡ Present o.version o.stamp digest (is_none o.value)

-- the command of the running call is to be applied to the object next, by rule 34
pub record IsToApply (o : Object) (key : List ℕ) (r : Leader × LeadOut) : Type 0 where
  pub task : r.0.task ≡ tasks.Apply (Some o)
  pub next : r.1.then ≡ OnKeys key_rules.Apply
  pub keys : r.1.keys ≡ key ∷ []

-- ## How a call starts

-- a command whose reply or whose effect depends on the value that the key holds
abbrev pub NeedsValue : Command → Type 0
NeedsValue Get = Unit {0}
NeedsValue (Append tail) = Unit {0}
NeedsValue (Add number) = Unit {0}
NeedsValue (Swap wanted value) = Unit {0}
NeedsValue other = ⊥

-- it is settled that the key holds nothing: it was never written, or its object is a tombstone
abbrev pub IsAbsent : Known → Type 0
IsAbsent Absent = Unit {0}
IsAbsent (Present version stamp digest tombstone) = tombstone ≡ true
IsAbsent Unknown = ⊥

-- the backend keeps this object, with this digest of its bytes, and it is the one that is settled
pub record IsSettledObject (key : List ℕ) (version : Version) (digest : List ℕ) (kept : Option (Object × List ℕ)) (o : Object) : Type 0 where
  pub given : kept ≡ Some (o, digest)
  pub on_key : o.key ≡ key
  pub at_version : o.version ≡ version

-- the outcome of a command on the settled object: a write is proposed next, by rule 31, upon the
-- settled version, and a reply waits for a check, by rule 33
abbrev pub decides : Outcome → List ℕ → Leader → Leader × LeadOut
decides (Writes content) key l = (record l { task = tasks.Write content (base key l) }, leads_on key_rules.Write key)
decides (Keeps reply) key l = (record l { task = tasks.Check reply }, leads_on key_rules.Check key)

-- the call waits after all others, unanswered, and starts exactly if its key has no other call
pub record Waits (from id : ℕ) (key : List ℕ) (command : Command) (l : Leader) (r : Leader × LeadOut) : Type 0 where
  pub waiting : r.0 ≡ record l { table = record l.table { calls = l.table.calls ++ record { from = from; id = id; key = key; command = command; age = 0 } ∷ [] } }
  pub starts : waiting_on key l.table.calls ≡ 0 → r.1 ≡ leads_on key_rules.StartCall key
  pub queues : 0 < waiting_on key l.table.calls → r.1 ≡ rests

-- ## Ticks

-- the peer is a member of a view of the leader's epoch, and not the leader itself
pub record IsOther (p : ℕ) (l : Leader) : Type 0 where
  pub peer : IsPeer p
  pub member : is_member l.fact.views p ≡ true
  pub other : p ≢ l.me

-- the peer is sent this message, and no other
pub record IsTold (p : ℕ) (message : Message) (o : LeadOut) : Type 0 where
  pub told : record { to = p; message = message } ∈ o.sends
  pub only : (sent : Outgoing) → sent ∈ o.sends → sent.to ≡ p → sent.message ≡ message

-- the peer is sent nothing
abbrev pub IsNotTold : ℕ → LeadOut → Type 0
IsNotTold p o = (sent : Outgoing) → sent ∈ o.sends → sent.to ≢ p

-- the running call of the key is due
abbrev pub IsRunningDue : List ℕ → List Waiting → Type 0
IsRunningDue key calls = (w : Waiting) × (running key calls ≡ Some w) × (is_due w ≡ true)
