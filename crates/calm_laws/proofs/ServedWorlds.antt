-- The world while calls are served, as definitions: between two calls, and while one runs.
use Rattle.std.proofs.Common.{◌≡◌, ◌⊎◌, ◌≤◌, ◌<◌, ◌^◌, ◌++◌, ℕ, suc, true, false, List, [], ◌∷◌, length, Option, None, Some}
use Rattle.call_table.specs.Rows.{Rows, row_at, check_at}
use Rattle.call_table.specs.declared.row.Known.{Known}
use Rattle.call_table.specs.declared.row.Known.TheVariants as knowns
use Rattle.call_table.specs.declared.row.Stage.{Stage}
use Rattle.call_table.specs.declared.row.Stage.TheVariants as stages
use Rattle.call_table.specs.declared.waiting.Waiting.{Waiting}
use Rattle.calm_laws.proofs.UnderWay.{Round, IsUnderWay}
use Rattle.calm_laws.proofs.Waits.{AllWaiting}
use Rattle.ens_base.specs.Limits.{IsKey, IsCommand}
use Rattle.ens_base.specs.Lists.{◌∈◌, same_bytes}
use Rattle.ens_base.specs.PeerSet.{holds}
use Rattle.ens_base.specs.declared.entry.Entry.{Entry}
use Rattle.ens_base.specs.declared.epoch.Version.{Version}
use Rattle.ens_base.specs.declared.reply.Reply.{Reply}
use Rattle.stored_formats.specs.Objects.{IsObject, object_spelling}
use Rattle.stored_formats.specs.declared.object.Object.{Object}
use Rattle.environment.specs.Maps.{value_at}
use Rattle.calm_step_laws.specs.WorldSpec.{HeldStores}
use Rattle.quorums.specs.Members.{those}
use Rattle.leader.specs.Leaders.{settled_as}
use Rattle.leader.specs.declared.leader.Leader.{Leader}
use Rattle.leader.specs.declared.pending.Pending.TheVariants as pendings
use Rattle.md5.specs.Md5.{md5}
use Rattle.network.specs.Mail.{Mail, IsMail, oldest, is_among}
use Rattle.quorums.specs.Rounds.{state_of}
use Rattle.quorums.specs.declared.round.Round.{Round as Tally}
use Rattle.quorums.specs.declared.round.RoundState.TheVariants.{Open}
use Rattle.register_model.specs.Histories.{IsDone}
use Rattle.register_model.specs.declared.answer.Answer.{Answer}
use Rattle.register_model.specs.declared.printed.Printed.{Printed}
use Rattle.register_model.specs.declared.printed.Printed.TheVariants as printed
use Rattle.synctree.specs.Entries.{lookup}
use Rattle.wire_frames.specs.declared.frame.Frame.{Frame}
use Rattle.wire_frames.specs.declared.message.Message.{Message}
use Rattle.wire_frames.specs.declared.message.Message.TheVariants as messages
use Rattle.world_refinement.specs.WorldSpec.{Run, next_event}
use Rattle.calm_step_laws.proofs.Leads.{leads}
use Rattle.calm_step_laws.proofs.CandidateSteps.{ballot, accepted}
use Rattle.calm_laws.proofs.Elections.{IsOther, rests, asking, replying}
use Rattle.calm_laws.proofs.Standing.{Stands}

-- How far the calls are: the number of call lines so far and their keys; the lines printed before the last of them;
-- and its id, if it is one of this calm.
pub record Scene : Type 0 where
  pub count : ℕ
  pub small : count < 2 ^ 32
  pub called : List (List ℕ)
  pub few : length called ≤ count
  pub before : List Printed
  pub call : Option ℕ

-- the answer to the last call is printed, was given by the next event, and completes the call
pub record IsAnswered (n : Scene) (id : ℕ) (w : Run) : Type 0 where
  pub answer : Answer
  pub named : answer.id ≡ id
  pub done : IsDone answer.reply
  pub early : answer.event ≤ next_event w.events
  pub shown : w.printed ≡ n.before ++ printed.Answer answer ∷ []

abbrev pub IsTold : Scene → Option ℕ → Run → Type 0
IsTold n None w = w.printed ≡ n.before
IsTold n (Some id) w = IsAnswered n id w

-- a key other than that of the running call
abbrev pub IsApart : Option (List ℕ) → List ℕ → Type 0
IsApart None k = Unit {0}
IsApart (Some key) k = same_bytes key k ≡ false

module _ (me : ℕ) (view : List ℕ) where
  abbrev pub round_of : Message → Message → Round
  round_of ask reply = record { leader = me; ask = ask; reply = reply }

  -- what the running call waits for
  pub data Wait : Type 0 where
    Reads : (round : ℕ) (votes : Tally) → Wait
    Checks : (round : ℕ) (votes : Tally) (reply : Reply) → Wait
    Puts : (o : Object) (votes : Tally) → Wait

  abbrev pub stage_of : Wait → Stage
  stage_of (Reads round votes) = stages.Reading round votes None
  stage_of (Checks round votes reply) = stages.Checking round votes reply
  stage_of (Puts o votes) = stages.Putting o (md5 (object_spelling o)) votes false

  abbrev pub votes_of : Wait → Tally
  votes_of (Reads round votes) = votes
  votes_of (Checks round votes reply) = votes
  votes_of (Puts o votes) = votes

  abbrev pub round_for : List ℕ → Wait → Round
  round_for key (Reads round votes) = round_of (messages.Get (ballot me view) round key) (messages.GetReply (ballot me view) round key None None)
  round_for key (Checks round votes reply) = round_of (messages.Check (ballot me view) round) (messages.CheckReply (ballot me view) round)
  round_for key (Puts o votes) = round_of (messages.Put (ballot me view) o) (messages.PutReply (ballot me view) o.key o.version)

  -- a settled object is what the own backend has
  pub record IsKept (stores : HeldStores) (key : List ℕ) (known : Known) : Type 0 where
    pub object : Object
    pub valid : IsObject object
    pub keyed : object.key ≡ key
    pub is : known ≡ settled_as object.version object (md5 (object_spelling object))
    pub has : value_at key stores.backend.entries ≡ Some (object_spelling object)

  -- what the leader knows of a key: nothing; that it is absent; or a settled object
  abbrev pub Knows : Rows → HeldStores → List ℕ → Type 0
  Knows rows stores key = ((row_at key rows).known ≡ knowns.Unknown) ⊎ (((row_at key rows).known ≡ knowns.Absent) ⊎ IsKept stores key (row_at key rows).known)

  abbrev pub IsUnknown : Rows → List ℕ → Type 0
  IsUnknown rows key = (row_at key rows).known ≡ knowns.Unknown

  -- the version of a write of the epoch
  abbrev pub version_at : ℕ → Version
  version_at seq = record { epoch = (ballot me view); seq = seq }

  -- a read is of an unknown key; a check is found by its round, and gives a completed reply; a put is of the last
  -- version, and stands in the own backend
  abbrev pub IsFitting : Scene → Leader → HeldStores → List ℕ → Wait → Type 0
  IsFitting n l stores key (Reads round votes) = (round ≡ l.round) × IsUnknown l.table.rows key × (suc l.seq ≤ n.count)
  IsFitting n l stores key (Checks round votes reply) = (check_at round l.table.checks ≡ Some key) × IsDone reply × Knows l.table.rows stores key
  IsFitting n l stores key (Puts o votes) = IsObject o × (o.key ≡ key) × (o.version ≡ version_at l.seq) × (IsUnknown l.table.rows key → ⊥) × (value_at key stores.backend.entries ≡ Some (object_spelling o))

  -- each entry is of a version of the epoch that was proposed, and its key was called
  abbrev pub IsPast : ℕ → List (List ℕ) → Entry → Type 0
  IsPast seq called e = (e.version.epoch ≡ (ballot me view)) × (e.version.seq ≤ seq) × (e.key ∈ called)

  -- the numbers and the rows of the leader fit its stores and the maps of all members; `busy` is the key of the
  -- running call
  pub record Holds (n : Scene) (seq round : ℕ) (rows : Rows) (stores : HeldStores) (map : ℕ → List Entry) (busy : Option (List ℕ)) : Type 0 where
    pub seqs : seq ≤ n.count
    pub rounds : round ≤ n.count
    pub past : (q : ℕ) (e : Entry) → q ∈ view → e ∈ map q → IsPast seq n.called e
    pub idle : (k : List ℕ) → IsApart busy k → (row_at k rows).stage ≡ stages.Idle
    pub knows : (k : List ℕ) → IsApart busy k → Knows rows stores k
    pub unknown : (k : List ℕ) → IsUnknown rows k → (q : ℕ) → q ∈ view → lookup k (map q) ≡ None

  abbrev pub IsReading : Option (List ℕ × Wait) → Type 0
  IsReading (Some (key, Reads round votes)) = Unit {0}
  IsReading running = ⊥

  abbrev pub IsReadOf : Option (List ℕ × Wait) → List ℕ → Type 0
  IsReadOf (Some (key, Reads round votes)) k = key ≡ k
  IsReadOf running k = ⊥

  -- the requests that may wait, and the replies: to a read of a key that is being read there is no entry
  abbrev pub MayAsk : Scene → Leader → Option (List ℕ × Wait) → Message → Type 0
  MayAsk n l running (messages.Get d r k) = (d ≡ (ballot me view)) × (r ≤ l.round)
  MayAsk n l running (messages.Check d r) = (d ≡ (ballot me view)) × (r ≤ l.round)
  MayAsk n l running (messages.Put d o) = (d ≡ (ballot me view)) × IsObject o × (o.version ≡ version_at l.seq) × (IsUnknown l.table.rows o.key → ⊥) × (o.key ∈ n.called) × (IsReading running → ⊥)
  MayAsk n l running message = ⊥

  abbrev pub MayReply : Leader → Option (List ℕ × Wait) → Message → Type 0
  MayReply l running (messages.GetReply d r k entry object) = (d ≡ (ballot me view)) × (r ≤ l.round) × (IsReadOf running k → (entry ≡ None) × (object ≡ None))
  MayReply l running (messages.CheckReply d r) = (d ≡ (ballot me view)) × (r ≤ l.round)
  MayReply l running (messages.PutReply d k v) = d ≡ (ballot me view)
  MayReply l running message = ⊥

  -- a request to another member, or the reply of one
  pub record Asks (n : Scene) (l : Leader) (running : Option (List ℕ × Wait)) (f : Frame) : Type 0 where
    pub to : ℕ
    pub other : IsOther me view to
    pub message : Message
    pub is : f ≡ asking me view to message
    pub may : MayAsk n l running message

  pub record Replied (l : Leader) (running : Option (List ℕ × Wait)) (f : Frame) : Type 0 where
    pub from : ℕ
    pub other : IsOther me view from
    pub message : Message
    pub is : f ≡ replying me view from message
    pub may : MayReply l running message

  abbrev pub Kind : Scene → Leader → Option (List ℕ × Wait) → Frame → Type 0
  Kind n l running f = Asks n l running f ⊎ Replied l running f

  -- the running call waits for an open round, in which each other member is counted or on its way to it
  pub record Serves (n : Scene) (l : Leader) (stores : HeldStores) (m : Mail) (call : Waiting) (wait : Wait) : Type 0 where
    pub calls : l.table.calls ≡ call ∷ []
    pub named : n.call ≡ Some call.id
    pub key : IsKey call.key
    pub command : IsCommand call.command
    pub was_called : call.key ∈ n.called
    pub stage : (row_at call.key l.table.rows).stage ≡ stage_of wait
    pub fits : IsFitting n l stores call.key wait
    pub open_yet : state_of (votes_of wait) ≡ Open
    pub views : (votes_of wait).tally.views ≡ view ∷ []
    pub size : length (votes_of wait).tally.votes ≡ 32
    pub own : holds (votes_of wait).tally.votes me ≡ true
    pub others : (q : ℕ) → IsOther me view q → IsUnderWay (round_for call.key wait) (λ k. true) m (λ k. holds (votes_of wait).tally.votes k) q

  abbrev pub Runs : Scene → Leader → HeldStores → Run → Option (List ℕ × Wait) → Type 0
  Runs n l stores w None = (l.table.calls ≡ []) × IsTold n n.call w
  Runs n l stores w (Some it) = (w.printed ≡ n.before) × ((call : Waiting) × (call.key ≡ it.0) × Serves n l stores w.mail call it.1)

  abbrev pub busy_with : Option (List ℕ × Wait) → Option (List ℕ)
  busy_with None = None
  busy_with (Some it) = Some it.0

  -- the world while calls are served
  pub record Leading (n : Scene) (w : Run) : Type 0 where
    pub mail : IsMail w.mail
    pub l : Leader
    pub fact : l.fact ≡ (accepted me view)
    pub self : l.me ≡ me
    pub task : l.task ≡ pendings.Nothing
    pub map : ℕ → List Entry
    pub leader : Stands w me (leads (accepted me view) l) (map me)
    pub others : (q : ℕ) → IsOther me view q → Stands w q (rests (accepted me view)) (map q)
    pub runs : Option (List ℕ × Wait)
    pub holds_well : Holds n l.seq l.round l.table.rows leader.stores map (busy_with runs)
    pub standing : Runs n l leader.stores w runs
    pub kinds : AllWaiting (Kind n l runs) w.mail

  -- every call was answered, and no message waits
  pub record IsServed (n : Scene) (w : Run) : Type 0 where
    pub led : Leading n w
    pub rests : led.runs ≡ None
    pub none : oldest (is_among (those (λ p. true))) w.mail ≡ None
