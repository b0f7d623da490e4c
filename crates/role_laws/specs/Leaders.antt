-- What the table of a leader says of the abstract protocol.
use Rattle.std.specs.Prelude.{◌≡◌, ℕ, ◌<◌, ◌≤◌, Bool, true, false, List, [], ◌∷◌, ◌⊎◌, Option, None, Some}
use Rattle.ens_base.specs.Lists.{◌∈◌, AreDistinct}
use Rattle.ens_base.specs.declared.epoch.Version.{Version}
use Rattle.ens_base.specs.declared.reply.Reply.{Reply}
use Rattle.register_model.specs.Registers.{outcome, Keeps}
use Rattle.quorums.specs.Quorums.{is_quorum}
use Rattle.protocol_laws.specs.Ledger.{is_established}
use Rattle.protocol_laws.specs.Objects.{epoch_of, IsGenuine, IsUntouched, IsNewest, MayBegin}
use Rattle.register_model.specs.Histories.{IsDone, IsRefused}
use Rattle.protocol_laws.specs.Book.{version_of, register_at, stood_below, Wrote, IsAbsentHere, IsWriteReply, IsReadReply}
use Rattle.protocol_laws.specs.Protocol.{State}
use Rattle.role_laws.specs.Tables.{Object, Known, Stage, KeyRow, Owed, Seat, calls_owed, Leader, Turn, Ghosts, version_at, base_of, has_put, calls_of, is_gone, Unknown, Nothing, Held, Idle, Begun, Reading, Sure, Checking, Writing, Rewriting}

-- no version was proposed for the call
abbrev pub IsUnwritten : State → ℕ → Type 0
IsUnwritten s i = (v : ℕ) → Wrote s.objects s.book i v → ⊥

-- the object of a proposed version
pub record IsObjectOf (s : State) (v : ℕ) (x : Object) : Type 0 where
  pub some : 0 < v
  pub stamp : x.stamp ≡ s.book.stamp v
  pub content : x.content ≡ s.book.content v

-- the settled version is the newest of the key in the epoch, and its object has this stamp and this
-- digest, and is or is not a tombstone
pub record HeldHolds (g : Ghosts) (s : State) (d : ℕ) (k : List ℕ) (u : ℕ) (stamp : Version) (digest : List ℕ) (gone : Bool) : Type 0 where
  pub newest : IsNewest s.objects d k u
  pub same_stamp : stamp ≡ s.book.stamp u
  pub same_digest : digest ≡ g.hash (version_of u) k (s.book.stamp u) (s.book.content u)
  pub same_gone : gone ≡ is_gone (s.book.content u)

-- what is known of a key, while no version of it is out
abbrev pub KnownHolds : Ghosts → State → ℕ → List ℕ → Known → Type 0
KnownHolds g s d k Unknown = IsUntouched s.objects d k
KnownHolds g s d k Nothing = IsAbsentHere s.objects d k 0
KnownHolds g s d k (Held u stamp digest gone) = HeldHolds g s d k u stamp digest gone

-- the key is known to be absent, or its settled version is known
abbrev pub IsSettledKey : Known → Type 0
IsSettledKey Unknown = ⊥
IsSettledKey known = Unit {0}

-- the peers are a quorum of the epoch's views
abbrev pub IsQuorumAt : State → ℕ → (ℕ → Bool) → Type 0
IsQuorumAt s d peers = is_quorum peers (s.objects.ledger.views d) ≡ true

-- a quorum stood at the epoch or below when the call came
abbrev pub IsFresh : State → ℕ → ℕ → Type 0
IsFresh s d i = IsQuorumAt s d (stood_below s.book i d)

-- a read: what each peer that replied showed of the key is at most the best entry. So is the settled
-- version, if the peer was among those that had acknowledged it when it was settled
pub record ReadingHolds (g : Ghosts) (s : State) (d : ℕ) (k : List ℕ) (base i r : ℕ) (replied : ℕ → Bool) (best : ℕ) (object : Option Object) : Type 0 where
  pub turn : g.turn d r ≡ Some (record { call = i; base = base })
  pub unwritten : IsUnwritten s i
  pub genuine : IsGenuine s.objects d k best
  pub reached : (q : ℕ) → replied q ≡ true → d ≤ s.objects.ledger.ballot q
  pub given : (q : ℕ) → replied q ≡ true → s.objects.floor q d k ≤ best
  pub stood : (q : ℕ) → replied q ≡ true → s.book.stood i q ≤ d
  pub settled : (q : ℕ) → replied q ≡ true → s.objects.settled_by base q ≡ true → base ≤ best
  pub holds : (x : Object) → object ≡ Some x → IsObjectOf s best x

-- a check: the answer is what the command returns on the settled register, which it leaves unchanged
pub record CheckingHolds (g : Ghosts) (s : State) (d : ℕ) (base i r : ℕ) (replied : ℕ → Bool) (reply : Reply) : Type 0 where
  pub turn : g.turn d r ≡ Some (record { call = i; base = base })
  pub unwritten : IsUnwritten s i
  pub stood : (q : ℕ) → replied q ≡ true → s.book.stood i q ≤ d
  pub keeps : outcome (s.book.asked i).command (register_at s.book base) ≡ Keeps reply

-- a version that is out: the greatest of the key in the epoch, and not settled
pub record PutHolds (s : State) (d : ℕ) (k : List ℕ) (v : ℕ) (x : Object) (acks : ℕ → Bool) : Type 0 where
  pub proposed : s.objects.proposed v ≡ true
  pub key : s.objects.key v ≡ k
  pub epoch : epoch_of v ≡ d
  pub unsettled : s.objects.settled v ≡ false
  pub greatest : (y : ℕ) → s.objects.proposed y ≡ true → s.objects.key y ≡ k → epoch_of y ≡ d → y ≤ v
  pub object : IsObjectOf s v x
  pub acked : (q : ℕ) → acks q ≡ true → s.objects.acked v q ≡ true

-- a write that is out: the only write of its call
pub record WritingHolds (s : State) (d : ℕ) (k : List ℕ) (i v : ℕ) (x : Object) (acks : ℕ → Bool) : Type 0 where
  pub put : PutHolds s d k v x acks
  pub call : s.book.call v ≡ Some i
  pub only : (w : ℕ) → Wrote s.objects s.book i w → w ≡ v

-- a rewrite that is out: a quorum stood at the epoch or below when the call came
pub record RewritingHolds (s : State) (d : ℕ) (k : List ℕ) (i v : ℕ) (x : Object) (acks : ℕ → Bool) : Type 0 where
  pub put : PutHolds s d k v x acks
  pub unwritten : IsUnwritten s i
  pub call : s.book.call v ≡ None
  pub fresh : IsFresh s d i

-- what the stage of the running call says
abbrev pub StageHolds : Ghosts → State → ℕ → List ℕ → Known → Stage → Type 0
StageHolds g s d k known Idle = Unit {0}
StageHolds g s d k known (Begun i) = IsUnwritten s i
StageHolds g s d k known (Reading i r replied best object) = ReadingHolds g s d k (base_of known) i r replied best object
StageHolds g s d k known (Sure i) = IsUnwritten s i × IsFresh s d i × IsSettledKey known
StageHolds g s d k known (Checking i r replied reply) = CheckingHolds g s d (base_of known) i r replied reply × IsSettledKey known
StageHolds g s d k known (Writing i v x acks) = WritingHolds s d k i v x acks
StageHolds g s d k known (Rewriting i v x acks) = RewritingHolds s d k i v x acks

-- an unanswered call on the key: it came to this peer after the epoch was elected, and is owed no
-- answer yet
pub record CallHolds (g : Ghosts) (s : State) (p : Seat) (d : ℕ) (k : List ℕ) (i : ℕ) : Type 0 where
  pub called : s.book.called i ≡ true
  pub on_key : (s.book.asked i).key ≡ k
  pub home : g.home i ≡ p.peer
  pub free : i ∈ calls_owed p.owed → ⊥
  pub later : s.book.elected_at d < (s.book.asked i).event
  pub unanswered : s.book.answered i ≡ false
  pub unnoted : s.book.noted i ≡ false

-- what the row of a key says
pub record RowHolds (g : Ghosts) (s : State) (p : Seat) (d : ℕ) (k : List ℕ) (row : KeyRow) : Type 0 where
  pub known : has_put row.stage ≡ false → KnownHolds g s d k row.known
  pub stage : StageHolds g s d k row.known row.stage
  pub calls : (i : ℕ) → i ∈ calls_of row → CallHolds g s p d k i
  pub waiting : (i : ℕ) → i ∈ row.waiting → IsUnwritten s i
  pub distinct : AreDistinct (calls_of row)

-- an answer that may be given: a completed one from a settled write or a noted read, a refusal of a
-- call that has neither, or a timeout
pub record OwedHolds (g : Ghosts) (s : State) (p i : ℕ) (r : Reply) : Type 0 where
  pub called : s.book.called i ≡ true
  pub home : g.home i ≡ p
  pub unanswered : s.book.answered i ≡ false
  pub done : IsDone r → IsWriteReply s.objects s.book i r ⊎ (IsReadReply s.book i r × (((s.book.seen i).base ≡ 0) ⊎ (s.objects.proposed (s.book.seen i).base ≡ true)))
  pub unwritten : IsRefused r → IsUnwritten s i
  pub unnoted : IsRefused r → s.book.noted i ≡ false

-- the answers that a peer owes, at most one for each call
abbrev pub OwesHold : Ghosts → State → ℕ → List Owed → Type 0
OwesHold g s p [] = Unit {0}
OwesHold g s p (a ∷ rest) = OwedHolds g s p a.call a.reply × ((a.call ∈ calls_owed rest → ⊥) × OwesHold g s p rest)

-- no round after the leader's last was started in its epoch
abbrev pub HasNoLater : Ghosts → Leader → Type 0
HasNoLater g l = (r : ℕ) → l.round < r → g.turn l.epoch r ≡ None

-- a leader of an established epoch: the versions of the epoch go up to its last number, and the
-- rounds up to its last round; each row holds, and each answer that it owes may be given
pub record LeaderHolds (g : Ghosts) (s : State) (l : Leader) : Type 0 where
  pub led : 0 < l.epoch
  pub elected : s.objects.ledger.elected l.epoch ≡ true
  pub established : is_established s.objects.ledger l.epoch ≡ true
  pub numbers : (v : ℕ) → s.objects.proposed v ≡ true → epoch_of v ≡ l.epoch → v ≤ version_at l.epoch l.seq
  pub rounds : HasNoLater g l
  pub rows : (k : List ℕ) → RowHolds g s l.seat l.epoch k (l.rows k)
  pub owes : OwesHold g s l.seat.peer l.seat.owed

-- a round of an elected epoch was started for a call that came, and its base is settled, or none
pub record TurnHolds (s : State) (d : ℕ) (t : Turn) : Type 0 where
  pub elected : s.objects.ledger.elected d ≡ true
  pub called : s.book.called t.call ≡ true
  pub base : (t.base ≡ 0) ⊎ ((s.objects.settled t.base ≡ true) × (s.objects.key t.base ≡ (s.book.asked t.call).key))

-- what holds of each round that was started
abbrev pub TurnsHold : Ghosts → State → Type 0
TurnsHold g s = (d r : ℕ) (t : Turn) → g.turn d r ≡ Some t → TurnHolds s d t

-- the leader of the epoch has not begun: no version of the epoch was proposed, and no round started
pub record IsUnled (g : Ghosts) (s : State) (d : ℕ) : Type 0 where
  pub none : (v : ℕ) → s.objects.proposed v ≡ true → epoch_of v ≡ d → ⊥
  pub fresh : (r : ℕ) → g.turn d r ≡ None

-- the next version of the key may have this parent
abbrev pub IsParent : State → ℕ → List ℕ → ℕ → Type 0
IsParent s d k u = MayBegin s.objects d k u ⊎ IsNewest s.objects d k u

-- an object with the digest of the version's object is that object: their two strings do not clash
abbrev pub IsNoClash : Ghosts → State → ℕ → List ℕ → Object → Type 0
IsNoClash g s u k x = g.hash (version_of u) k x.stamp x.content ≡ g.hash (version_of u) k (s.book.stamp u) (s.book.content u) → (x.stamp ≡ s.book.stamp u) × (x.content ≡ s.book.content u)
