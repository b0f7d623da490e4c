-- The table of a leader: a row for each key.
use Rattle.std.specs.Prelude.{◌++◌, ℕ, suc, ◌+◌, ◌*◌, ◌^◌, Bool, true, false, ◌&&◌, nat_lt, List, [], ◌∷◌, ◌==◌, Option, None, Some, if◌then◌else◌}
use Rattle.ens_base.specs.Lists.{same_bytes}
use Rattle.ens_base.specs.declared.epoch.Version.{Version}
use Rattle.ens_base.specs.declared.reply.Reply.{Reply}
use Rattle.protocol_laws.specs.Ledger.{put}
use Rattle.protocol_laws.specs.Book.{version_of}

-- the stamp and the content of an object, none for a tombstone
pub record Object : Type 0 where
  pub stamp : Version
  pub content : Option (List ℕ)

-- what a leader knows of a key: nothing yet; that the key is absent; or its settled version, with
-- stamp and digest, and whether it is a tombstone
pub data Known : Type 0 where
  Unknown : Known
  Nothing : Known
  Held : (version : ℕ) (stamp : Version) (digest : List ℕ) (gone : Bool) → Known

-- how far the running call of a key is
pub data Stage : Type 0 where
  Idle : Stage  -- no call runs
  Begun : (call : ℕ) → Stage  -- it has begun, and waits for nothing yet
  Reading : (call round : ℕ) (replied : ℕ → Bool) (best : ℕ) (object : Option Object) → Stage  -- it waits for the replies of a quorum; the greatest entry so far, 0 for none, and its object
  Sure : (call : ℕ) → Stage  -- the key is settled, and a quorum stood at the epoch since the call came
  Checking : (call round : ℕ) (replied : ℕ → Bool) (reply : Reply) → Stage  -- it waits for the replies of a quorum, to give this answer
  Writing : (call version : ℕ) (object : Object) (acks : ℕ → Bool) → Stage  -- it waits until a quorum acknowledges its write
  Rewriting : (call version : ℕ) (object : Object) (acks : ℕ → Bool) → Stage  -- it waits until a quorum acknowledges a rewrite

-- the row of a key: what is known of it, the running call, and the calls that wait
pub record KeyRow : Type 0 where
  pub known : Known
  pub stage : Stage
  pub waiting : List ℕ

-- an answer that a peer gives at the end of its step
pub record Owed : Type 0 where
  pub call : ℕ
  pub reply : Reply

-- a peer that leads, and the answers that it owes, oldest first
pub record Seat : Type 0 where
  pub peer : ℕ
  pub owed : List Owed

-- the calls of these answers
abbrev pub calls_owed : List Owed → List ℕ
calls_owed [] = []
calls_owed (a ∷ rest) = a.call ∷ calls_owed rest

-- one more answer
abbrev pub owe : Seat → ℕ → Reply → Seat
owe p i r = record p { owed = p.owed ++ record { call = i; reply = r } ∷ [] }

-- a leader: its epoch, its seat, the numbers of its last version and of its last round, and its keys
pub record Leader : Type 0 where
  pub epoch : ℕ
  pub seat : Seat
  pub seq : ℕ
  pub round : ℕ
  pub rows : List ℕ → KeyRow

-- what a round was started for: a call, and the settled version of its key, 0 for none
pub record Turn : Type 0 where
  pub call : ℕ
  pub base : ℕ

-- what the laws remember and no peer keeps: what each round of an epoch was started for, to which
-- peer each call came, and the digest of each object
pub record Ghosts : Type 0 where
  pub turn : ℕ → ℕ → Option Turn
  pub home : ℕ → ℕ
  pub hash : Version → List ℕ → Version → Option (List ℕ) → List ℕ

-- the version of the epoch with this sequence number
unfoldable pub version_at : ℕ → ℕ → ℕ
version_at d n = suc (d * 2 ^ 64 + n)

-- the settled version, or none
abbrev pub base_of : Known → ℕ
base_of Unknown = 0
base_of Nothing = 0
base_of (Held u stamp digest gone) = u

-- whether a version of the key is out for acknowledgement
abbrev pub has_put : Stage → Bool
has_put (Writing i v x acks) = true
has_put (Rewriting i v x acks) = true
has_put stage = false

-- the running call, then those that wait
abbrev pub with_running : Stage → List ℕ → List ℕ
with_running Idle rest = rest
with_running (Begun i) rest = i ∷ rest
with_running (Reading i r replied best object) rest = i ∷ rest
with_running (Sure i) rest = i ∷ rest
with_running (Checking i r replied reply) rest = i ∷ rest
with_running (Writing i v x acks) rest = i ∷ rest
with_running (Rewriting i v x acks) rest = i ∷ rest

-- the unanswered calls of a key
abbrev pub calls_of : KeyRow → List ℕ
calls_of row = with_running row.stage row.waiting

-- whether the content is a tombstone
abbrev pub is_gone : Option (List ℕ) → Bool
is_gone None = true
is_gone (Some bytes) = false

-- the rows, with this one at the key
abbrev pub set_row : (List ℕ → KeyRow) → List ℕ → KeyRow → List ℕ → KeyRow
set_row rows k row j = if same_bytes k j then row else rows j

-- the turns, with this one for the round
abbrev pub start_turn : (ℕ → ℕ → Option Turn) → ℕ → ℕ → Turn → ℕ → ℕ → Option Turn
start_turn turn d r t e q = if (d == e) && (r == q) then Some t else turn e q

-- the leader, with this row at the key
abbrev pub with_row : Leader → List ℕ → KeyRow → Leader
with_row l k row = record l { rows = set_row l.rows k row }

-- the leader, with this row at the key, and one more answer owed
abbrev pub owing : Leader → List ℕ → KeyRow → ℕ → Reply → Leader
owing l k row i r = record l { seat = owe l.seat i r; rows = set_row l.rows k row }

-- the leader, which owes these answers
abbrev pub seated : Leader → List Owed → Leader
seated l o = record l { seat = record { peer = l.seat.peer; owed = o } }

-- the first one, or else the second one
abbrev pub one_of : Option Object → Option Object → Option Object
one_of (Some x) other = Some x
one_of None other = other

-- the object of the greater of two entries; if they are equal, of either
abbrev pub better_object : ℕ → Option Object → ℕ → Option Object → Option Object
better_object best object entry theirs = if nat_lt best entry then theirs else if nat_lt entry best then object else one_of object theirs

-- the settled version, with its object
abbrev pub held : Ghosts → List ℕ → ℕ → Object → Known
held g k v x = Held v x.stamp (g.hash (version_of v) k x.stamp x.content) (is_gone x.content)

-- the calls without this one
abbrev pub without : List ℕ → ℕ → List ℕ
without [] j = []
without (x ∷ xs) j = if x == j then without xs j else x ∷ without xs j

-- what is remembered once a round has started
abbrev pub with_turn : Ghosts → ℕ → ℕ → Turn → Ghosts
with_turn g d r x = record g { turn = start_turn g.turn d r x }

-- what is remembered once a call came to a peer
abbrev pub with_home : Ghosts → ℕ → ℕ → Ghosts
with_home g i p = record g { home = put g.home i p }

-- timeout for each of the calls, in their order
abbrev pub timeouts : List ℕ → List Owed
timeouts [] = []
timeouts (i ∷ is) = record { call = i; reply = Reply.Timeout } ∷ timeouts is

-- a row, from its parts
abbrev pub row_of : Known → Stage → List ℕ → KeyRow
row_of known stage rest = record { known = known; stage = stage; waiting = rest }

-- the next version of the leader
abbrev pub next_version : Leader → ℕ
next_version l = version_at l.epoch (suc l.seq)

-- a leader that begins: it knows of no key
abbrev pub new_leader : ℕ → Seat → Leader
new_leader d p = record { epoch = d; seat = p; seq = 0; round = 0; rows = λ k. row_of Unknown Idle [] }

-- the leader, with this row at the key, in a new round
abbrev pub round_of : Leader → List ℕ → KeyRow → Leader
round_of l k row = record l { round = suc l.round; rows = set_row l.rows k row }

-- what is remembered once the leader has started a round for the call
abbrev pub turn_of : Ghosts → Leader → Known → ℕ → Ghosts
turn_of g l known i = with_turn g l.epoch (suc l.round) (record { call = i; base = base_of known })

-- a table that is kept as a list
pub record TableEntry : Type 0 where
  pub key : List ℕ
  pub row : KeyRow

-- the row of a key; an empty row for a key that was never called
abbrev pub rows_of : List TableEntry → List ℕ → KeyRow
rows_of [] j = row_of Unknown Idle []
rows_of (e ∷ table) j = if same_bytes e.key j then e.row else rows_of table j

-- the list with this row in the place of the key's old one, or at the end
abbrev pub put_row : List TableEntry → List ℕ → KeyRow → List TableEntry
put_row [] k row = record { key = k; row = row } ∷ []
put_row (e ∷ table) k row = if same_bytes e.key k then record { key = e.key; row = row } ∷ table else e ∷ put_row table k row
