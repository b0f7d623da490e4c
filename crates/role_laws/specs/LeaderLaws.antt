-- The laws of the tables of leaders in each state of a run.
use Rattle.std.specs.Prelude.{max, ◌≤◌, ◌≡◌, ℕ, suc, ◌^◌, ◌<◌, Bool, true, false, List, [], ◌∷◌, ◌++◌, Option, None, Some}
use Rattle.ens_base.specs.Lists.{◌∈◌, AreDistinct}
use Rattle.ens_base.specs.declared.epoch.Version.{Version}
use Rattle.ens_base.specs.declared.command.Command.{Command}
use Rattle.ens_base.specs.declared.reply.Reply.{Reply}
use Rattle.register_model.specs.declared.call.Call.{Call}
use Rattle.register_model.specs.declared.register.Register.TheVariants.{Absent, Present}
use Rattle.register_model.specs.Registers.{outcome, Keeps, Writes, written}
use Rattle.register_model.specs.Histories.{IsRefused}
use Rattle.protocol_laws.specs.Ledger.{is_established, put}
use Rattle.protocol_laws.specs.Objects.{epoch_of, IsNewest}
use Rattle.protocol_laws.specs.Book.{version_of, register_at, MayCall}
use Rattle.protocol_laws.specs.Protocol.{State, Step, Ask, Write, Acknowledge, Settle, Note, Answer, happens, MayCome, IsRun, state_after, after, MayAll}
use Rattle.role_laws.specs.Rows.{needs_bytes}
use Rattle.role_laws.specs.Tables.{Object, Known, Nothing, Stage, Idle, Begun, Reading, Sure, Checking, Writing, Rewriting, KeyRow, Leader, Turn, Ghosts, base_of, calls_of, with_row, better_object, held, with_turn, without, with_home, timeouts, row_of, new_leader, round_of, turn_of, set_row, TableEntry, rows_of, put_row, Seat, Owed, calls_owed, owe, owing, seated}
use Rattle.role_laws.specs.Leaders.{HasNoLater, IsQuorumAt, IsObjectOf, HeldHolds, KnownHolds, IsSettledKey, IsFresh, ReadingHolds, PutHolds, RowHolds, LeaderHolds, TurnHolds, TurnsHold, IsUnled, IsParent, IsNoClash, OwesHold}
use Rattle.role_laws.specs.LeaderMessages.{GetSays, CheckSays, PutSays, GetReplySays, CheckReplySays}
use Rattle.role_laws.specs.Moves.{AreOfLeader, GhostsGrow, IsOfOthers, SparesLeader, IsLeaderMove, put_write, write_step, put_rewrite, rewrite_step, SparesCall}

-- ## What stays

-- what is said of tables, of answers that are owed, of rounds and in messages stays so
pub record TablesStay (s : State) : Type 0 where
  -- a step that is of no row of the leader keeps its table, and so does each step of others
  pub spared : (g h : Ghosts) (e : Step) (l : Leader) → MayCome s e → GhostsGrow s g h → HasNoLater h l → SparesLeader s l e → LeaderHolds g s l → LeaderHolds h (happens s e) l
  pub others : (g h : Ghosts) (e : Step) (l : Leader) → MayCome s e → GhostsGrow s g h → HasNoLater h l → IsOfOthers g l e → LeaderHolds g s l → LeaderHolds h (happens s e) l
  -- a move of a leader keeps the table of each leader of another epoch at another peer
  pub moves : (g h : Ghosts) (steps : List Step) (l m : Leader) → IsLeaderMove g s steps h l → (l.epoch ≡ m.epoch → ⊥) → (l.seat.peer ≡ m.seat.peer → ⊥) → LeaderHolds g s m → LeaderHolds h (after s steps) m
  -- a step that is of no call that is owed an answer keeps what is owed
  pub owed : (g h : Ghosts) (e : Step) (p : ℕ) (o : List Owed) → MayCome s e → GhostsGrow s g h → ((i : ℕ) → i ∈ calls_owed o → SparesCall i e) → OwesHold g s p o → OwesHold h (happens s e) p o
  -- rounds and messages
  pub turns : (g : Ghosts) (steps : List Step) → MayAll s steps → TurnsHold g s → TurnsHold g (after s steps)
  pub gets : (g h : Ghosts) (steps : List Step) (d r : ℕ) (k : List ℕ) → MayAll s steps → GhostsGrow s g h → TurnsHold g s → GetSays g s d r k → GetSays h (after s steps) d r k
  pub replies : (g h : Ghosts) (steps : List Step) (q d r : ℕ) (k : List ℕ) (entry : ℕ) (object : Option Object) → MayAll s steps → GhostsGrow s g h → TurnsHold g s → GetReplySays g s q d r k entry object → GetReplySays h (after s steps) q d r k entry object
  pub checks : (g h : Ghosts) (steps : List Step) (q d r : ℕ) → MayAll s steps → GhostsGrow s g h → TurnsHold g s → CheckReplySays g s q d r → CheckReplySays h (after s steps) q d r
  pub puts : (steps : List Step) (d : ℕ) (k : List ℕ) (v : ℕ) (x : Object) → MayAll s steps → PutSays s d k v x → PutSays (after s steps) d k v x
  pub acks : (steps : List Step) (v q : ℕ) → MayAll s steps → s.objects.acked v q ≡ true → (after s steps).objects.acked v q ≡ true

-- what a peer says and does that stands at epoch d: what it replies to a read and to a check; and, if
-- it trusts its tree and accepted the epoch, that it may take a put
pub record PeersReply (s : State) (q d : ℕ) : Type 0 where
  pub get_reply : (g : Ghosts) (r : ℕ) (k : List ℕ) (object : Option Object) → TurnsHold g s → GetSays g s d r k → s.objects.trusted q ≡ true → ((x : Object) → object ≡ Some x → IsObjectOf s (s.objects.visible q k) x) → GetReplySays g s q d r k (s.objects.visible q k) object
  pub check_reply : (g : Ghosts) (r : ℕ) → TurnsHold g s → CheckSays g d r → CheckReplySays g s q d r
  pub put_is_there : (k : List ℕ) (v : ℕ) (x : Object) → s.objects.trusted q ≡ true → s.objects.ledger.accepted d q ≡ true → PutSays s d k v x → s.objects.visible q k ≡ v → MayAll s (Acknowledge q v ∷ [])
  pub put_goes_in : (k : List ℕ) (v : ℕ) (x : Object) → s.objects.trusted q ≡ true → s.objects.ledger.accepted d q ≡ true → PutSays s d k v x → s.objects.visible q k ≤ v → MayAll s (Write q v ∷ Acknowledge q v ∷ [])

-- ## Keys

-- what is known of a key in an elected epoch gives its register, and the parent of its next version
pub record KeyLaws (s : State) (g : Ghosts) (d : ℕ) (k : List ℕ) : Type 0 where
  -- the register of an object, of a tombstone, and of a value of which only the stamp is known
  pub object_register : (v : ℕ) (x : Object) → IsObjectOf s v x → written x.stamp x.content ≡ register_at s.book v
  pub gone_register : (u : ℕ) (stamp : Version) (digest : List ℕ) → HeldHolds g s d k u stamp digest true → Absent ≡ register_at s.book u
  pub stamp_outcome : (u : ℕ) (stamp : Version) (digest bytes : List ℕ) (c : Command) → HeldHolds g s d k u stamp digest false → needs_bytes c ≡ false → outcome c (Present stamp bytes) ≡ outcome c (register_at s.book u)
  -- an object with the digest of the settled version is its object, unless two strings clash
  pub matched_object : (u : ℕ) (stamp : Version) (digest : List ℕ) (gone : Bool) (x : Object) → IsNoClash g s u k x → HeldHolds g s d k u stamp digest gone → g.hash (version_of u) k x.stamp x.content ≡ digest → IsObjectOf s u x
  -- a quorum that is read again on a settled key finds the settled version
  pub newest_of_reread : (u i r : ℕ) (replied : ℕ → Bool) (best : ℕ) (object : Option Object) → s.objects.ledger.elected d ≡ true → IsNewest s.objects d k u → ReadingHolds g s d k u i r replied best object → IsQuorumAt s d replied → best ≡ u
  -- the parent of the next version: the settled one, or the best entry of a quorum
  pub settled_parent : (known : Known) → IsSettledKey known → KnownHolds g s d k known → IsParent s d k (base_of known)
  pub read_parent : (known : Known) (i r : ℕ) (replied : ℕ → Bool) (best : ℕ) (object : Option Object) → s.objects.ledger.elected d ≡ true → KnownHolds g s d k known → ReadingHolds g s d k (base_of known) i r replied best object → IsQuorumAt s d replied → IsParent s d k best
  -- while a put is out, nothing that a leader may know of the key holds
  pub put_leaves_nothing_known : (v : ℕ) (x : Object) (acks : ℕ → Bool) (known : Known) → PutHolds s d k v x acks → KnownHolds g s d k known → ⊥

-- ## Rows

-- a row of the leader of epoch d at seat p: of key k, with what is known of the key, the stage of its
-- running call, and the calls that wait
module _ (s : State) (g : Ghosts) (p : Seat) (d : ℕ) (k : List ℕ) (known : Known) (rest : List ℕ) where
  abbrev pub Row : Stage → Type 0
  Row stage = RowHolds g s p d k (row_of known stage rest)

  -- the moves of the row that are no step of the protocol
  pub record RowMoves : Type 0 where
    -- the first call that waits begins
    pub begins : (i : ℕ) → RowHolds g s p d k (row_of known Idle (i ∷ rest)) → Row (Begun i)
    -- a reply or an acknowledgement is counted
    pub reply_counts : (i r : ℕ) (replied : ℕ → Bool) (best : ℕ) (object : Option Object) (q entry : ℕ) (theirs : Option Object) → GetReplySays g s q d r k entry theirs → Row (Reading i r replied best object) → Row (Reading i r (put replied q true) (max best entry) (better_object best object entry theirs))
    pub check_counts : (i r : ℕ) (replied : ℕ → Bool) (reply : Reply) (q : ℕ) → CheckReplySays g s q d r → Row (Checking i r replied reply) → Row (Checking i r (put replied q true) reply)
    pub write_counts : (i v : ℕ) (x : Object) (acks : ℕ → Bool) (q : ℕ) → s.objects.acked v q ≡ true → Row (Writing i v x acks) → Row (Writing i v x (put acks q true))
    pub rewrite_counts : (i v : ℕ) (x : Object) (acks : ℕ → Bool) (q : ℕ) → s.objects.acked v q ≡ true → Row (Rewriting i v x acks) → Row (Rewriting i v x (put acks q true))
    -- a quorum replied: it found nothing, or a version of this epoch; or it still stands at the epoch
    pub finds_nothing : (i r : ℕ) (replied : ℕ → Bool) (best : ℕ) (object : Option Object) → s.objects.ledger.elected d ≡ true → IsQuorumAt s d replied → best ≡ 0 → Row (Reading i r replied best object) → RowHolds g s p d k (row_of Nothing (Sure i) rest)
    pub finds_settled : (i r : ℕ) (replied : ℕ → Bool) (best : ℕ) (x : Object) → s.objects.ledger.elected d ≡ true → IsQuorumAt s d replied → epoch_of best ≡ d → Row (Reading i r replied best (Some x)) → RowHolds g s p d k (row_of (held g k best x) (Sure i) rest)
    pub check_ends : (i r : ℕ) (replied : ℕ → Bool) (reply : Reply) → IsQuorumAt s d replied → Row (Checking i r replied reply) → Row (Sure i)
    -- what was read is dropped
    pub reading_began : (i r : ℕ) (replied : ℕ → Bool) (best : ℕ) (object : Option Object) → Row (Reading i r replied best object) → Row (Begun i)
    pub sure_began : (i : ℕ) → Row (Sure i) → Row (Begun i)
    pub checking_began : (i r : ℕ) (replied : ℕ → Bool) (reply : Reply) → Row (Checking i r replied reply) → Row (Begun i)

-- ## Leaders

-- the moves of a leader on one key, with at most one step of the protocol
module _ (s : State) (g : Ghosts) (l : Leader) (k : List ℕ) (known : Known) (rest : List ℕ) where
  abbrev pub LeaderRow : Stage → Type 0
  LeaderRow stage = RowHolds g s l.seat l.epoch k (row_of known stage rest)

  abbrev pub Move : List Step → Leader → Type 0
  Move steps next = IsLeaderMove g s steps g next

  pub record LeaderMoves : Type 0 where
    -- a call is answered timeout or lost
    pub times_out : (i : ℕ) → LeaderRow (Begun i) → Move [] (owing l k (row_of known Idle rest) i Reply.Timeout)
    pub waiting_times_out : (stage : Stage) (j : ℕ) → LeaderRow stage → j ∈ rest → Move [] (owing l k (row_of known stage (without rest j)) j Reply.Timeout)
    pub is_lost : (i : ℕ) → LeaderRow (Begun i) → Move [] (owing l k (row_of known Idle rest) i Reply.Lost)
    -- a read or a check starts, in a round of its own, for which the round is started
    pub reading_starts : (i : ℕ) → LeaderRow (Begun i) → IsLeaderMove g s [] (turn_of g l known i) (round_of l k (row_of known (Reading i (suc l.round) (λ q. false) 0 None) rest))
    pub checking_starts : (i : ℕ) (reply : Reply) → LeaderRow (Begun i) → IsSettledKey known → outcome (s.book.asked i).command (register_at s.book (base_of known)) ≡ Keeps reply → IsLeaderMove g s [] (turn_of g l known i) (round_of l k (row_of known (Checking i (suc l.round) (λ q. false) reply) rest))
    pub round_holds : (i : ℕ) → LeaderRow (Begun i) → TurnHolds s l.epoch (record { call = i; base = base_of known })
    -- a version is proposed: the write of a call, or a rewrite of what a quorum showed
    pub writes : (i u : ℕ) (z : Option (List ℕ)) → suc l.seq < 2 ^ 64 → LeaderRow (Begun i) → IsParent s l.epoch k u → outcome (s.book.asked i).command (register_at s.book u) ≡ Writes z → Move (write_step l k u z i ∷ []) (put_write l k known i rest z)
    pub rewrites : (i u : ℕ) (x : Object) → suc l.seq < 2 ^ 64 → LeaderRow (Begun i) → IsParent s l.epoch k u → IsObjectOf s u x → IsFresh s l.epoch i → Move (rewrite_step l k u x ∷ []) (put_rewrite l k known i rest x)
    -- a quorum acknowledged it
    pub settles_write : (i v : ℕ) (x : Object) (acks : ℕ → Bool) → LeaderRow (Writing i v x acks) → IsQuorumAt s l.epoch acks → Move (Settle v ∷ []) (owing l k (row_of (held g k v x) Idle rest) i (Reply.Ok (version_of v)))
    pub settles_rewrite : (i v : ℕ) (x : Object) (acks : ℕ → Bool) → LeaderRow (Rewriting i v x acks) → IsQuorumAt s l.epoch acks → Move (Settle v ∷ []) (with_row l k (row_of (held g k v x) (Sure i) rest))
    -- a read is noted and answered, also after a check
    pub reads : (i : ℕ) (reply : Reply) → LeaderRow (Sure i) → outcome (s.book.asked i).command (register_at s.book (base_of known)) ≡ Keeps reply → Move (Note i k (base_of known) l.epoch ∷ []) (owing l k (row_of known Idle rest) i reply)
    pub check_then_answer : (i r : ℕ) (replied : ℕ → Bool) (reply : Reply) → LeaderRow (Checking i r replied reply) → IsQuorumAt s l.epoch replied → Move (Note i k (base_of known) l.epoch ∷ []) (owing l k (row_of known Idle rest) i reply)
    -- a quorum replied to a read: a version that its command writes whatever is there, or a rewrite
    pub read_then_over : (i r : ℕ) (replied : ℕ → Bool) (best : ℕ) (object : Option Object) (z : Option (List ℕ)) → LeaderRow (Reading i r replied best object) → suc l.seq < 2 ^ 64 → IsQuorumAt s l.epoch replied → outcome (s.book.asked i).command (register_at s.book best) ≡ Writes z → Move (write_step l k best z i ∷ []) (put_write l k known i rest z)
    pub read_then_rewrite : (i r : ℕ) (replied : ℕ → Bool) (best : ℕ) (x : Object) → LeaderRow (Reading i r replied best (Some x)) → suc l.seq < 2 ^ 64 → IsQuorumAt s l.epoch replied → Move (rewrite_step l k best x ∷ []) (put_rewrite l k known i rest x)

-- the moves of a leader as a whole, and its term
pub record LeadersMove (s : State) : Type 0 where
  pub rows : (g : Ghosts) (l : Leader) (k : List ℕ) (known : Known) (rest : List ℕ) → LeaderHolds g s l → LeaderMoves s g l k known rest
  -- an epoch that is not elected is not led, and moves of leaders of other epochs keep that
  pub unled : (g : Ghosts) (d : ℕ) → TurnsHold g s → s.objects.ledger.elected d ≡ false → IsUnled g s d
  pub unled_stays : (g : Ghosts) (d e p : ℕ) (steps : List Step) → MayAll s steps → AreOfLeader g e p steps → (e ≡ d → ⊥) → IsUnled g s d → IsUnled g (after s steps) d
  pub unled_moves : (g h : Ghosts) (d : ℕ) (steps : List Step) (l : Leader) → IsLeaderMove g s steps h l → (l.epoch ≡ d → ⊥) → IsUnled g s d → IsUnled h (after s steps) d
  -- a leader begins, with an empty table, and leaves: each call of its table is answered timeout
  pub starts : (g : Ghosts) (d : ℕ) (p : Seat) → OwesHold g s p.peer p.owed → 0 < d → s.objects.ledger.elected d ≡ true → is_established s.objects.ledger d ≡ true → IsUnled g s d → LeaderHolds g s (new_leader d p)
  pub leaves : (g : Ghosts) (l : Leader) (is : List ℕ) → LeaderHolds g s l → AreDistinct is → ((i : ℕ) → i ∈ is → (k : List ℕ) × (i ∈ calls_of (l.rows k))) → OwesHold g s l.seat.peer (l.seat.owed ++ timeouts is)
  -- a call comes: it waits in the row of its key, or is refused
  pub joins : (g : Ghosts) (l : Leader) (c : Call) → LeaderHolds g s l → MayCall s.book c → IsLeaderMove g s (Ask c ∷ []) (with_home g c.id l.seat.peer) (with_row l c.key (row_of (l.rows c.key).known (l.rows c.key).stage ((l.rows c.key).waiting ++ c.id ∷ [])))
  pub refused : (g : Ghosts) (l : Leader) (c : Call) (r : Reply) → IsRefused r → LeaderHolds g s l → MayCall s.book c → IsLeaderMove g s (Ask c ∷ []) (with_home g c.id l.seat.peer) (record l { seat = owe l.seat c.id r })
  -- a step ends: the oldest answer that is owed is given
  pub gives : (g : Ghosts) (l : Leader) (x : Owed) (o : List Owed) → LeaderHolds g s (seated l (x ∷ o)) → IsLeaderMove g s (Answer x.call x.reply ∷ []) g (seated l o)
  pub others_give : (g : Ghosts) (p : ℕ) (x : Owed) (o : List Owed) → OwesHold g s p (x ∷ o) → MayCome s (Answer x.call x.reply) × OwesHold g (happens s (Answer x.call x.reply)) p o
  -- a row that holds may be put into the table; only what is found under each key matters
  pub row_moves : (g : Ghosts) (l : Leader) (k : List ℕ) (row : KeyRow) → LeaderHolds g s l → RowHolds g s l.seat l.epoch k row → IsLeaderMove g s [] g (with_row l k row)
  pub leader_same : (g : Ghosts) (l : Leader) (rows : List ℕ → KeyRow) → ((k : List ℕ) → l.rows k ≡ rows k) → LeaderHolds g s l → LeaderHolds g s (record l { rows = rows })
  -- the leader's own peer takes its put
  pub own_acknowledgement : (p d : ℕ) (k : List ℕ) (v : ℕ) (x : Object) (acks : ℕ → Bool) → s.objects.ledger.ballot p ≡ d → s.objects.trusted p ≡ true → s.objects.ledger.accepted d p ≡ true → PutHolds s d k v x acks → MayAll s (Write p v ∷ Acknowledge p v ∷ [])
  -- a round that was started is recorded
  pub turns_start : (g : Ghosts) (d r : ℕ) (x : Turn) → TurnHolds s d x → TurnsHold g s → TurnsHold (with_turn g d r x) s
  -- one move after another is a move
  pub move_then : (g h f : Ghosts) (es fs : List Step) (l m : Leader) → m.epoch ≡ l.epoch → m.seat.peer ≡ l.seat.peer → ((i : ℕ) → f.home i ≡ h.home i) → IsLeaderMove g s es h l → IsLeaderMove h (after s es) fs f m → IsLeaderMove g s (es ++ fs) f m

-- ## Tables as lists

-- a row that is put into the list is found, and every other row is as it was
abbrev pub PutIsFound : Type 0
PutIsFound = (table : List TableEntry) (k : List ℕ) (row : KeyRow) (j : List ℕ) → rows_of (put_row table k row) j ≡ set_row (rows_of table) k row j

-- a leader that has answered a call by a check of its own settled write
pub record HasLed (view : List ℕ) : Type 0 where
  pub steps : List Step
  pub run : IsRun view steps
  pub ghosts : Ghosts
  pub lead : Leader
  pub holds : LeaderHolds ghosts (state_after view steps) lead
  pub turns : TurnsHold ghosts (state_after view steps)
  pub key : List ℕ
  pub version : ℕ
  pub object : Object
  pub known : (lead.rows key).known ≡ held ghosts key version object
  pub settled : (state_after view steps).objects.settled version ≡ true
  pub call : ℕ
  pub noted : (state_after view steps).book.noted call ≡ true
  pub answered : (state_after view steps).book.answered call ≡ true

-- a leader that owes an answer after a rewrite of what the epoch before had written
pub record HasRewritten (view : List ℕ) : Type 0 where
  pub steps : List Step
  pub run : IsRun view steps
  pub ghosts : Ghosts
  pub lead : Leader
  pub holds : LeaderHolds ghosts (state_after view steps) lead
  pub version : ℕ
  pub settled : (state_after view steps).objects.settled version ≡ true
  pub rewrite : (state_after view steps).book.call version ≡ None
  pub some : 0 < (state_after view steps).objects.parent version
  pub call : ℕ
  pub reply : Reply
  pub owed : lead.seat.owed ≡ record { call = call; reply = reply } ∷ []
