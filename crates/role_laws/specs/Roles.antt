-- All leaders at once, and all messages of calls that were ever sent.
use Rattle.std.specs.Prelude.{◌≡◌, ◌<◌, ℕ, true, List, [], ◌∷◌, Option, None, ◌++◌}
use Rattle.ens_base.specs.Lists.{◌∈◌, AreDistinct}
use Rattle.ens_base.specs.declared.epoch.Version.{Version}
use Rattle.ens_base.specs.declared.reply.Reply.{Reply}
use Rattle.register_model.specs.declared.call.Call.{Call}
use Rattle.register_model.specs.Histories.{IsRefused}
use Rattle.protocol_laws.specs.Preparing.{proposer_of}
use Rattle.protocol_laws.specs.Ledger.{Place, is_established, put}
use Rattle.protocol_laws.specs.Book.{MayCall}
use Rattle.protocol_laws.specs.Protocol.{State, opening, Step, Ask, Elect, Propose, Settle, Note, Answer, happens, MayCome, after}
use Rattle.role_laws.specs.Tables.{Object, Leader, Ghosts, calls_of, timeouts, with_home, new_leader, Owed, seated}
use Rattle.role_laws.specs.Leaders.{LeaderHolds, TurnsHold, IsUnled, OwesHold}
use Rattle.role_laws.specs.LeaderMessages.{GetSays, CheckSays, PutSays, GetReplySays, CheckReplySays}
use Rattle.role_laws.specs.Moves.{IsLeaderMove}

-- what a peer does with tables, and the answers that it owes until its step ends
pub data Role : Type 0 where
  Follows : (owed : List Owed) → Role
  Starts : (epoch : ℕ) (owed : List Owed) → Role  -- it started the epoch and waits for acceptances
  Leads : (lead : Leader) → Role

-- the role, with these answers owed
abbrev pub with_owed : Role → List Owed → Role
with_owed (Follows o) owed = Follows owed
with_owed (Starts d o) owed = Starts d owed
with_owed (Leads l) owed = Leads (seated l owed)

-- the answers that are owed
abbrev pub owed_by : Role → List Owed
owed_by (Follows o) = o
owed_by (Starts d o) = o
owed_by (Leads l) = l.seat.owed

-- what a message says
pub data Said : Type 0 where
  Reads : (epoch round : ℕ) (key : List ℕ) → Said
  Entry : (epoch round : ℕ) (key : List ℕ) (entry : ℕ) (object : Option Object) → Said
  Checks : (epoch round : ℕ) → Said
  Stands : (epoch round : ℕ) → Said
  Puts : (epoch : ℕ) (key : List ℕ) (version : ℕ) (object : Object) → Said
  Acks : (version : ℕ) → Said

pub record Sent : Type 0 where
  pub from : ℕ
  pub said : Said

-- the peer leads an epoch that it proposes
pub record IsLeaderOf (g : Ghosts) (s : State) (p : ℕ) (l : Leader) : Type 0 where
  pub peer : l.seat.peer ≡ p
  pub own : proposer_of l.epoch ≡ p
  pub table : LeaderHolds g s l

pub record IsStartOf (g : Ghosts) (s : State) (p d : ℕ) (o : List Owed) : Type 0 where
  pub own : proposer_of d ≡ p
  pub owes : OwesHold g s p o
  pub unled : IsUnled g s d

abbrev pub RoleHolds : Ghosts → State → ℕ → Role → Type 0
RoleHolds g s p (Follows o) = OwesHold g s p o
RoleHolds g s p (Starts d o) = IsStartOf g s p d o
RoleHolds g s p (Leads l) = IsLeaderOf g s p l

abbrev pub SaidHolds : Ghosts → State → ℕ → Said → Type 0
SaidHolds g s q (Reads d r k) = GetSays g s d r k
SaidHolds g s q (Entry d r k entry object) = GetReplySays g s q d r k entry object
SaidHolds g s q (Checks d r) = CheckSays g d r
SaidHolds g s q (Stands d r) = CheckReplySays g s q d r
SaidHolds g s q (Puts d k v x) = PutSays s d k v x
SaidHolds g s q (Acks v) = s.objects.acked v q ≡ true

-- every role, every round and every message agrees with the state
pub record RolesHold (g : Ghosts) (s : State) (roles : ℕ → Role) (sent : List Sent) : Type 0 where
  pub turns : TurnsHold g s
  pub roles_hold : (p : ℕ) → RoleHolds g s p (roles p)
  pub sent_hold : (m : Sent) → m ∈ sent → SaidHolds g s m.from m.said

-- the step is of no table
abbrev pub IsSilent : Step → Type 0
IsSilent (Propose v k u x y c) = ⊥
IsSilent (Settle v) = ⊥
IsSilent (Note i k u d) = ⊥
IsSilent (Answer i r) = ⊥
IsSilent step = Unit {0}

-- ## Laws

-- what peer p may do
module _ (s : State) (g : Ghosts) (roles : ℕ → Role) (sent : List Sent) (p : ℕ) where
  -- in state t peer p has this role, and all else is as before
  abbrev pub Becomes : Ghosts → State → Role → Type 0
  Becomes h t role = RolesHold h t (put roles p role) sent

  pub record RoleMoves : Type 0 where
    -- a leader makes a move; the round that it started, if any, holds
    pub leads : (h : Ghosts) (l m : Leader) (steps : List Step) → roles p ≡ Leads l → m.epoch ≡ l.epoch → m.seat.peer ≡ l.seat.peer → IsLeaderMove g s steps h m → TurnsHold h (after s steps) → Becomes h (after s steps) (Leads m)
    -- a leader leaves: each of these calls of its table is answered timeout
    pub leaves : (l : Leader) (is : List ℕ) → roles p ≡ Leads l → AreDistinct is → ((i : ℕ) → i ∈ is → (k : List ℕ) × (i ∈ calls_of (l.rows k))) → Becomes g s (Follows (l.seat.owed ++ timeouts is))
    -- a call comes, and is to be refused
    pub refuses : (c : Call) (r : Reply) → IsRefused r → MayCall s.book c → Becomes (with_home g c.id p) (happens s (Ask c)) (with_owed (roles p) (owed_by (roles p) ++ record { call = c.id; reply = r } ∷ []))
    -- its step ends: the oldest answer that it owes is given
    pub gives : (x : Owed) (o : List Owed) → owed_by (roles p) ≡ x ∷ o → MayCome s (Answer x.call x.reply) × Becomes g (happens s (Answer x.call x.reply)) (with_owed (roles p) o)
    -- its epoch is elected; then a quorum has accepted it, and it leads; or it gives up
    pub elects : (d : ℕ) (b : Place) (o : List Owed) → proposer_of d ≡ p → MayCome s (Elect d b) → roles p ≡ Follows o → Becomes g (happens s (Elect d b)) (Starts d o)
    pub begins : (d : ℕ) (o : List Owed) → 0 < d → s.objects.ledger.elected d ≡ true → is_established s.objects.ledger d ≡ true → roles p ≡ Starts d o → Becomes g s (Leads (new_leader d (record { peer = p; owed = o })))
    pub gives_up : (d : ℕ) (o : List Owed) → roles p ≡ Starts d o → Becomes g s (Follows o)
    -- it stops, or its step was refused: what it owed is never given
    pub stops : Becomes g s (Follows [])

pub record RolesMove (s : State) : Type 0 where
  pub peer : (g : Ghosts) (roles : ℕ → Role) (sent : List Sent) (p : ℕ) → RolesHold g s roles sent → RoleMoves s g roles sent p
  -- a step of no table, of any peer
  pub silent : (g : Ghosts) (roles : ℕ → Role) (sent : List Sent) (e : Step) → MayCome s e → IsSilent e → RolesHold g s roles sent → RolesHold g (happens s e) roles sent
  -- a message is sent
  pub sends : (g : Ghosts) (roles : ℕ → Role) (sent : List Sent) (m : Sent) → SaidHolds g s m.from m.said → RolesHold g s roles sent → RolesHold g s roles (m ∷ sent)

-- before the first step nobody leads, no round was started, and no message was sent
abbrev pub RolesOpen : Type 0
RolesOpen = (view : List ℕ) (hash : Version → List ℕ → Version → Option (List ℕ) → List ℕ) → RolesHold (record { turn = λ d r. None; home = λ i. 0; hash = hash }) (opening view) (λ p. Follows []) []
