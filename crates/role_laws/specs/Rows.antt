-- Two rules of a leader as functions: the start of a call, and what it does when replies to a read
-- have come.
use Rattle.ens_base.specs.declared.epoch.Version.{Version}
use Rattle.std.specs.Prelude.{◌≡◌, ℕ, suc, ◌<◌, ◌^◌, Bool, true, false, List, [], ◌∷◌, Option, None, Some, ◌==◌}
use Rattle.ens_base.specs.declared.command.Command.{Command}
use Rattle.ens_base.specs.declared.command.Command.TheVariants.{Over, Delete, PutOnce, Update}
use Rattle.ens_base.specs.declared.reply.Reply.{Reply}
use Rattle.register_model.specs.declared.register.Register.TheVariants.{Absent, Present}
use Rattle.register_model.specs.Registers.{Outcome, Keeps, Writes, outcome, written}
use Rattle.quorums.specs.Quorums.{is_quorum}
use Rattle.protocol_laws.specs.Objects.{epoch_of}
use Rattle.protocol_laws.specs.Protocol.{State, Step, Note}
use Rattle.role_laws.specs.Tables.{Object, Known, Nothing, Idle, Reading, Leader, Ghosts, base_of, row_of, held, owing, Unknown, Held, Begun, Checking, turn_of, round_of}
use Rattle.role_laws.specs.Leaders.{RowHolds, LeaderHolds, IsObjectOf}
use Rattle.role_laws.specs.Moves.{IsLeaderMove, put_write, write_step, put_rewrite, rewrite_step}

-- a leader, and the steps that led to it
pub record Moved : Type 0 where
  pub lead : Leader
  pub steps : List Step

-- the command has this outcome on the settled register: it is written, or noted and answered
abbrev pub applied : Leader → List ℕ → Known → ℕ → List ℕ → Outcome → Moved
applied l k known i rest (Writes z) = record { lead = put_write l k known i rest z; steps = write_step l k (base_of known) z i ∷ [] }
applied l k known i rest (Keeps reply) = record { lead = owing l k (row_of known Idle rest) i reply; steps = Note i k (base_of known) l.epoch ∷ [] }

-- what a command writes on any register, if it does
abbrev pub overwrites : Command → Option (Option (List ℕ))
overwrites (Over value) = Some (Some value)
overwrites Delete = Some None
overwrites command = None

-- the best entry is of the leader's own epoch, or of a lower one
abbrev pub by_epoch : Ghosts → Leader → List ℕ → Known → ℕ → ℕ → List ℕ → Command → Object → Bool → Moved
by_epoch g l k known i best rest command x true = applied l k (held g k best x) i rest (outcome command (written x.stamp x.content))
by_epoch g l k known i best rest command x false = record { lead = put_rewrite l k known i rest x; steps = rewrite_step l k best x ∷ [] }

-- the best entry has no object: the call is lost if every member replied
abbrev pub by_every : Leader → List ℕ → Known → ℕ → List ℕ → Bool → Moved
by_every l k known i rest true = record { lead = owing l k (row_of known Idle rest) i Reply.Lost; steps = [] }
by_every l k known i rest false = record { lead = l; steps = [] }

abbrev pub by_object : Ghosts → Leader → List ℕ → Known → ℕ → ℕ → List ℕ → Command → Bool → Option Object → Moved
by_object g l k known i best rest command every (Some x) = by_epoch g l k known i best rest command x (epoch_of best == l.epoch)
by_object g l k known i best rest command every None = by_every l k known i rest every

abbrev pub by_over : Ghosts → Leader → List ℕ → Known → ℕ → ℕ → Option Object → List ℕ → Command → Bool → Option (Option (List ℕ)) → Moved
by_over g l k known i best object rest command every (Some z) = record { lead = put_write l k known i rest z; steps = write_step l k best z i ∷ [] }
by_over g l k known i best object rest command every None = by_object g l k known i best rest command every object

abbrev pub by_entry : Ghosts → Leader → List ℕ → Known → ℕ → ℕ → Option Object → List ℕ → Command → Bool → Bool → Moved
by_entry g l k known i best object rest command every true = applied l k Nothing i rest (outcome command Absent)
by_entry g l k known i best object rest command every false = by_over g l k known i best object rest command every (overwrites command)

-- the replies are a quorum, or those of every member
abbrev pub after_replies : Ghosts → Leader → List ℕ → Known → ℕ → ℕ → Option Object → List ℕ → Command → (quorum every : Bool) → Moved
after_replies g l k known i best object rest command false every = record { lead = l; steps = [] }
after_replies g l k known i best object rest command true every = by_entry g l k known i best object rest command every (best == 0)

-- the rule is a move of the leader
abbrev pub RepliesMove : State → Type 0
RepliesMove s = (g : Ghosts) (l : Leader) (k : List ℕ) (known : Known) (i r : ℕ) (replied : ℕ → Bool) (best : ℕ) (object : Option Object) (rest : List ℕ) (every : Bool) → LeaderHolds g s l → suc l.seq < 2 ^ 64 → RowHolds g s l.seat l.epoch k (row_of known (Reading i r replied best object) rest)
    → let moved = after_replies g l k known i best object rest (s.book.asked i).command (is_quorum replied (s.objects.ledger.views l.epoch)) every in IsLeaderMove g s moved.steps g moved.lead

-- ## The start of a call

-- a leader, what is remembered, and the steps that led to them
pub record Started : Type 0 where
  pub ghosts : Ghosts
  pub lead : Leader
  pub steps : List Step

-- a read starts
abbrev pub reads_first : Ghosts → Leader → List ℕ → Known → ℕ → List ℕ → Started
reads_first g l k known i rest = record { ghosts = turn_of g l known i; lead = round_of l k (row_of known (Reading i (suc l.round) (λ q. false) 0 None) rest); steps = [] }

-- the command has this outcome on the settled register, before a quorum replied: it is written, or checked
abbrev pub begun : Ghosts → Leader → List ℕ → Known → ℕ → List ℕ → Outcome → Started
begun g l k known i rest (Writes z) = record { ghosts = g; lead = put_write l k known i rest z; steps = write_step l k (base_of known) z i ∷ [] }
begun g l k known i rest (Keeps reply) = record { ghosts = turn_of g l known i; lead = round_of l k (row_of known (Checking i (suc l.round) (λ q. false) reply) rest); steps = [] }

-- the command depends on the bytes of a value, not only on its stamp
abbrev pub needs_bytes : Command → Bool
needs_bytes (PutOnce v) = false
needs_bytes (Update w v) = false
needs_bytes (Over v) = false
needs_bytes Delete = false
needs_bytes command = true

-- what the leader's own backend has of the settled version, if anything
abbrev pub by_seen : Ghosts → Leader → List ℕ → Known → ℕ → List ℕ → Command → Option Object → Started
by_seen g l k known i rest command (Some x) = begun g l k known i rest (outcome command (written x.stamp x.content))
by_seen g l k known i rest command None = reads_first g l k known i rest

abbrev pub by_need : Ghosts → Leader → List ℕ → Known → ℕ → List ℕ → Command → Version → Option Object → Bool → Started
by_need g l k known i rest command stamp seen true = by_seen g l k known i rest command seen
by_need g l k known i rest command stamp seen false = begun g l k known i rest (outcome command (Present stamp []))

abbrev pub call_starts : Ghosts → Leader → List ℕ → Known → ℕ → List ℕ → Command → Option Object → Started
call_starts g l k Unknown i rest command seen = reads_first g l k Unknown i rest
call_starts g l k Nothing i rest command seen = begun g l k Nothing i rest (outcome command Absent)
call_starts g l k (Held u stamp digest true) i rest command seen = begun g l k (Held u stamp digest true) i rest (outcome command Absent)
call_starts g l k (Held u stamp digest false) i rest command seen = by_need g l k (Held u stamp digest false) i rest command stamp seen (needs_bytes command)

-- the start of a call is a move
abbrev pub StartsMove : State → Type 0
StartsMove s = (g : Ghosts) (l : Leader) (k : List ℕ) (known : Known) (i : ℕ) (rest : List ℕ) (seen : Option Object) → LeaderHolds g s l → suc l.seq < 2 ^ 64 → RowHolds g s l.seat l.epoch k (row_of known (Begun i) rest) → ((x : Object) → seen ≡ Some x → IsObjectOf s (base_of known) x)
    → let started = call_starts g l k known i rest (s.book.asked i).command seen in IsLeaderMove g s started.steps started.ghosts started.lead
