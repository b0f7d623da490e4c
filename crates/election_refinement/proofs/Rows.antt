-- What a row asserts: the peer takes steps of the abstract protocol, after which it agrees with the
-- ledger as the row leaves it, and the row's message asserts what holds. How the row is performed,
-- and which rule follows, is in `Loops`.
use Rattle.std.proofs.Common.{◌≡◌, ℕ, Bool, true, false, Option, Some, None}
use Rattle.std.proofs.lemmas.Bool.{false≢true}
use Rattle.protocol_laws.specs.Ledger.{Ledger}
use Rattle.peer_state.specs.Moves.{follower, left, turned, without_sync}
use Rattle.peer_state.specs.Rows.{calm}
use Rattle.peer_state.specs.declared.state.Phase.{Phase}
use Rattle.peer_state.specs.declared.state.State.{State}
use Rattle.stored_formats.specs.declared.fact.Fact.{Fact}
use Rattle.phase_rows.specs.Rows.{silent}
use Rattle.tree_sync.specs.Running.{Running}
use Rattle.phase_rows.specs.declared.phase.PhaseOut.{PhaseOut}
use Rattle.phase_rows.specs.declared.phase.Then.{Then}
use Rattle.phase_rows.specs.declared.phase.Then.TheVariants as thens
use Rattle.phase_rows.specs.declared.rules.PhaseRule.{PhaseRule}
use Rattle.election_refinement.proofs.Keeps.{keeps_none}
use Rattle.election_refinement.specs.Keeps.{Keeps}
use Rattle.election_refinement.proofs.Reaching.{Course, Reaches}
use Rattle.election_refinement.proofs.Sets.{RowSays}
use Rattle.election_refinement.specs.Refinement.{PeerHolds, PhaseHolds, may_wait, MaySync, SyncHolds}

-- the state with the fact that a row saves
abbrev pub saved_in : Option Fact → State → State
saved_in None x = x
saved_in (Some fact) x = record x { fact = fact }

-- the fact that the stores keep after a row
abbrev pub stored_in : Option Fact → Option Fact → Option Fact
stored_in None stored = stored
stored_in (Some fact) stored = Some fact

-- no sync runs where a new one begins
abbrev pub made_way : Then → State → State
made_way (thens.SyncOn new) x = without_sync x
made_way other x = x

-- the state of peer `me` after a whole row, before a sync begins
abbrev pub settled : ℕ → PhaseOut → State → State
settled me row x = made_way row.then (turned me row.then (saved_in row.save (left row.leave x)))

-- a peer in this state may sync on the fact on which a sync begins, if one does
abbrev pub ThenHolds : Ledger → State → Then → Type 0
ThenHolds l x (thens.SyncOn new) = MaySync l x.fact (may_wait x.phase) new
ThenHolds l x other = Unit {0}

-- a peer whose phase may not wait for a sync runs none
pub none_runs : (l m : Ledger) (p : ℕ) (f g : Fact) (waiting : Bool) (sync : Option Running) → SyncHolds l p f false sync → SyncHolds m p g waiting sync
none_runs l m p f g waiting None runs = tt
none_runs l m p f g waiting (Some r) runs = absurd (false≢true runs.may.waits)

-- a sync runs on in a phase that may wait for it
pub runs_on : (l : Ledger) (p : ℕ) (f : Fact) (old new : Bool) (sync : Option Running) → new ≡ true → SyncHolds l p f old sync → SyncHolds l p f new sync
runs_on l p f old new None waits runs = tt
runs_on l p f old new (Some r) waits runs = record { may = record { first = runs.may.first; promised = runs.may.promised; newer = runs.may.newer; waits = waits }; asks = runs.asks }

module _ (c : Course) where
  open c use {peer as p}

  -- the peer in this state, whose stores keep `stored`, agrees with the ledger, and the run reaches
  -- the ledger
  pub record Fits (l : Ledger) (x : State) (stored : Option Fact) : Type 0 where
    pub reaches : Reaches c l
    pub peer : PeerHolds l p x stored

  -- the row from a state of the peer: steps of the peer lead to a ledger that fits
  pub record Goes (l : Ledger) (stored : Option Fact) (r : State × PhaseOut) : Type 0 where
    pub ledger : Ledger
    pub keeps : Keeps l ledger p
    pub fits : Fits ledger (settled p r.1 r.0) (stored_in r.1.save stored)
    pub says : RowSays ledger p r.1.message
    pub syncs : ThenHolds ledger (settled p r.1 r.0) r.1.then

-- the peer takes no step of the protocol
pub unmoved : {c : Course} {l : Ledger} {stored : Option Fact} {r : State × PhaseOut} → Fits c l (settled c.peer r.1 r.0) (stored_in r.1.save stored) → RowSays l c.peer r.1.message → ThenHolds l (settled c.peer r.1 r.0) r.1.then → Goes c l stored r
unmoved {c} {l} {stored} {r} fits says syncs = record { ledger = l; keeps = keeps_none l c.peer; fits = fits; says = says; syncs = syncs }

module _ {c : Course} {l : Ledger} {x : State} {stored : Option Fact} (h : Fits c l x stored) where
  open c use {peer as p}

  -- the peer enters a phase, and its sync stays
  abbrev pub enters : (phase : Phase) → PhaseHolds l p x.fact phase → SyncHolds l p x.fact (may_wait phase) x.sync → Fits c l (record x { phase = phase }) stored
  enters phase holds runs = record { reaches = h.reaches; peer = record { saved = h.peer.saved; kept = h.peer.kept; phase = holds; sync = runs } }

  -- the peer enters a phase, and no sync runs
  abbrev pub enters_alone : (phase : Phase) → PhaseHolds l p x.fact phase → Fits c l (record x { phase = phase; sync = None }) stored
  enters_alone phase holds = record { reaches = h.reaches; peer = record { saved = h.peer.saved; kept = h.peer.kept; phase = holds; sync = tt } }

  -- the tree becomes trusted
  abbrev pub trusts : Fits c l (record x { trusted = true }) stored
  trusts = record { reaches = h.reaches; peer = record { saved = h.peer.saved; kept = h.peer.kept; phase = h.peer.phase; sync = h.peer.sync } }

  -- nothing happens
  pub quiet : Goes c l stored (calm x)
  quiet = unmoved h tt tt

  -- the peer follows, whatever its phase became
  pub follows : (phase : Phase) → Goes c l stored (record x { phase = phase }, silent thens.Follow)
  follows phase = unmoved (enters_alone follower tt) tt tt

  -- the peer only enters a phase
  pub rests_in : (phase : Phase) → PhaseHolds l p x.fact phase → SyncHolds l p x.fact (may_wait phase) x.sync → Goes c l stored (record x { phase = phase }, silent thens.Stay)
  rests_in phase holds runs = unmoved (enters phase holds runs) tt tt

  -- the peer enters a phase, and then a rule runs
  pub names : (rule : PhaseRule) (phase : Phase) → PhaseHolds l p x.fact phase → SyncHolds l p x.fact (may_wait phase) x.sync → Goes c l stored (record x { phase = phase }, silent (thens.Rule rule))
  names rule phase holds runs = unmoved (enters phase holds runs) tt tt
