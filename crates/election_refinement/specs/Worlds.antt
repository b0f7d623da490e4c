-- When a world refines a run of the abstract protocol, and what follows for the world.
use Rattle.std.specs.Prelude.{◌≡◌, ◌≢◌, ℕ, suc, ◌<◌, ◌≤◌, ◌⊎◌, List, [], ◌∷◌, ◌++◌, All, Option, Some, slice_get}
use Rattle.protocol_laws.specs.Ledger.{Ledger, IsAtMost}
use Rattle.protocol_laws.specs.Numbers.{epoch_number}
use Rattle.protocol_laws.specs.Protocol.{Step, IsRun, state_after}
use Rattle.protocol_laws.specs.Elections.{IsLastOpen}
use Rattle.ens_base.specs.Epochs.{IsEpochBelow}
use Rattle.quorums.specs.Quorums.{SharesView}
use Rattle.peer_state.specs.declared.state.Leadership.{Leadership}
use Rattle.peer_state.specs.declared.state.Phase.TheVariants as phases
use Rattle.peer_state.specs.declared.state.State.{State}
use Rattle.stored_formats.specs.declared.fact.Fact.{Fact}
use Rattle.schedule_text.specs.declared.event.ScheduleEvent.{ScheduleEvent}
use Rattle.schedule_text.specs.declared.event.ScheduleEvent.TheVariants.{Stop, Fail}
use Rattle.world_spec.specs.Nodes.{Node, Up, Down}
use Rattle.world_spec.specs.Runs.{Run}
use Rattle.world_spec.specs.Held.{HeldStores}
use Rattle.election_refinement.specs.Refinement.{fact_place, IsFactClosed, NodeHolds, FrameHolds, IsOrderly}
use Rattle.step_plans.specs.Saved.{bare}

-- ## Schedules

-- the line neither stops the peer nor makes one of its writes fail
abbrev pub Spares : ℕ → ScheduleEvent → Type 0
Spares peer (Stop stopped) = peer ≢ stopped
Spares peer (Fail failing store survivor) = peer ≢ failing
Spares peer event = Unit {0}

abbrev pub AllSpare : ℕ → List ScheduleEvent → Type 0
AllSpare peer [] = Unit {0}
AllSpare peer (event ∷ more) = Spares peer event × AllSpare peer more

-- ## The refinement

-- the world refines the ledger: each peer agrees with it, and what each message ever sent asserts
-- holds
pub record Refines (l : Ledger) (w : Run) : Type 0 where
  pub orderly : IsOrderly l
  pub nodes : (place : ℕ) (node : Node) → slice_get w.nodes place ≡ Some node → NodeHolds l (suc place) node
  pub sent : All (FrameHolds l) w.mail.sent

-- the ledger after these steps
abbrev pub ledger_after : List ℕ → List Step → Ledger
ledger_after view steps = (state_after view steps).objects.ledger

-- these steps are a run of the abstract protocol, and the world refines the ledger after them
pub record IsRefinement (view : List ℕ) (steps : List Step) (w : Run) : Type 0 where
  pub run : IsRun view steps
  pub refines : Refines (ledger_after view steps) w

-- the world refines some run
pub record HasRun (view : List ℕ) (w : Run) : Type 0 where
  pub steps : List Step
  pub refinement : IsRefinement view steps w

-- the world refines a run that extends these steps
pub record GoesOn (view : List ℕ) (steps : List Step) (w : Run) : Type 0 where
  pub more : List Step
  pub refinement : IsRefinement view (more ++ steps) w

-- ## What follows for the world

-- the peer at this place runs, and its stores keep its fact; peer 1 has place 0
pub record IsRunning (w : Run) (place : ℕ) : Type 0 where
  pub state : State
  pub stores : HeldStores
  pub at : slice_get w.nodes place ≡ Some (Up state stores)
  pub kept : bare stores.facts.kept ≡ Some state.fact

-- the stores of a running peer keep the fact of its state, and those of a peer that is down keep a
-- fact
abbrev pub KeepsFact : Node → Type 0
KeepsFact (Up x stores) = bare stores.facts.kept ≡ Some x.fact
KeepsFact (Down stores) = (fact : Fact) × (bare stores.facts.kept ≡ Some fact)

-- the peer at this place keeps a fact, whether it runs or is down
pub record IsKeeping (w : Run) (place : ℕ) : Type 0 where
  pub node : Node
  pub at : slice_get w.nodes place ≡ Some node
  pub keeps : KeepsFact node

-- the fact that the stores of a peer keep, without its seal
abbrev pub kept_by : Node → Option Fact
kept_by (Up x stores) = bare stores.facts.kept
kept_by (Down stores) = bare stores.facts.kept

-- the stores of the peer at this place keep the fact
pub record HasFact (w : Run) (place : ℕ) (f : Fact) : Type 0 where
  pub node : Node
  pub at : slice_get w.nodes place ≡ Some node
  pub kept : kept_by node ≡ Some f

-- the peer at this place leads
pub record Leads (w : Run) (place : ℕ) (leadership : Leadership) : Type 0 where
  pub state : State
  pub stores : HeldStores
  pub at : slice_get w.nodes place ≡ Some (Up state stores)
  pub leads : state.phase ≡ phases.Leading leadership

-- no peer's ballot decreases from one world to the other
abbrev pub BallotsRise : Run → Run → Type 0
BallotsRise before after = (place : ℕ) (f g : Fact) → HasFact before place f → HasFact after place g → ¬ IsEpochBelow g.ballot f.ballot

-- the facts agree in leader, views and change
pub record Agree (f g : Fact) : Type 0 where
  pub leader : f.leader ≡ g.leader
  pub views : f.views ≡ g.views
  pub change : f.change ≡ g.change

-- facts with the same epoch and sequence number agree
abbrev pub FactsAgree : Run → Type 0
FactsAgree w = (p q : ℕ) (f g : Fact) → HasFact w p f → HasFact w q g → f.epoch ≡ g.epoch → f.seq ≡ g.seq → Agree f g

-- peers that lead the same epoch are the same peer
abbrev pub EpochsHaveOneLeader : Run → Type 0
EpochsHaveOneLeader w = (p q : ℕ) (a b : Leadership) → Leads w p a → Leads w q b → a.leader.fact.epoch ≡ b.leader.fact.epoch → p ≡ q

-- if peers keep facts of two epochs, the greater epoch is based on a fact no older than the one of
-- the lower epoch, or no quorum can accept that fact any more
abbrev pub FactsAreComplete : Ledger → Run → Type 0
FactsAreComplete l w = (p q : ℕ) (f g : Fact) → HasFact w p f → HasFact w q g → 0 < epoch_number g.epoch → epoch_number g.epoch < epoch_number f.epoch
    → IsAtMost (fact_place g) (l.base (epoch_number f.epoch)) ⊎ IsFactClosed l (fact_place g)

-- if a peer leads an epoch, each greater epoch of which a peer keeps a fact is based on it or on a
-- later one
abbrev pub LedEpochsAreKept : Ledger → Run → Type 0
LedEpochsAreKept l w = (p q : ℕ) (a : Leadership) (f : Fact) → Leads w p a → HasFact w q f → epoch_number a.leader.fact.epoch < epoch_number f.epoch
    → epoch_number a.leader.fact.epoch ≤ (l.base (epoch_number f.epoch)).epoch

-- the views of the fact share a view with those of the last lower epoch that some quorum accepted or
-- may still accept
pub record SharesAView (l : Ledger) (f : Fact) : Type 0 where
  pub from : ℕ
  pub is_last : IsLastOpen l (epoch_number f.epoch) from
  pub shares : SharesView f.views (l.views from)

-- so do those of every fact that a peer keeps, but for the opening epoch's
abbrev pub ViewsAreShared : Ledger → Run → Type 0
ViewsAreShared l w = (p : ℕ) (f : Fact) → HasFact w p f → 0 < epoch_number f.epoch → SharesAView l f
