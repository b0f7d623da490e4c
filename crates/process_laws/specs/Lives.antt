-- The lives of the processes of a peer, one after another on the same disks.
use Rattle.std.specs.Prelude.{◌≡◌, ◌⊎◌, ℕ, List, [], ◌∷◌, Option, None, Some, Result}
use Rattle.ens_base.specs.Limits.{IsBytes}
use Rattle.ens_base.specs.Lists.{◌∈◌}
use Rattle.ens_base.specs.View.{IsView}
use Rattle.ens_base.specs.declared.peer_words.PeerWords.{PeerWords}
use Rattle.environment.specs.Maps.{Entries}
use Rattle.stored_formats.specs.declared.fact_error.FactError.{FactError}
use Rattle.stored_formats.specs.declared.saved.SavedFact.{SavedFact}
use Rattle.process_laws.specs.Moments.{stores_found}
use Rattle.peer_spec.specs.Drives.{step_of}
use Rattle.peer_spec.specs.Starts.{start_of}
use Rattle.peer_server.specs.Starting.{served_mode}
use Rattle.peer_state.specs.declared.event.Event.{Event}
use Rattle.peer_state.specs.declared.event.Event.TheVariants.{Change, Tick}
use Rattle.peer_state.specs.declared.state.State.{State}
use Rattle.step_plans.specs.Calls.{Call, AnswerOf}
use Rattle.step_plans.specs.Plans.{Finished, Runs, nothing}
use Rattle.step_plans.specs.declared.error.PeerError.{PeerError}
use Rattle.peer_turns.specs.Deeds.{events_in}
use Rattle.peer_turns.specs.Turns.{event_of}
use Rattle.world_spec.specs.Held.{HeldStores}
use Rattle.world_stores.specs.Facts.{kept_of}
use Rattle.process_laws.specs.Acts.{Life, Spoil, Stage, Step, deeds_in}

-- a step of the peer is taken on a tick, on the bytes of a frame, or on a request for another view of the ensemble
abbrev pub IsOccasion : ℕ → Event → Type 0
IsOccasion p event = (event ≡ Tick) ⊎ (((w : PeerWords) × (bytes : List ℕ) × (w.me ≡ p) × IsBytes bytes × (event_of w (Some bytes) ≡ Some event)) ⊎ ((view : List ℕ) × IsView view × (event ≡ Change view)))

-- a fact that was read, as stores tell it: none, or one, or bytes that are no fact
abbrev pub FactRead : Type 0
FactRead = Option (Result SavedFact FactError)

-- `P` is the state of the stores of a peer with its hasher; `spoils` says how they become stores that hold these
-- nodes and objects, `holds` that they hold what these stores in memory hold, and `fact_on` which fact they keep
module _ {P : Type 0} (does : P → (call : Call) → AnswerOf call → P → Type 0) (refuses : P → Call → PeerError → P → Type 0) (spoils : P → Entries → Entries → P → Type 0)
    (holds : P → HeldStores → Type 0) (fact_on : P → FactRead) (view : List ℕ) (p : ℕ) where
  -- from this state and these stores the process went through these stages, to that state and those stores
  abbrev pub Leads : State → P → List Stage → State → P → Type 0
  Leads x s [] y t = (y ≡ x) × (t ≡ s)
  Leads x s (Step d ∷ stages) y t = (z : State) × (m : P) × Runs does refuses (step_of p d.event x) s [] (Finished z d.out) m d.notes × Leads z m stages y t
  Leads x s (Spoil nodes objects ∷ stages) y t = (m : P) × spoils s nodes objects m × Leads x m stages y t

  -- A process lived so: it opened stores with what it found, started on them, as a peer that serves, in an
  -- ensemble that opens in the view, and went through these stages.
  pub record HasLived (life : Life) : Type 0 where
    pub opened : P
    pub finds : holds opened (stores_found life.found)
    pub first : State
    pub started : P
    pub starts : Runs does refuses (start_of served_mode view) opened [] (Finished first nothing) started []
    pub last : State
    pub left : P
    pub leads : Leads first started life.stages last left
    pub events : (event : Event) → event ∈ events_in (deeds_in life.stages) → IsOccasion p event

  -- Each life begins with the fact that the life before it left; the first of these begins with this fact.
  -- Of nodes and objects nothing is assumed.
  abbrev pub AreLater : FactRead → List Life → Type 0
  AreLater fact [] = Unit {0}
  AreLater fact (l ∷ ls) = (kept_of l.found.fact ≡ fact) × (lived : HasLived l) × AreLater (fact_on lived.left) ls

  -- The first life begins without a fact. A process that was cut off before it saved one may have come before,
  -- and left any nodes and objects: it sent nothing, and is none of the lives.
  abbrev pub AreLives : List Life → Type 0
  AreLives [] = Unit {0}
  AreLives (l ∷ ls) = (l.found.fact ≡ None) × (lived : HasLived l) × AreLater (fact_on lived.left) ls
