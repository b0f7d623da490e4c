-- A peer of a world over its stores in memory: its steps, and how it stops and starts.
use Rattle.std.specs.Prelude.{ℕ, Bool, true, false, ◌&&◌, List, [], ◌∷◌}
use Rattle.world_spec.specs.Held.{Held, HeldStores, empty_stores}
use Rattle.world_spec.specs.HeldLaws.{held_with}
use Rattle.world_spec.specs.HeldRuns.{Ended, run}
use Rattle.world_spec.specs.PeerSpec.{step_of, start_of}
use Rattle.peer_state.specs.declared.event.Event.{Event}
use Rattle.peer_state.specs.declared.state.Mode.{Mode}
use Rattle.peer_state.specs.declared.state.State.{State}
use Rattle.step_plans.specs.Plans.{Plan, Out, nothing, Ending, Finished, Stopped}
use Rattle.register_model.specs.declared.note.Note.{Note}

-- a running peer, with its state and stores, or the stores of a peer that is down
pub data Node : Type 0 where
  Up : (state : State) (stores : HeldStores) → Node
  Down : (stores : HeldStores) → Node

-- whether the peer is down
abbrev pub is_down : Node → Bool
is_down (Up x s) = false
is_down (Down s) = true

-- whether all peers are down
abbrev pub all_down : List Node → Bool
all_down [] = true
all_down (node ∷ nodes) = is_down node && all_down nodes

-- the outcome of a step: the peer after it, its output, its notes, and the strings that it hashed, in
-- order
pub record Taken : Type 0 where
  pub node : Node
  pub out : Out
  pub notes : List Note
  pub hashed : List (List ℕ)

-- the outcome of a step, from the ending of its plan; a peer whose plan stopped is down
abbrev pub taken_by : Ending State → Held → List Note → Taken
taken_by (Finished x out) h ns = record { node = Up x h.stores; out = out; notes = ns; hashed = h.hashed }
taken_by (Stopped error) h ns = record { node = Down h.stores; out = nothing; notes = ns; hashed = h.hashed }

-- the outcome of a step, from the run of its plan
abbrev pub taken_of : Ended State → Taken
taken_of e = taken_by e.ending e.held e.notes

-- the run of a plan over these stores
abbrev pub run_over : Plan State → HeldStores → Ended State
run_over p s = run p (held_with s []) []

-- the outcome of a step of peer `me` on an event; a peer that is down takes no step
abbrev pub taken : ℕ → Event → Node → Taken
taken me event (Up x s) = taken_of (run_over (step_of me event x) s)
taken me event (Down s) = record { node = Down s; out = nothing; notes = []; hashed = [] }

-- a peer that is down starts in this mode over what it keeps, in an ensemble that opens in this view;
-- if the start is refused it stays down, and a running peer goes on
abbrev pub started : Mode → List ℕ → Node → Node
started mode view (Up x s) = Up x s
started mode view (Down s) = (taken_of (run_over (start_of mode view) s)).node

-- the strings that this start hashes, in order
abbrev pub hashed_by_start : Mode → List ℕ → Node → List (List ℕ)
hashed_by_start mode view (Up x s) = []
hashed_by_start mode view (Down s) = (taken_of (run_over (start_of mode view) s)).hashed

-- the peer is down, and keeps its stores
abbrev pub stopped : Node → Node
stopped (Up x s) = Down s
stopped (Down s) = Down s

-- the stores of a peer change, whether it runs or not
abbrev pub over_stores : (HeldStores → HeldStores) → Node → Node
over_stores f (Up x s) = Up x (f s)
over_stores f (Down s) = Down (f s)

-- the stores change if the peer is down
abbrev pub while_down : (HeldStores → HeldStores) → Node → Node
while_down f (Up x s) = Up x s
while_down f (Down s) = Down (f s)

-- a peer started in this mode on empty stores, in an ensemble that opens in this view
abbrev pub opening_node : Mode → List ℕ → Node
opening_node mode view = started mode view (Down empty_stores)

-- the strings that this start hashed
abbrev pub opening_strings : Mode → List ℕ → List (List ℕ)
opening_strings mode view = hashed_by_start mode view (Down empty_stores)
