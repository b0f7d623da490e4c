-- What happens to a group of peers that run as processes of their own, moment by moment.
use Rattle.std.specs.Prelude.{ℕ, zero, suc, ◌+◌, List, [], ◌∷◌, ◌++◌, Option, None, Some}
use Rattle.environment.specs.Maps.{Entries}
use Rattle.stored_formats.specs.declared.saved.SavedFact.{SavedFact}
use Rattle.peer_state.specs.declared.event.Event.{Event}
use Rattle.peer_state.specs.declared.event.Event.TheVariants as events
use Rattle.register_model.specs.declared.answer.Answer.{Answer}
use Rattle.register_model.specs.declared.call.Call.{Call}
use Rattle.register_model.specs.declared.printed.Printed.{Printed}
use Rattle.register_model.specs.declared.printed.Printed.TheVariants as printed
use Rattle.schedule_text.specs.declared.form.Form.TheVariants.{Three}
use Rattle.tree_node.specs.declared.version.TreeVersion.TheVariants.{Two}
use Rattle.world_spec.specs.Held.{HeldStores}
use Rattle.world_spec.specs.Nodes.{Node, Down, hashed_by_start, over_stores, started, stopped}
use Rattle.world_spec.specs.Runs.{Run, next_event, opening_mode, opening_run, stepped, changed, with_start}
use Rattle.world_stores.specs.Faults.{no_faults}

-- what a process finds on the disks of its peer when it starts: the fact that is saved there, the nodes of
-- the tree and the digest in their top record, and the objects
pub record Found : Type 0 where
  pub fact : Option SavedFact
  pub nodes : Entries
  pub top : Option (List ℕ)
  pub objects : Entries

-- A process of a peer starts on what it finds, takes a step on an event, or is cut off between two steps. Between
-- two steps its nodes and objects may also become others: some or all are changed, lost, forgotten, or come back.
-- The moment of a step is the one at which it comes to its end.
pub data Moment : Type 0 where
  Starts : (peer : ℕ) (found : Found) → Moment
  Takes : (peer : ℕ) (event : Event) → Moment
  Spoils : (peer : ℕ) (nodes objects : Entries) → Moment
  IsCutOff : (peer : ℕ) → Moment

-- the peer of a moment
abbrev pub peer_of : Moment → ℕ
peer_of (Starts p found) = p
peer_of (Takes p event) = p
peer_of (Spoils p nodes objects) = p
peer_of (IsCutOff p) = p

-- the records that the top record of a tree held, as far as its disk tells them
abbrev pub tops_found : Option (List ℕ) → List (List ℕ)
tops_found None = []
tops_found (Some digest) = digest ∷ []

-- the stores on these disks; the tree is not open yet
abbrev pub stores_found : Found → HeldStores
stores_found f = record {
  backend = record { entries = f.objects; faults = no_faults };
  tree = record { version = Two; store = record { entries = f.nodes; tops = tops_found f.top; faults = no_faults }; top = None };
  facts = record { kept = f.fact; faults = no_faults };
}

-- the peer is down, over what is on these disks
abbrev pub down_on : Found → Node → Node
down_on f node = Down (stores_found f)

-- these stores with other nodes and objects; the saved fact, the top records, and the root and the version of a tree
-- that is open stay
abbrev pub with_contents : Entries → Entries → HeldStores → HeldStores
with_contents nodes objects s = record s { backend = record s.backend { entries = objects }; tree = record s.tree { store = record s.tree.store { entries = nodes } } }

-- the effect of a moment; a message that comes stays in the mail, for it may come again
abbrev pub happened : Moment → Run → Run
happened (Starts p found) w = with_start p (changed p (down_on found) w)
happened (Takes p event) w = stepped p event w
happened (Spoils p nodes objects) w = changed p (over_stores (with_contents nodes objects)) w
happened (IsCutOff p) w = changed p stopped w

-- the world after a moment, which is one event of it
abbrev pub after : Moment → Run → Run
after m w = record (happened m w) { events = next_event w.events }

-- the world after these moments
abbrev pub run_on : List Moment → Run → Run
run_on [] w = w
run_on (m ∷ ms) w = run_on ms (after m w)

-- some peers, from 1 on; the view in which their ensemble opens; what the first process of each peer found;
-- and all that happened to them
pub record Group : Type 0 where
  pub peers : ℕ
  pub view : List ℕ
  pub first : ℕ → Found
  pub moments : List Moment

-- The first process of a peer has started on what it found. As a peer that serves it keeps a seal, and its
-- tree has version two.
abbrev pub born_on : List ℕ → Found → Node
born_on view found = started (opening_mode Three) view (Down (stores_found found))

-- so many peers from this one on have started, each on what its first process found
abbrev pub born : (ℕ → Found) → List ℕ → (peer many : ℕ) → List Node
born first view p zero = []
born first view p (suc n) = born_on view (first p) ∷ born first view (suc p) n

-- the strings that these starts hashed
abbrev pub hashed_by_births : (ℕ → Found) → List ℕ → (peer many : ℕ) → List (List ℕ)
hashed_by_births first view p zero = []
hashed_by_births first view p (suc n) = hashed_by_start (opening_mode Three) view (Down (stores_found (first p))) ++ hashed_by_births first view (suc p) n

-- before the first moment each peer has started for the first time
abbrev pub opening_of : Group → Run
opening_of g = record (opening_run Three g.peers g.view) { nodes = born g.first g.view 1 g.peers; hashed = hashed_by_births g.first g.view 1 g.peers }

-- the world after all that happened
abbrev pub run_of : Group → Run
run_of g = run_on g.moments (opening_of g)

-- ## Calls and answers

-- the call on which a step is taken, if it is taken on one, in front of the rest
abbrev pub call_on : Event → ℕ → List Call → List Call
call_on (events.Call c) number rest = record { id = c.id; key = c.key; command = c.command; event = number } ∷ rest
call_on event number rest = rest

abbrev pub call_in : Moment → ℕ → List Call → List Call
call_in (Takes p event) number rest = call_on event number rest
call_in m number rest = rest

-- the calls that came, each at the number of its moment; the first moment has this number
abbrev pub calls_from : ℕ → List Moment → List Call
calls_from number [] = []
calls_from number (m ∷ ms) = call_in m number (calls_from (number + 1) ms)

abbrev pub calls_of : Group → List Call
calls_of g = calls_from 1 g.moments

-- the answers among what was printed
abbrev pub answers_in : List Printed → List Answer
answers_in [] = []
answers_in (printed.Answer a ∷ more) = a ∷ answers_in more
answers_in (printed.Change event peer taken ∷ more) = answers_in more

-- the answers that the peers gave, each at the number of the moment of its step
abbrev pub answers_of : Group → List Answer
answers_of g = answers_in (run_of g).printed
