-- A world keeps the number of peers with which it opened, and each of them keeps a fact.
use Rattle.std.proofs.Common.{◌≡◌, ℕ, zero, suc, ◌<◌, ◌-◌, Bool, true, false, nat_lt, if◌then◌else◌, List, [], ◌∷◌, length, Option, Some, None, slice_get, refl, ◌∙◌, get_or}
use Rattle.std.proofs.lemmas.List.{length-set, length-replicate}
use Rattle.std.proofs.lemmas.Option.{slice_get-get_or}
use Rattle.protocol_laws.specs.Ledger.{Ledger}
use Rattle.world_spec.specs.Held.{empty_stores}
use Rattle.network.specs.Mail.{goes, oldest, is_among, most_messages}
use Rattle.peer_state.specs.declared.event.Event.{Event}
use Rattle.peer_state.specs.declared.event.Event.TheVariants as events
use Rattle.schedule_text.specs.declared.event.ScheduleEvent.{ScheduleEvent}
use Rattle.schedule_text.specs.declared.event.ScheduleEvent.TheVariants.{Call, Tick, Deliver, Pass, Lose, Calm, CalmAmong, Change, Stop, Start, Upgrade, Deepen, Spoil, Damage, Inner, Revert, Fail}
use Rattle.schedule_text.specs.declared.form.Form.{Form}
use Rattle.wire_frames.specs.declared.frame.Frame.{Frame}
use Rattle.world_spec.specs.Lines.{call_of, set_of, everyone, effect, applied, run_from, run_of_schedule}
use Rattle.world_spec.specs.Nodes.{Node, Up, Down, taken, started, stopped, over_stores, while_down, opening_node}
use Rattle.world_spec.specs.Stores.{failing, leaves_of, spoiled, segment_spoiled, inner_spoiled, taken_back}
use Rattle.world_spec.specs.Runs.{Run, opening_mode, opening_run, mode_at, place_of, stepped, stepped_at, changed, changed_at, may_deepen, deepened, with_deepening, ticked, received, without_waiting, received_if, delivered, delivered_if, going_on, calmed}
use Rattle.election_refinement.proofs.Worlds.{IsSpared}
use Rattle.election_refinement.specs.Refinement.{NodeHolds}
use Rattle.election_refinement.specs.Worlds.{Refines, KeepsFact, IsKeeping, IsRunning}

-- the number of peers
abbrev pub size : Run → ℕ
size w = length w.nodes

stepped_size : (p : ℕ) (event : Event) (w : Run) → size (stepped p event w) ≡ size w
stepped_size p event w = by_node (slice_get w.nodes (place_of p))
  where
    by_node : (o : Option Node) → size (stepped_at o p event w) ≡ size w
    by_node None = refl
    by_node (Some node) = length-set w.nodes (place_of p) (taken p event node).node

changed_size : (p : ℕ) (change : Node → Node) (w : Run) → size (changed p change w) ≡ size w
changed_size p change w = by_node (slice_get w.nodes (place_of p))
  where
    by_node : (o : Option Node) → size (changed_at o p change w) ≡ size w
    by_node None = refl
    by_node (Some node) = length-set w.nodes (place_of p) (change node)

ticked_size : (p n : ℕ) (w : Run) → size (ticked p n w) ≡ size w
unfolding ticked
ticked_size p zero w = refl
ticked_size p (suc n) w = ticked_size p n (stepped p events.Tick w) ∙ stepped_size p events.Tick w

delivered_size : (n : ℕ) (w : Run) → size (delivered n w) ≡ size w
delivered_size n w = by_frame (slice_get w.mail.sent n)
  where
    by_frame : (o : Option Frame) → size (received_if o n w) ≡ size w
    by_frame None = refl
    by_frame (Some f) = by_life (nat_lt n w.first_alive)
      where
        by_life : (lost : Bool) → size (if lost then without_waiting n w else received f n w) ≡ size w
        by_life true = refl
        by_life false = stepped_size f.to (events.Deliver f.from f.message) (without_waiting n w)

delivered_if_size : (o : Option ℕ) (w : Run) → size (delivered_if o w) ≡ size w
delivered_if_size None w = refl
delivered_if_size (Some n) w = delivered_size n w

calmed_size : (peers : List Bool) (n : ℕ) (w : Run) → size (calmed peers n w) ≡ size w
unfolding calmed
calmed_size peers zero w = refl
calmed_size peers (suc n) w = by_oldest (oldest (is_among peers) w.mail) (λ v. calmed_size peers n v)
  where
    by_oldest : (o : Option ℕ) → ((v : Run) → size (calmed peers n v) ≡ size v) → size (going_on o (λ v. calmed peers n v) w) ≡ size w
    by_oldest None rest = refl
    by_oldest (Some m) rest = rest (delivered m w) ∙ delivered_size m w

deepening_size : (w : Run) → size (with_deepening w) ≡ size w
deepening_size w = by (may_deepen w)
  where
    by : (b : Bool) → size (if b then deepened w else w) ≡ size w
    by true = refl
    by false = refl

effect_size : (event : ScheduleEvent) (w : Run) → size (effect event w) ≡ size w
effect_size (Call peer id key command) w = stepped_size peer (events.Call (call_of id key command)) w
effect_size (Tick peer ticks) w = ticked_size peer ticks w
effect_size (Deliver message) w = delivered_size (message - 1) w
effect_size (Pass sender receiver) w = delivered_if_size (oldest (goes sender receiver) w.mail) w
effect_size (Lose sender receiver) w = refl
effect_size Calm w = calmed_size everyone most_messages w
effect_size (CalmAmong members) w = calmed_size (set_of members) most_messages w
effect_size (Change peer view) w = stepped_size peer (events.Change view) w
effect_size (Stop peer) w = changed_size peer stopped w
effect_size (Start peer) w = changed_size peer (started (mode_at peer w) w.view) w
effect_size (Upgrade peer) w = refl
effect_size Deepen w = deepening_size w
effect_size (Spoil peer key bytes) w = changed_size peer (over_stores (spoiled key bytes)) w
effect_size (Damage peer key bytes) w = changed_size peer (over_stores (segment_spoiled key bytes)) w
effect_size (Inner peer level index bytes) w = changed_size peer (over_stores (inner_spoiled level index bytes)) w
effect_size (Revert peer changes) w = changed_size peer (while_down (taken_back changes)) w
effect_size (Fail peer store survivor) w = changed_size peer (over_stores (failing store (leaves_of survivor))) w

run_from_size : (events : List ScheduleEvent) (w : Run) → size (run_from events w) ≡ size w
run_from_size [] w = refl
run_from_size (event ∷ more) w = run_from_size more (applied event w) ∙ effect_size event w

pub schedule_size : (form : Form) (peers : ℕ) (view : List ℕ) (events : List ScheduleEvent) → size (run_of_schedule form peers view events) ≡ peers
schedule_size form peers view events = run_from_size events (opening_run form peers view) ∙ length-replicate peers (opening_node (opening_mode form) view)

module _ (view : List ℕ) (l : Ledger) (w : Run) (refines : Refines l w) where
  -- the node at a place
  at_place : (place : ℕ) → place < size w → slice_get w.nodes place ≡ Some (get_or w.nodes place (Down empty_stores))
  at_place place below = slice_get-get_or w.nodes place (Down empty_stores) below

  keeps_fact : (place : ℕ) (node : Node) → NodeHolds l (suc place) node → KeepsFact node
  keeps_fact place (Up x st) holds = holds.kept
  keeps_fact place (Down st) holds = (holds.fact, holds.kept)

  pub is_keeping : (place : ℕ) → place < size w → IsKeeping w place
  is_keeping place below = record {
    node = get_or w.nodes place (Down empty_stores);
    at = at_place place below;
    keeps = keeps_fact place (get_or w.nodes place (Down empty_stores)) (refines.nodes place (get_or w.nodes place (Down empty_stores)) (at_place place below));
  }

  running : (place : ℕ) (node : Node) → slice_get w.nodes place ≡ Some node → NodeHolds l (suc place) node → IsSpared node → IsRunning w place
  running place (Up x st) at holds up = record { state = x; stores = st; at = at; kept = holds.kept }
  running place (Down st) at holds down = absurd down

  pub is_running : (place : ℕ) → place < size w → ((node : Node) → slice_get w.nodes place ≡ Some node → IsSpared node) → IsRunning w place
  is_running place below up =
      let node = get_or w.nodes place (Down empty_stores) in
      running place node (at_place place below) (refines.nodes place node (at_place place below)) (up node (at_place place below))
