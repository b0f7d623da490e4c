-- The effect of each line of a schedule, and the run of a schedule.
use Rattle.std.specs.Prelude.{ℕ, ◌-◌, Bool, true, Option, List, [], ◌∷◌, ◌++◌}
use Rattle.ens_base.specs.Lists.{is_in}
use Rattle.ens_base.specs.declared.command.Command.{Command}
use Rattle.network.specs.Mail.{lost, goes, oldest, most_messages}
use Rattle.peer_state.specs.declared.event.CallIn.{CallIn}
use Rattle.peer_state.specs.declared.event.Event.TheVariants as events
use Rattle.phase_rows.specs.Peers.{those}
use Rattle.schedule_text.specs.declared.event.ScheduleEvent.{ScheduleEvent}
use Rattle.schedule_text.specs.declared.event.ScheduleEvent.TheVariants.{Call, Tick, Deliver, Pass, Lose, Calm, CalmAmong, Change, Stop, Start, Upgrade, Deepen, Spoil, Damage, Inner, Revert, Fail}
use Rattle.schedule_text.specs.declared.form.Form.{Form}
use Rattle.world_spec.specs.Nodes.{stopped, over_stores, while_down}
use Rattle.world_spec.specs.Runs.{Run, hashing, next_event, opening_run, stepped, changed, with_start, upgraded, with_deepening, ticked, delivered, delivered_if, calmed}
use Rattle.world_spec.specs.Stores.{failing, leaves_of, spoiled, segment_spoiled, inner_spoiled, taken_back}

-- the set of these peers
abbrev pub set_of : List ℕ → List Bool
set_of peers = those (is_in peers)

-- the set of all peers
abbrev pub everyone : List Bool
everyone = those (λ p. true)

-- all messages waiting from the sender to the receiver are lost
abbrev pub with_loss : ℕ → ℕ → Run → Run
with_loss sender receiver w = record w { mail = lost sender receiver w.mail }

-- every call of a schedule comes from this client; its answer is known by the id of the call
abbrev pub client : ℕ
client = 32

-- the call of a line
abbrev pub call_of : ℕ → List ℕ → Command → CallIn
call_of id key command = record { from = client; id = id; key = key; command = command }

-- the effect of a line on the stores of a peer, if it hashes no string; a line that leaves all stores
-- alone has none
abbrev pub stores_effect : ScheduleEvent → Run → Run
stores_effect (Spoil peer key bytes) w = changed peer (over_stores (spoiled key bytes)) w
stores_effect (Inner peer level index bytes) w = changed peer (over_stores (inner_spoiled level index bytes)) w
stores_effect (Revert peer changes) w = changed peer (while_down (taken_back changes)) w
stores_effect (Fail peer store survivor) w = changed peer (over_stores (failing store (leaves_of survivor))) w
stores_effect other w = w

-- the segment of a key is damaged in the tree of a peer; the key is hashed to find it, also where
-- nothing is then damaged
abbrev pub with_damage : ℕ → List ℕ → Option (List ℕ) → Run → Run
with_damage peer key bytes w = hashing (key ∷ []) (changed peer (over_stores (segment_spoiled key bytes)) w)

-- The effect of a line on the peers and the messages. A calm delivers at most as many messages as
-- are ever sent.
abbrev pub effect : ScheduleEvent → Run → Run
effect (Call peer id key command) w = stepped peer (events.Call (call_of id key command)) w
effect (Tick peer ticks) w = ticked peer ticks w
effect (Deliver message) w = delivered (message - 1) w
effect (Pass sender receiver) w = delivered_if (oldest (goes sender receiver) w.mail) w
effect (Lose sender receiver) w = with_loss sender receiver w
effect Calm w = calmed everyone most_messages w
effect (CalmAmong members) w = calmed (set_of members) most_messages w
effect (Change peer view) w = stepped peer (events.Change view) w
effect (Stop peer) w = changed peer stopped w
effect (Start peer) w = with_start peer w
effect (Upgrade peer) w = upgraded peer w
effect Deepen w = with_deepening w
effect (Damage peer key bytes) w = with_damage peer key bytes w
effect other w = stores_effect other w

-- the key that a call line names
abbrev pub keys_in : ScheduleEvent → List (List ℕ)
keys_in (Call peer id key command) = key ∷ []
keys_in other = []

-- one more event is counted, and the key of a call line is recorded
abbrev pub counted : ScheduleEvent → Run → Run
counted event w = record w { events = next_event w.events; called = w.called ++ keys_in event }

-- the world after a line
abbrev pub applied : ScheduleEvent → Run → Run
applied event w = counted event (effect event w)

-- the world after these lines
abbrev pub run_from : List ScheduleEvent → Run → Run
run_from [] w = w
run_from (event ∷ more) w = run_from more (applied event w)

-- the run of a schedule: the form of the ensemble, the number of peers, the view in which their
-- ensemble opens, and the events
abbrev pub run_of_schedule : Form → ℕ → List ℕ → List ScheduleEvent → Run
run_of_schedule form peers view events = run_from events (opening_run form peers view)
