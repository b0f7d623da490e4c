-- Which peers start with sealing on, in the run of a schedule.
use Rattle.std.proofs.Common.{◌≡◌, ◌≤◌, ◌<◌, ◌-◌, ◌||◌, ◌∙◌, arith, refl, ap, ℕ, zero, suc, Bool, true, false, List, [], ◌∷◌, length, Option, None, Some}
use Rattle.std.specs.Prelude.{◌==◌, nat_lt, if◌then◌else◌, slice_get}
use Rattle.std.specs.List.{list_any}
use Rattle.std.proofs.lemmas.Bool.{eqb-true, eqb-false}
use Rattle.std.proofs.lemmas.List.{length-set, get_or-set_same, get_or-set_other}
use Rattle.ens_base.specs.PeerSet.{holds}
use Rattle.ens_base.specs.View.{IsPeer}
use Rattle.network.specs.Mail.{settled, goes, is_among, oldest, most_messages}
use Rattle.world_spec.proofs.PeerSpec.{those_at}
use Rattle.peer_state.specs.declared.event.Event.{Event}
use Rattle.peer_state.specs.declared.event.Event.TheVariants as events
use Rattle.phase_rows.specs.Peers.{joined}
use Rattle.schedule_text.specs.Forms.{is_sealed}
use Rattle.schedule_text.specs.Spelling.{MayStand, AllMayStand}
use Rattle.schedule_text.specs.Starts.{upgrades, has_sealing}
use Rattle.schedule_text.specs.declared.event.ScheduleEvent.{ScheduleEvent}
use Rattle.schedule_text.specs.declared.event.ScheduleEvent.TheVariants.{Call, Tick, Deliver, Pass, Lose, Calm, CalmAmong, Change, Stop, Start, Upgrade, Deepen, Spoil, Damage, Inner, Revert, Fail}
use Rattle.schedule_text.specs.declared.form.Form.{Form}
use Rattle.phase_rows.specs.WireFrames.{Frame}
use Rattle.world_spec.specs.Lines.{call_of, everyone, set_of, applied, run_from, run_of_schedule}
use Rattle.world_spec.specs.Nodes.{Node, started, stopped, over_stores, while_down}
use Rattle.world_spec.specs.Runs.{Run, opening_run, sealing_first, mode_at, place_of, stepped_at, stepped, changed_at, changed, may_deepen, deepened, with_deepening, ticked, received, without_waiting, received_if, delivered, delivered_if, going_on, calmed}
use Rattle.world_spec.specs.Stores.{failing, leaves_of, spoiled, segment_spoiled, inner_spoiled, taken_back}

-- ## Lines

-- the set after a line
abbrev pub sealing_by : ScheduleEvent → List Bool → List Bool
sealing_by (Upgrade peer) set = joined peer set
sealing_by other set = set

-- the set after these lines
abbrev pub sealing_after : List ScheduleEvent → List Bool → List Bool
sealing_after [] set = set
sealing_after (event ∷ more) set = sealing_after more (sealing_by event set)

changed_at_sealing : (node : Option Node) (peer : ℕ) (change : Node → Node) (w : Run) → (changed_at node peer change w).sealing ≡ w.sealing
changed_at_sealing None peer change w = refl
changed_at_sealing (Some node) peer change w = refl

pub changed_sealing : (peer : ℕ) (change : Node → Node) (w : Run) → (changed peer change w).sealing ≡ w.sealing
changed_sealing peer change w = changed_at_sealing (slice_get w.nodes (place_of peer)) peer change w

stepped_at_sealing : (node : Option Node) (peer : ℕ) (event : Event) (w : Run) → (stepped_at node peer event w).sealing ≡ w.sealing
stepped_at_sealing None peer event w = refl
stepped_at_sealing (Some node) peer event w = refl

pub stepped_sealing : (peer : ℕ) (event : Event) (w : Run) → (stepped peer event w).sealing ≡ w.sealing
stepped_sealing peer event w = stepped_at_sealing (slice_get w.nodes (place_of peer)) peer event w

pub ticked_sealing : (peer n : ℕ) (w : Run) → (ticked peer n w).sealing ≡ w.sealing
unfolding ticked
ticked_sealing peer zero w = refl
ticked_sealing peer (suc n) w = ticked_sealing peer n (stepped peer events.Tick w) ∙ stepped_sealing peer events.Tick w

received_sealing : (f : Option Frame) (n : ℕ) (w : Run) → (received_if f n w).sealing ≡ w.sealing
received_sealing None n w = refl
received_sealing (Some f) n w = by (nat_lt n w.first_alive)
  where
    by : (lost : Bool) → (if lost then without_waiting n w else received f n w).sealing ≡ w.sealing
    by true = refl
    by false = stepped_sealing f.to (events.Deliver f.from f.message) (record w { mail = settled w.mail n })

pub delivered_sealing : (n : ℕ) (w : Run) → (delivered n w).sealing ≡ w.sealing
delivered_sealing n w = received_sealing (slice_get w.mail.sent n) n w

passed_sealing : (n : Option ℕ) (w : Run) → (delivered_if n w).sealing ≡ w.sealing
passed_sealing None w = refl
passed_sealing (Some n) w = delivered_sealing n w

pub calmed_sealing : (peers : List Bool) (n : ℕ) (w : Run) → (calmed peers n w).sealing ≡ w.sealing
unfolding calmed
calmed_sealing peers zero w = refl
calmed_sealing peers (suc n) w = going (oldest (is_among peers) w.mail) (λ v. calmed_sealing peers n v) where
  going : (k : Option ℕ) → ((v : Run) → (calmed peers n v).sealing ≡ v.sealing) → (going_on k (λ v. calmed peers n v) w).sealing ≡ w.sealing
  going None later = refl
  going (Some k) later = later (delivered k w) ∙ delivered_sealing k w

deepening_sealing : (w : Run) → (with_deepening w).sealing ≡ w.sealing
deepening_sealing w = by (may_deepen w)
  where
    by : (may : Bool) → (if may then deepened w else w).sealing ≡ w.sealing
    by true = refl
    by false = refl

-- a line adds the peer that it upgrades, and no other
pub applied_sealing : (event : ScheduleEvent) (w : Run) → (applied event w).sealing ≡ sealing_by event w.sealing
applied_sealing (Call peer id key command) w = stepped_sealing peer (events.Call (call_of id key command)) w
applied_sealing (Tick peer ticks) w = ticked_sealing peer ticks w
applied_sealing (Deliver message) w = delivered_sealing (message - 1) w
applied_sealing (Pass sender receiver) w = passed_sealing (oldest (goes sender receiver) w.mail) w
applied_sealing (Lose sender receiver) w = refl
applied_sealing Calm w = calmed_sealing everyone most_messages w
applied_sealing (CalmAmong members) w = calmed_sealing (set_of members) most_messages w
applied_sealing (Change peer view) w = stepped_sealing peer (events.Change view) w
applied_sealing (Stop peer) w = changed_sealing peer stopped w
applied_sealing (Start peer) w = changed_sealing peer (started (mode_at peer w) w.view) w
applied_sealing (Upgrade peer) w = refl
applied_sealing Deepen w = deepening_sealing w
applied_sealing (Spoil peer key bytes) w = changed_sealing peer (over_stores (spoiled key bytes)) w
applied_sealing (Damage peer key bytes) w = changed_sealing peer (over_stores (segment_spoiled key bytes)) w
applied_sealing (Inner peer level index bytes) w = changed_sealing peer (over_stores (inner_spoiled level index bytes)) w
applied_sealing (Revert peer changes) w = changed_sealing peer (while_down (taken_back changes)) w
applied_sealing (Fail peer store survivor) w = changed_sealing peer (over_stores (failing store (leaves_of survivor))) w

pub run_sealing : (events : List ScheduleEvent) (w : Run) → (run_from events w).sealing ≡ sealing_after events w.sealing
run_sealing [] w = refl
run_sealing (event ∷ more) w = run_sealing more (applied event w) ∙ ap (sealing_after more) (applied_sealing event w)

-- ## Sets

joined_at : (set : List Bool) (peer p : ℕ) → peer < length set → holds (joined peer set) p ≡ (p == peer || holds set p)
joined_at set peer p below = by (p == peer) refl
  where
    by : (b : Bool) → (p == peer) ≡ b → holds (joined peer set) p ≡ (b || holds set p)
    by true e = ap (λ q. holds (joined peer set) q) (eqb-true p peer e) ∙ get_or-set_same set peer true false below
    by false e = get_or-set_other set peer p true false (eqb-false p peer e)

-- the set has a flag for each number from 0 to 31, after a line too
sealing_size : (event : ScheduleEvent) (set : List Bool) → length set ≡ 32 → length (sealing_by event set) ≡ 32
sealing_size (Upgrade peer) set size = length-set set peer true ∙ size
sealing_size other set size = size

sealing_line : (peers : ℕ) (event : ScheduleEvent) (set : List Bool) (p : ℕ) → peers ≤ 31 → MayStand peers event → length set ≡ 32 → holds (sealing_by event set) p ≡ (upgrades p event || holds set p)
sealing_line peers (Upgrade peer) set p few stand size = joined_at set peer p (omega (arith, few, stand.last, size))
sealing_line peers other set p few stand size = refl

in_turn : (a b c : Bool) → ((a || b) || c) ≡ (b || (a || c))
in_turn true true c = refl
in_turn true false c = refl
in_turn false true c = refl
in_turn false false c = refl

sealing_lines : (peers : ℕ) (events : List ScheduleEvent) (set : List Bool) (p : ℕ) → peers ≤ 31 → AllMayStand peers events → length set ≡ 32 → holds (sealing_after events set) p ≡ (holds set p || list_any (upgrades p) events)
sealing_lines peers [] set p few may size = by (holds set p)
  where
    by : (b : Bool) → b ≡ (b || false)
    by true = refl
    by false = refl
sealing_lines peers (event ∷ more) set p few may size =
    sealing_lines peers more (sealing_by event set) p few may.1 (sealing_size event set size)
    ∙ ap (λ b. b || list_any (upgrades p) more) (sealing_line peers event set p few may.0 size)
    ∙ in_turn (upgrades p event) (holds set p) (list_any (upgrades p) more)

-- ## Schedules

-- a peer starts with sealing on exactly where the form or a line before it says so
pub sealing_is : (form : Form) (peers : ℕ) (view : List ℕ) (events : List ScheduleEvent) (p : ℕ) → peers ≤ 31 → IsPeer p → AllMayStand peers events
    → (mode_at p (run_of_schedule form peers view events)).sealing ≡ has_sealing form events p
sealing_is form peers view events p few peer may =
    ap (λ (set : List Bool). holds set p) (run_sealing events (opening_run form peers view))
    ∙ sealing_lines peers events (sealing_first form) p few may refl
    ∙ ap (λ b. b || list_any (upgrades p) events) (those_at (λ q. is_sealed form) p peer)
