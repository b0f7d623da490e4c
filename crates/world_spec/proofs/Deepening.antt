-- Which lines change the version of the trees of the peers that start, and the first message that is given.
use Rattle.std.proofs.Common.{◌≡◌, ◌-◌, ◌||◌, ◌&&◌, ◌∙◌, refl, ap, sym, ℕ, zero, suc, Bool, true, false, not, List, [], ◌∷◌, Option, None, Some}
use Rattle.std.specs.Prelude.{nat_lt, if◌then◌else◌, slice_get}
use Rattle.network.specs.Mail.{settled, goes, is_among, oldest, most_messages}
use Rattle.peer_state.specs.declared.event.Event.{Event}
use Rattle.peer_state.specs.declared.event.Event.TheVariants as events
use Rattle.schedule_text.specs.Forms.{is_deep}
use Rattle.schedule_text.specs.declared.event.ScheduleEvent.{ScheduleEvent}
use Rattle.schedule_text.specs.declared.event.ScheduleEvent.TheVariants.{Call, Tick, Deliver, Pass, Lose, Calm, CalmAmong, Change, Stop, Start, Upgrade, Deepen, Spoil, Damage, Inner, Revert, Fail}
use Rattle.schedule_text.specs.declared.form.Form.{Form}
use Rattle.tree_node.specs.declared.version.TreeVersion.{TreeVersion}
use Rattle.tree_node.specs.declared.version.TreeVersion.TheVariants.{One, Two}
use Rattle.phase_rows.specs.WireFrames.{Frame}
use Rattle.world_spec.specs.Deepening.{deepens, has_deepened, tree_by_lines}
use Rattle.world_spec.specs.Lines.{call_of, everyone, set_of, applied, run_from, run_of_schedule}
use Rattle.world_spec.specs.Nodes.{Node, all_down, started, stopped, over_stores, while_down}
use Rattle.world_spec.specs.Runs.{Run, opening_run, mode_at, place_of, stepped_at, stepped, changed_at, changed, deepened, ticked, received, without_waiting, received_if, delivered, delivered_if, going_on, calmed}
use Rattle.world_spec.specs.Stores.{failing, leaves_of, spoiled, segment_spoiled, inner_spoiled, taken_back}

-- ## What no line but a `deepen` changes

-- the form, the version of trees, and the number of the first message that is still given to its receiver
abbrev pub settings : Run → Form × TreeVersion × ℕ
settings w = (w.form, w.tree, w.first_alive)

changed_at_settings : (node : Option Node) (peer : ℕ) (change : Node → Node) (w : Run) → settings (changed_at node peer change w) ≡ settings w
changed_at_settings None peer change w = refl
changed_at_settings (Some node) peer change w = refl

pub changed_settings : (peer : ℕ) (change : Node → Node) (w : Run) → settings (changed peer change w) ≡ settings w
changed_settings peer change w = changed_at_settings (slice_get w.nodes (place_of peer)) peer change w

stepped_at_settings : (node : Option Node) (peer : ℕ) (event : Event) (w : Run) → settings (stepped_at node peer event w) ≡ settings w
stepped_at_settings None peer event w = refl
stepped_at_settings (Some node) peer event w = refl

pub stepped_settings : (peer : ℕ) (event : Event) (w : Run) → settings (stepped peer event w) ≡ settings w
stepped_settings peer event w = stepped_at_settings (slice_get w.nodes (place_of peer)) peer event w

pub ticked_settings : (peer n : ℕ) (w : Run) → settings (ticked peer n w) ≡ settings w
unfolding ticked
ticked_settings peer zero w = refl
ticked_settings peer (suc n) w = ticked_settings peer n (stepped peer events.Tick w) ∙ stepped_settings peer events.Tick w

received_settings : (f : Option Frame) (n : ℕ) (w : Run) → settings (received_if f n w) ≡ settings w
received_settings None n w = refl
received_settings (Some f) n w = by (nat_lt n w.first_alive)
  where
    by : (lost : Bool) → settings (if lost then without_waiting n w else received f n w) ≡ settings w
    by true = refl
    by false = stepped_settings f.to (events.Deliver f.from f.message) (record w { mail = settled w.mail n })

pub delivered_settings : (n : ℕ) (w : Run) → settings (delivered n w) ≡ settings w
delivered_settings n w = received_settings (slice_get w.mail.sent n) n w

passed_settings : (n : Option ℕ) (w : Run) → settings (delivered_if n w) ≡ settings w
passed_settings None w = refl
passed_settings (Some n) w = delivered_settings n w

pub calmed_settings : (peers : List Bool) (n : ℕ) (w : Run) → settings (calmed peers n w) ≡ settings w
unfolding calmed
calmed_settings peers zero w = refl
calmed_settings peers (suc n) w = going (oldest (is_among peers) w.mail) (λ v. calmed_settings peers n v) where
  going : (k : Option ℕ) → ((v : Run) → settings (calmed peers n v) ≡ settings v) → settings (going_on k (λ v. calmed peers n v) w) ≡ settings w
  going None later = refl
  going (Some k) later = later (delivered k w) ∙ delivered_settings k w

-- ## Lines

-- the version of trees and the form after a line
record IsSet (event : ScheduleEvent) (w now : Run) : Type 0 where
  form : now.form ≡ w.form
  tree : now.tree ≡ (if not (is_deep w.form) && deepens event w then Two else w.tree)

without_a_line : (b : Bool) (tree : TreeVersion) → tree ≡ (if not b && false then Two else tree)
without_a_line true tree = refl
without_a_line false tree = refl

stays : (event : ScheduleEvent) (w now : Run) → deepens event w ≡ false → settings now ≡ settings w → IsSet event w now
stays event w now none same = record {
  form = ap (λ (s : Form × TreeVersion × ℕ). s.0) same;
  tree = ap (λ (s : Form × TreeVersion × ℕ). s.1) same ∙ without_a_line (is_deep w.form) w.tree ∙ ap (λ (b : Bool). if not (is_deep w.form) && b then Two else w.tree) (sym none);
}

deepening : (w : Run) (may : Bool) → may ≡ (not (is_deep w.form) && all_down w.nodes) → IsSet Deepen w (if may then deepened w else w)
deepening w true is = record { form = refl; tree = ap (λ (b : Bool). if b then Two else w.tree) is }
deepening w false is = record { form = refl; tree = ap (λ (b : Bool). if b then Two else w.tree) is }

line_is : (event : ScheduleEvent) (w : Run) → IsSet event w (applied event w)
line_is (Call peer id key command) w = stays (Call peer id key command) w (applied (Call peer id key command) w) refl (stepped_settings peer (events.Call (call_of id key command)) w)
line_is (Tick peer ticks) w = stays (Tick peer ticks) w (applied (Tick peer ticks) w) refl (ticked_settings peer ticks w)
line_is (Deliver message) w = stays (Deliver message) w (applied (Deliver message) w) refl (delivered_settings (message - 1) w)
line_is (Pass sender receiver) w = stays (Pass sender receiver) w (applied (Pass sender receiver) w) refl (passed_settings (oldest (goes sender receiver) w.mail) w)
line_is (Lose sender receiver) w = stays (Lose sender receiver) w (applied (Lose sender receiver) w) refl refl
line_is Calm w = stays Calm w (applied Calm w) refl (calmed_settings everyone most_messages w)
line_is (CalmAmong members) w = stays (CalmAmong members) w (applied (CalmAmong members) w) refl (calmed_settings (set_of members) most_messages w)
line_is (Change peer view) w = stays (Change peer view) w (applied (Change peer view) w) refl (stepped_settings peer (events.Change view) w)
line_is (Stop peer) w = stays (Stop peer) w (applied (Stop peer) w) refl (changed_settings peer stopped w)
line_is (Start peer) w = stays (Start peer) w (applied (Start peer) w) refl (changed_settings peer (started (mode_at peer w) w.view) w)
line_is (Upgrade peer) w = stays (Upgrade peer) w (applied (Upgrade peer) w) refl refl
line_is Deepen w = let set = deepening w (not (is_deep w.form) && all_down w.nodes) refl in record { form = set.form; tree = set.tree }
line_is (Spoil peer key bytes) w = stays (Spoil peer key bytes) w (applied (Spoil peer key bytes) w) refl (changed_settings peer (over_stores (spoiled key bytes)) w)
line_is (Damage peer key bytes) w = stays (Damage peer key bytes) w (applied (Damage peer key bytes) w) refl (changed_settings peer (over_stores (segment_spoiled key bytes)) w)
line_is (Inner peer level index bytes) w = stays (Inner peer level index bytes) w (applied (Inner peer level index bytes) w) refl (changed_settings peer (over_stores (inner_spoiled level index bytes)) w)
line_is (Revert peer changes) w = stays (Revert peer changes) w (applied (Revert peer changes) w) refl (changed_settings peer (while_down (taken_back changes)) w)
line_is (Fail peer store survivor) w = stays (Fail peer store survivor) w (applied (Fail peer store survivor) w) refl (changed_settings peer (over_stores (failing store (leaves_of survivor))) w)

-- ## Schedules

joined : (deep here later : Bool) (tree : TreeVersion) → (if not deep && later then Two else (if not deep && here then Two else tree)) ≡ (if not deep && (here || later) then Two else tree)
joined true here later tree = refl
joined false true true tree = refl
joined false true false tree = refl
joined false false later tree = refl

lines_are : (events : List ScheduleEvent) (w : Run) → (run_from events w).tree ≡ (if not (is_deep w.form) && has_deepened events w then Two else w.tree)
lines_are [] w = without_a_line (is_deep w.form) w.tree
lines_are (event ∷ more) w =
    let set = line_is event w in
    let now : Run = applied event w in
    lines_are more now
    ∙ ap (λ (form : Form). if not (is_deep form) && has_deepened more now then Two else now.tree) set.form
    ∙ ap (λ (tree : TreeVersion). if not (is_deep w.form) && has_deepened more now then Two else tree) set.tree
    ∙ joined (is_deep w.form) (deepens event w) (has_deepened more now) w.tree

at_opening : (deep later : Bool) → (if not deep && later then Two else (if deep then Two else One)) ≡ (if deep || later then Two else One)
at_opening true later = refl
at_opening false later = refl

-- a peer starts with a tree of the version that the form and the lines say
pub tree_is : (form : Form) (peers : ℕ) (view : List ℕ) (events : List ScheduleEvent) (p : ℕ) → (mode_at p (run_of_schedule form peers view events)).tree ≡ tree_by_lines form peers view events
tree_is form peers view events p = lines_are events (opening_run form peers view) ∙ at_opening (is_deep form) (has_deepened events (opening_run form peers view))
