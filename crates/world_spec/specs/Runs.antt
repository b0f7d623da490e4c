-- The state of a world, and how deliveries and ticks change it.
use Rattle.std.specs.Prelude.{ℕ, zero, suc, ◌+◌, ◌-◌, nat_lt, Bool, not, ◌&&◌, if◌then◌else◌, length, Option, Some, None, List, [], ◌∷◌, ◌++◌, map, replicate, slice_get, slice_set, min, ◌^◌}
use Rattle.ens_base.specs.PeerSet.{holds}
use Rattle.network.specs.Mail.{Mail, no_mail, posted, settled, is_among, oldest}
use Rattle.peer_state.specs.declared.event.Event.{Event}
use Rattle.peer_state.specs.declared.event.Event.TheVariants as events
use Rattle.peer_state.specs.declared.state.Mode.{Mode}
use Rattle.phase_rows.specs.Peers.{joined, those}
use Rattle.register_model.specs.declared.note.Note.{Note}
use Rattle.register_model.specs.declared.printed.Printed.{Printed}
use Rattle.register_model.specs.declared.printed.Printed.TheVariants as lines
use Rattle.schedule_text.specs.Forms.{is_deep, is_sealed}
use Rattle.schedule_text.specs.declared.form.Form.{Form}
use Rattle.step_plans.specs.Plans.{Out}
use Rattle.tree_node.specs.declared.version.TreeVersion.{TreeVersion}
use Rattle.tree_node.specs.declared.version.TreeVersion.TheVariants.{One, Two}
use Rattle.step_plans.specs.LeaderOutput.{AnswerOut, Outgoing}
use Rattle.phase_rows.specs.WireFrames.{Frame}
use Rattle.world_spec.specs.Nodes.{Node, Taken, all_down, taken, started, hashed_by_start, opening_node, opening_strings}

-- the view in which the ensemble opens and its form, the set of the peers whose starts have sealing on, the
-- version of the trees of the peers that start, the number of the first message that is still given to its
-- receiver, the peers 1, 2, .. in this order, the messages, the lines printed, the notes of leaders, the
-- strings hashed by any peer in order, the number of events applied, and the keys of the call lines in order
pub record Run : Type 0 where
  pub view : List ℕ
  pub form : Form
  pub sealing : List Bool
  pub tree : TreeVersion
  pub first_alive : ℕ
  pub nodes : List Node
  pub mail : Mail
  pub printed : List Printed
  pub notes : List Note
  pub hashed : List (List ℕ)
  pub events : ℕ
  pub called : List (List ℕ)

-- these strings, so many times
abbrev pub repeated : ℕ → List (List ℕ) → List (List ℕ)
repeated zero strings = []
repeated (suc n) strings = repeated n strings ++ strings

-- the version of the trees of an ensemble of this form before the first event
abbrev pub tree_first : Form → TreeVersion
tree_first form = if is_deep form then Two else One

-- how the peers of an ensemble of this form start before the first event
abbrev pub opening_mode : Form → Mode
opening_mode form = record { sealing = is_sealed form; tree = tree_first form }

-- the peers whose starts have sealing on before the first event: all or none
abbrev pub sealing_first : Form → List Bool
sealing_first form = those (λ p. is_sealed form)

-- the state before the first event: the peers 1 to `peers` have started on empty stores
abbrev pub opening_run : Form → ℕ → List ℕ → Run
opening_run form peers view = record {
  view = view;
  form = form;
  sealing = sealing_first form;
  tree = tree_first form;
  first_alive = 0;
  nodes = replicate peers (opening_node (opening_mode form) view);
  mail = no_mail;
  printed = [];
  notes = [];
  hashed = repeated peers (opening_strings (opening_mode form) view);
  events = 0;
  called = [];
}

-- the run in which these strings were hashed first
abbrev pub in_front : List (List ℕ) → Run → Run
in_front strings w = record w { hashed = strings ++ w.hashed }

-- the run from here on, in which no string was hashed yet
abbrev pub unhashed : Run → Run
unhashed w = record w { hashed = [] }

-- the number of the next event; it stays at the greatest u64
abbrev pub next_event : ℕ → ℕ
next_event n = min (n + 1) (2 ^ 64 - 1)

-- the index of a peer in the list of nodes
abbrev pub place_of : ℕ → ℕ
place_of peer = peer - 1

-- the frame of a message that peer `me` sends
abbrev pub frame_from : ℕ → Outgoing → Frame
frame_from me o = record { from = me; to = o.to; message = o.message }

-- these messages are sent, one after another
abbrev pub posted_all : List Frame → Mail → Mail
posted_all [] m = m
posted_all (f ∷ more) m = posted_all more (posted m f)

-- the printed line of an answer given at this event
abbrev pub answer_line : ℕ → AnswerOut → Printed
answer_line event a = lines.Answer (record { id = a.id; event = event; reply = a.reply })

-- the printed line of a peer's reply to a request to change its view, at this event
abbrev pub change_line : ℕ → ℕ → Bool → Printed
change_line event peer taken = lines.Change event peer taken

-- the printed lines of what a peer put out at this event
abbrev pub printed_by : ℕ → ℕ → Out → List Printed
printed_by event peer out = map (answer_line event) out.answers ++ map (change_line event peer) out.changes

-- the world after a step of a peer with this outcome
abbrev pub with_taken : ℕ → Taken → Run → Run
with_taken peer t w = record w {
  nodes = slice_set w.nodes (place_of peer) t.node;
  mail = posted_all (map (frame_from peer) t.out.sends) w.mail;
  printed = w.printed ++ printed_by (next_event w.events) peer t.out;
  notes = w.notes ++ t.notes;
  hashed = w.hashed ++ t.hashed;
}

-- the world after a step, if there is such a peer
abbrev pub stepped_at : Option Node → ℕ → Event → Run → Run
stepped_at None peer event w = w
stepped_at (Some node) peer event w = with_taken peer (taken peer event node) w

-- the world after a step of a peer on an event
abbrev pub stepped : ℕ → Event → Run → Run
stepped peer event w = stepped_at (slice_get w.nodes (place_of peer)) peer event w

-- the world after a change of the node of a peer, if there is such a peer
abbrev pub changed_at : Option Node → ℕ → (Node → Node) → Run → Run
changed_at None peer change w = w
changed_at (Some node) peer change w = record w { nodes = slice_set w.nodes (place_of peer) (change node) }

-- the world after this change of the node of a peer; nothing is sent or printed
abbrev pub changed : ℕ → (Node → Node) → Run → Run
changed peer change w = changed_at (slice_get w.nodes (place_of peer)) peer change w

-- the world in which all later starts of the peer have sealing on
abbrev pub upgraded : ℕ → Run → Run
upgraded peer w = record w { sealing = joined peer w.sealing }

-- whether a line `deepen` takes effect here: all peers are down, and trees have version one at the opening
abbrev pub may_deepen : Run → Bool
may_deepen w = not (is_deep w.form) && all_down w.nodes

-- the world in which all later starts have trees of version two, and no message that was sent before is
-- given to a peer
abbrev pub deepened : Run → Run
deepened w = record w { tree = Two; first_alive = length w.mail.sent }

-- the world after a line `deepen`
abbrev pub with_deepening : Run → Run
with_deepening w = if may_deepen w then deepened w else w

-- how a peer starts here
abbrev pub mode_at : ℕ → Run → Mode
mode_at peer w = record { sealing = holds w.sealing peer; tree = w.tree }

-- the strings that a peer hashes when it is started in this mode, if there is such a peer
abbrev pub start_strings : Mode → List ℕ → Option Node → List (List ℕ)
start_strings mode view None = []
start_strings mode view (Some node) = hashed_by_start mode view node

-- the world after these strings were hashed
abbrev pub hashing : List (List ℕ) → Run → Run
hashing strings w = record w { hashed = w.hashed ++ strings }

-- the world after a start of a peer; a running peer goes on
abbrev pub with_start : ℕ → Run → Run
with_start peer w = hashing (start_strings (mode_at peer w) w.view (slice_get w.nodes (place_of peer))) (changed peer (started (mode_at peer w) w.view) w)

-- the world after so many ticks of a peer
unfoldable pub ticked : ℕ → ℕ → Run → Run
ticked peer zero w = w
ticked peer (suc n) w = ticked peer n (stepped peer events.Tick w)

-- a message no longer waits, and its receiver takes a step on it
abbrev pub received : Frame → ℕ → Run → Run
received f n w = stepped f.to (events.Deliver f.from f.message) (record w { mail = settled w.mail n })

-- a message no longer waits, and nobody is given it
abbrev pub without_waiting : ℕ → Run → Run
without_waiting n w = record w { mail = settled w.mail n }

-- the world after a delivery, if there is such a message; one that was sent before trees got version two
-- counts as delivered, but is given to nobody
abbrev pub received_if : Option Frame → ℕ → Run → Run
received_if None n w = w
received_if (Some f) n w = if nat_lt n w.first_alive then without_waiting n w else received f n w

-- the message of this number is delivered; the first has number 0
abbrev pub delivered : ℕ → Run → Run
delivered n w = received_if (slice_get w.mail.sent n) n w

-- the message of this number is delivered, if a number is given
abbrev pub delivered_if : Option ℕ → Run → Run
delivered_if None w = w
delivered_if (Some n) w = delivered n w

-- if a number is given, this message is delivered and then the rest follows; otherwise nothing
-- changes
abbrev pub going_on : Option ℕ → (Run → Run) → Run → Run
going_on None rest w = w
going_on (Some n) rest w = rest (delivered n w)

-- the oldest message waiting among these peers is delivered, up to n times
unfoldable pub calmed : List Bool → ℕ → Run → Run
calmed peers zero w = w
calmed peers (suc n) w = going_on (oldest (is_among peers) w.mail) (λ v. calmed peers n v) w
