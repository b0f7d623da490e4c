-- The lines that a run shows, in order.
use Rattle.std.specs.Prelude.{ℕ, zero, suc, ◌+◌, ◌-◌, ◌&&◌, Bool, true, false, List, [], ◌∷◌, ◌++◌, map, drop, length, Option, None, Some, slice_get, if◌then◌else◌}
use Rattle.network.specs.Mail.{Mail, goes, is_among, oldest, most_messages}
use Rattle.schedule_text.specs.declared.event.ScheduleEvent.{ScheduleEvent}
use Rattle.schedule_text.specs.declared.event.ScheduleEvent.TheVariants.{Call, Tick, Deliver, Pass, Lose, Calm, CalmAmong, Change, Stop, Start}
use Rattle.schedule_text.specs.declared.schedule.Schedule.{Schedule}
use Rattle.wire_frames.specs.declared.frame.Frame.{Frame}
use Rattle.world_model.specs.Activities.{activity_at, is_stale}
use Rattle.world_model.specs.declared.watching.Activity.{Activity}
use Rattle.world_spec.specs.Lines.{applied, everyone, set_of}
use Rattle.world_spec.specs.Runs.{Run, delivered, opening_run, unhashed}
use Rattle.chart.specs.declared.fate.Fate.{Fate}
use Rattle.chart.specs.declared.fate.Which.{Which}
use Rattle.chart.specs.Notes.{arrow_line, note_line, event_note, printed_words, change_note}

-- what becomes of a message that was sent before trees got version two or not, and whose receiver is doing
-- this
abbrev pub fate_at : Bool → Activity → Fate
fate_at true activity = Fate.Missed
fate_at false Activity.Down = Fate.Missed
fate_at false other = Fate.Taken

-- what a step of a peer shows, from the run before to the run after: what was printed, and the change of
-- what the peer is doing
abbrev pub step_lines : ℕ → Run → Run → List (List ℕ)
step_lines peer before after = map (λ p. note_line peer (printed_words p)) (drop (length before.printed) after.printed) ++ change_note peer (activity_at peer before) (activity_at peer after)

-- a message of this number that is delivered, and the step of its receiver
abbrev pub frame_lines : ℕ → Option Frame → Run → Run → List (List ℕ)
frame_lines n None before after = []
frame_lines n (Some f) before after = arrow_line (fate_at (is_stale n before) (activity_at f.to before)) f ∷ step_lines f.to before after

-- the delivery of the message of this number
abbrev pub delivery_lines : ℕ → Run → List (List ℕ)
delivery_lines n w = frame_lines n (slice_get w.mail.sent n) w (delivered n w)

-- the same, if a number is given
abbrev pub delivery_lines_if : Option ℕ → Run → List (List ℕ)
delivery_lines_if None w = []
delivery_lines_if (Some n) w = delivery_lines n w

-- if a number is given, the delivery of this message, and what follows from the run after it
abbrev pub calm_on : Option ℕ → (Run → List (List ℕ)) → Run → List (List ℕ)
calm_on None rest w = []
calm_on (Some n) rest w = delivery_lines n w ++ rest (unhashed (delivered n w))

-- the deliveries of a calm among these peers, of the oldest message each time, up to n
unfoldable pub calm_lines : List Bool → ℕ → Run → List (List ℕ)
calm_lines peers zero w = []
calm_lines peers (suc n) w = calm_on (oldest (is_among peers) w.mail) (λ v. calm_lines peers n v) w

-- whether the message is one of these
abbrev pub is_which : Which → Frame → Bool
is_which Which.Every f = true
is_which (Which.Between sender receiver) f = goes sender receiver f

-- the messages that wait and pass the test
abbrev pub waiting : (Frame → Bool) → List Frame → List Bool → List Frame
waiting test [] waits = []
waiting test (f ∷ sent) [] = []
waiting test (f ∷ sent) (w ∷ waits) = if w && test f then f ∷ waiting test sent waits else waiting test sent waits

-- the arrows of those of these messages that wait
abbrev pub arrows : Fate → Which → Mail → List (List ℕ)
arrows fate which m = map (arrow_line fate) (waiting (is_which which) m.sent m.waits)

-- the peer that a line gives a tick, a call or a request, stops or starts
abbrev pub stepped_by : ScheduleEvent → Option ℕ
stepped_by (Call peer id key command) = Some peer
stepped_by (Tick peer ticks) = Some peer
stepped_by (Change peer view) = Some peer
stepped_by (Stop peer) = Some peer
stepped_by (Start peer) = Some peer
stepped_by other = None

-- what a step shows, if a peer takes one
abbrev pub step_lines_if : Option ℕ → Run → Run → List (List ℕ)
step_lines_if None before after = []
step_lines_if (Some peer) before after = step_lines peer before after

-- what a line of a schedule shows
abbrev pub effect_lines : ScheduleEvent → Run → List (List ℕ)
effect_lines (Deliver message) w = delivery_lines (message - 1) w
effect_lines (Pass sender receiver) w = delivery_lines_if (oldest (goes sender receiver) w.mail) w
effect_lines (Lose sender receiver) w = arrows Fate.Missed (Which.Between sender receiver) w.mail
effect_lines Calm w = calm_lines everyone most_messages w
effect_lines (CalmAmong members) w = calm_lines (set_of members) most_messages w
effect_lines event w = step_lines_if (stepped_by event) w (applied event w)

-- The lines of these events, the first of which has this number, from a run on; at the end the messages
-- that still wait. The strings that were hashed show nowhere, and are forgotten.
abbrev pub lines_from : ℕ → List ScheduleEvent → Run → List (List ℕ)
lines_from n [] w = arrows Fate.Waiting Which.Every w.mail
lines_from n (event ∷ more) w = event_note n event ++ effect_lines event w ++ lines_from (n + 1) more (unhashed (applied event w))

-- the lines of the run of a schedule
abbrev pub run_lines : Schedule → List (List ℕ)
run_lines s = lines_from 1 s.events (unhashed (opening_run s.form s.peers s.view))
