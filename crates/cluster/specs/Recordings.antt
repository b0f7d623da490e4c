-- The schedule that a cluster records.
use Rattle.std.specs.Prelude.{◌≡◌, ◌≤◌, ℕ, ◌+◌, List, [], ◌∷◌, ◌++◌, length, take, drop, map, Option, None, Some}
use Rattle.scripts.specs.declared.line.ScriptLine.{ScriptLine}
use Rattle.scripts.specs.declared.line.ScriptLine.TheVariants.{Event, Turn}
use Rattle.network.specs.Indexes.{is_spelled}
use Rattle.network.specs.Mail.{oldest}
use Rattle.schedule_text.specs.declared.event.ScheduleEvent.{ScheduleEvent}
use Rattle.schedule_text.specs.declared.event.ScheduleEvent.TheVariants.{Deliver}
use Rattle.schedule_text.specs.declared.form.Form.{Form}
use Rattle.schedule_text.specs.declared.form.Form.TheVariants.{Three}
use Rattle.wire_frames.specs.Frames.{frame_spelling}
use Rattle.wire_frames.specs.declared.frame.Frame.{Frame}
use Rattle.world_spec.specs.Lines.{applied, run_of_schedule}
use Rattle.world_spec.specs.Runs.{Run, opening_run}

-- the number of the oldest message with these bytes that was sent and not yet delivered
abbrev pub found : Option (List ℕ) → Run → Option ℕ
found None w = None
found (Some bytes) w = oldest (is_spelled bytes) w.mail

-- the events recorded so far, and their run
pub record Recording : Type 0 where
  pub events : List ScheduleEvent
  pub run : Run

-- the form of the schedule that a cluster records: every start has sealing on, and trees have version two
abbrev pub recorded_form : Form
recorded_form = Three

-- nothing is recorded yet: so many peers opened with this view
abbrev pub nothing_recorded : ℕ → List ℕ → Recording
nothing_recorded peers view = record { events = []; run = opening_run recorded_form peers view }

-- one more event is recorded, and applied
abbrev pub recorded : ScheduleEvent → Recording → Recording
recorded event r = record { events = r.events ++ event ∷ []; run = applied event r.run }

-- the message of this number is delivered, if there is one; the first message of a schedule has number 1
abbrev pub delivering : Option ℕ → Recording → Recording
delivering None r = r
delivering (Some n) r = recorded (Deliver (n + 1)) r

-- what a look gave: a message is delivered, and anything else records nothing
abbrev pub heard : Option (List ℕ) → Recording → Recording
heard look r = delivering (found look r.run) r

-- what these looks gave, one after another
abbrev pub heard_all : List (Option (List ℕ)) → Recording → Recording
heard_all [] r = r
heard_all (look ∷ more) r = heard_all more (heard look r)

-- The lines of a script were followed, and the looks of their turns gave this: an event is recorded as it
-- stands, and a turn is so many looks.
abbrev pub Follows : List ScriptLine → List (Option (List ℕ)) → Recording → Recording → Type 0
Follows [] looks r s = (looks ≡ []) × (s ≡ r)
Follows (Event event ∷ more) looks r s = Follows more looks (recorded event r) s
Follows (Turn count ∷ more) looks r s = (count ≤ length looks) × Follows more (drop count looks) (heard_all (take count looks) r) s

-- The first lines of a script. Of a turn with which they end, some looks may be left out.
abbrev pub IsPart : List ScriptLine → List ScriptLine → Type 0
IsPart [] script = Unit {0}
IsPart (Event event ∷ part) (Event first ∷ script) = (event ≡ first) × IsPart part script
IsPart (Turn count ∷ []) (Turn most ∷ script) = count ≤ most
IsPart (Turn count ∷ part) (Turn most ∷ script) = (count ≡ most) × IsPart part script
IsPart _ _ = ⊥

-- the events that deliver no message
abbrev pub without_deliveries : List ScheduleEvent → List ScheduleEvent
without_deliveries [] = []
without_deliveries (Deliver message ∷ more) = without_deliveries more
without_deliveries (event ∷ more) = event ∷ without_deliveries more

-- the numbers of the messages that events deliver, in order
abbrev pub deliveries : List ScheduleEvent → List ℕ
deliveries [] = []
deliveries (Deliver message ∷ more) = message ∷ deliveries more
deliveries (event ∷ more) = deliveries more

-- a sent message as it is handed to the link: the number of its receiver, and its bytes
abbrev pub frame_out : Frame → ℕ × List ℕ
frame_out f = (f.to, frame_spelling f)

-- all messages of a run as they are handed to the link
abbrev pub frames_of : Run → List (ℕ × List ℕ)
frames_of w = map frame_out w.mail.sent

-- the run that was recorded is that of the events, as a schedule
abbrev pub IsRunOf : ℕ → List ℕ → Recording → Type 0
IsRunOf peers view r = r.run ≡ run_of_schedule recorded_form peers view r.events
