-- The lines of a chart: arrows between peers, and notes over one peer.
use Rattle.std.specs.Prelude.{ℕ, ◌+◌, Bool, true, false, List, [], ◌∷◌, ◌++◌, codes, Option, None, Some, if◌then◌else◌}
use Rattle.std.specs.Option.{option_map_or}
use Rattle.std.specs.Fmt.{decimal}
use Rattle.ens_base.specs.Lists.{same_bytes}
use Rattle.message_labels.specs.Labels.{label}
use Rattle.history_scribe.specs.Text.{reply_words}
use Rattle.register_model.specs.declared.printed.Printed.{Printed}
use Rattle.register_model.specs.declared.printed.Printed.TheVariants as lines
use Rattle.schedule_text.specs.Spelling.{event_line}
use Rattle.schedule_text.specs.declared.event.ScheduleEvent.{ScheduleEvent}
use Rattle.schedule_text.specs.declared.event.ScheduleEvent.TheVariants.{Call, Tick, Change, Stop, Start, Upgrade, Spoil, Damage, Inner, Revert, Fail}
use Rattle.wire_frames.specs.declared.frame.Frame.{Frame}
use Rattle.world_model.specs.declared.watching.Activity.{Activity}
use Rattle.chart.specs.declared.fate.Fate.{Fate}

-- the arrow for each fate, as Mermaid writes it
abbrev pub head : Fate → List ℕ
head Fate.Taken = codes "->>"
head Fate.Missed = codes "-x"
head Fate.Waiting = codes "--)"

-- a message: its sender, its receiver, its fate and its label
abbrev pub arrow_line : Fate → Frame → List ℕ
arrow_line fate f = decimal f.from ++ head fate ++ decimal f.to ++ codes ": " ++ label f.message

-- a note over a peer
abbrev pub note_line : ℕ → List ℕ → List ℕ
note_line peer words = codes "Note over " ++ decimal peer ++ codes ": " ++ words

-- the peer that a line of a schedule is about; a line that delivers or loses messages shows in their arrows
abbrev pub peer_of : ScheduleEvent → Option ℕ
peer_of (Call peer id key command) = Some peer
peer_of (Tick peer ticks) = Some peer
peer_of (Change peer view) = Some peer
peer_of (Stop peer) = Some peer
peer_of (Start peer) = Some peer
peer_of (Upgrade peer) = Some peer
peer_of (Spoil peer key bytes) = Some peer
peer_of (Damage peer key bytes) = Some peer
peer_of (Inner peer level index bytes) = Some peer
peer_of (Revert peer changes) = Some peer
peer_of (Fail peer store survivor) = Some peer
peer_of other = None

-- the note of event n, which is this line of a schedule
abbrev pub event_note : ℕ → ScheduleEvent → List (List ℕ)
event_note n event = option_map_or (λ peer. note_line peer (codes "event " ++ decimal n ++ codes ": " ++ event_line event) ∷ []) (peer_of event) []

-- whether a change of the view was taken
abbrev pub taken_words : Bool → List ℕ
taken_words true = codes "change taken"
taken_words false = codes "change refused"

-- an answer, or a reply to a request to change the view
abbrev pub printed_words : Printed → List ℕ
printed_words (lines.Answer a) = codes "answer " ++ decimal a.id ++ codes " " ++ reply_words a.reply
printed_words (lines.Change event peer taken) = taken_words taken

-- what a peer is doing
abbrev pub activity_word : Activity → List ℕ
activity_word Activity.Down = codes "down"
activity_word Activity.Following = codes "following"
activity_word Activity.Probing = codes "probing"
activity_word Activity.Preparing = codes "preparing"
activity_word Activity.Starting = codes "starting"
activity_word Activity.Leading = codes "leading"

-- these words for what a peer did before and after, if they differ
abbrev pub words_note : ℕ → List ℕ → List ℕ → List (List ℕ)
words_note peer was now = if same_bytes was now then [] else note_line peer (was ++ codes " to " ++ now) ∷ []

-- what a peer did before and after, if it changed
abbrev pub change_note : ℕ → Activity → Activity → List (List ℕ)
change_note peer before after = words_note peer (activity_word before) (activity_word after)
