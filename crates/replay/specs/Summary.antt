-- The summary of the run of a schedule in a world.
use Rattle.std.specs.Prelude.{◌≡◌, ℕ, ◌==◌, ◌||◌, Bool, true, false, not, if◌then◌else◌, List, [], ◌∷◌, ◌++◌, length, count_by, codes, Option, None, Some}
use Rattle.std.specs.List.{list_any}
use Rattle.std.specs.Fmt.{decimal}
use Rattle.md5.specs.Md5.{md5}
use Rattle.ens_base.specs.Words.{bytes_word}
use Rattle.ens_base.specs.declared.reply.Reply.{Reply}
use Rattle.ens_base.specs.declared.status.Status.{Status}
use Rattle.register_model.specs.Histories.{is_done, is_refused}
use Rattle.register_model.specs.declared.printed.Printed.{Printed}
use Rattle.register_model.specs.declared.printed.Printed.TheVariants as lines
use Rattle.schedule_text.specs.declared.event.ScheduleEvent.{ScheduleEvent}
use Rattle.schedule_text.specs.declared.event.ScheduleEvent.TheVariants as line
use Rattle.schedule_text.specs.declared.schedule.Schedule.{Schedule}
use Rattle.replay.specs.Text.{IsTextOfRun}
use Rattle.replay.specs.Worlds.{schedule_run}
use Rattle.world_model.specs.WorldSpec.{IsPastMessages, IsWithinMessages}

-- whether the line of a run is an answer whose reply passes the test
abbrev pub answers_with : (Reply → Bool) → Printed → Bool
answers_with test (lines.Answer a) = test a.reply
answers_with test (lines.Change event peer taken) = false

-- whether the line of a schedule is a call
unfoldable pub is_call : ScheduleEvent → Bool
is_call (line.Call peer id key command) = true
is_call _ = false

-- how many lines of the schedule are calls
abbrev pub call_count : Schedule → ℕ
call_count s = count_by is_call s.events

-- how many answers have a reply that passes the test
abbrev pub reply_count : (Reply → Bool) → List Printed → ℕ
reply_count test printed = count_by (answers_with test) printed

-- the id of the call that a line of a run completes or refuses, if it does
abbrev pub settled_by : Printed → Option ℕ
settled_by (lines.Answer a) = if is_done a.reply || is_refused a.reply then Some a.id else None
settled_by (lines.Change event peer taken) = None

-- whether it is this id
abbrev pub is_id : ℕ → Option ℕ → Bool
is_id id None = false
is_id id (Some n) = n == id

-- whether the line of a run completes or refuses the call of this id
abbrev pub settles : ℕ → Printed → Bool
settles id printed = is_id id (settled_by printed)

-- whether the line of a schedule is a call that no line of the run completes or refuses
unfoldable pub is_unknown : List Printed → ScheduleEvent → Bool
is_unknown printed (line.Call peer id key command) = not (list_any (settles id) printed)
is_unknown printed _ = false

-- how many calls were neither completed nor refused: those that timed out, and those that were not
-- answered
abbrev pub unknown_count : Schedule → List Printed → ℕ
unknown_count s printed = count_by (is_unknown printed) s.events

-- NAME N
abbrev pub count_line : List ℕ → ℕ → List ℕ
count_line name count = name ++ codes " " ++ decimal count ++ 10 ∷ []

-- the calls and the lines of a schedule
unfoldable pub schedule_counts : Schedule → List ℕ
schedule_counts s = count_line (codes "calls") (call_count s) ++ count_line (codes "events") (length s.events)

-- the calls that were completed, those that were refused, and the rest
unfoldable pub reply_counts : Schedule → List Printed → List ℕ
reply_counts s printed =
    count_line (codes "done") (reply_count is_done printed) ++ count_line (codes "noeffect") (reply_count is_refused printed)
    ++ count_line (codes "unknown") (unknown_count s printed)

-- digest HEX, the MD5 of a text
unfoldable pub digest_line : List ℕ → List ℕ
digest_line text = codes "digest " ++ bytes_word (md5 text) ++ 10 ∷ []

-- the six lines, for what a run printed and its whole text
unfoldable pub summary_text : Schedule → List Printed → List ℕ → List ℕ
summary_text s printed text = schedule_counts s ++ reply_counts s printed ++ digest_line text

-- the run of the schedule stays within the limit on messages
abbrev pub StaysWithin : Schedule → Type 0
StaysWithin s = IsWithinMessages (schedule_run s)

-- the same, and the text is the summary of the run
abbrev pub IsSummary : Schedule → List ℕ → Type 0
IsSummary s summary =
    StaysWithin s × ((text : List ℕ) × IsTextOfRun (schedule_run s) text × (summary ≡ summary_text s (schedule_run s).printed text))

-- how a summary ends, and its text: with the six lines, or at the limit on messages
abbrev pub EndsInSummary : Schedule → Status → List ℕ → Type 0
EndsInSummary s Status.Done text = IsSummary s text
EndsInSummary s Status.Limit text = IsPastMessages (schedule_run s) × (text ≡ codes "limit messages 500000" ++ 10 ∷ [])
EndsInSummary s status text = ⊥
