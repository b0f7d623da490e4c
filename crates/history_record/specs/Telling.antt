-- What the lines behind the line `answers` have told so far, and what one more line adds.
use Rattle.std.specs.Prelude.{◌≡◌, ℕ, ◌+◌, Bool, true, false, ◌==◌, ◌||◌, nat_lt, if◌then◌else◌, List, [], ◌∷◌, ◌++◌, length, Option, None, Some, Result, Ok, Err}
use Rattle.std.specs.List.{list_any}
use Rattle.ens_base.specs.Lists.{same_bytes}
use Rattle.ens_base.specs.Results.{◌>>=◌}
use Rattle.register_model.specs.declared.answer.Answer.{Answer}
use Rattle.register_model.specs.declared.history.History.{History}
use Rattle.schedule_text.specs.declared.schedule.Schedule.{Schedule}
use Rattle.history_record.specs.Calls.{call_event, change_peer, keys_of}
use Rattle.history_record.specs.Flaws.{Rejects}
use Rattle.history_record.specs.Lines.{line_of}
use Rattle.history_record.specs.declared.flaw.Flaw.{Flaw}
use Rattle.history_record.specs.declared.flaw.Flaw.TheVariants.{Subject, Time, Key}
use Rattle.history_record.specs.declared.flaw.LineError.{LineError}
use Rattle.history_record.specs.declared.lines.RecordLine.{RecordLine}
use Rattle.history_record.specs.declared.lines.RecordLine.TheVariants.{Answered, Changed, Told}

pub record Heard : Type 0 where
  -- how many lines there were, from the first of the schedule on
  pub lines : ℕ
  pub schedule : Schedule
  pub answers : List Answer
  -- the events of the change lines
  pub changes : List ℕ
  -- the event of the last answer or change line, or 0
  pub latest : ℕ
  pub histories : List History
  -- the keys that have no history yet, ascending
  pub keys : List (List ℕ)

-- the schedule has ended, and its line `answers` was read
abbrev pub nothing_heard : Schedule → Heard
nothing_heard s = record { lines = length s.events + 4; schedule = s; answers = []; changes = []; latest = 0; histories = []; keys = keys_of s.events }

-- whether a call was answered, and whether a change has its line
abbrev pub is_answered : List Answer → ℕ → Bool
is_answered answers id = list_any (λ a. a.id == id) answers

abbrev pub is_changed : List ℕ → ℕ → Bool
is_changed changes event = list_any (λ e. e == event) changes

-- the event of the call with this id, if there is one that has no answer yet
abbrev pub open_call : Heard → ℕ → Option ℕ
open_call h id = if is_answered h.answers id then None else call_event 1 h.schedule.events id

-- the peer of the change at this event, if there is one that has no line yet
abbrev pub open_change : Heard → ℕ → Option ℕ
open_change h event = if is_changed h.changes event then None else change_peer 1 h.schedule.events event

-- an answer to a call of that event: neither before the call, nor behind the last event, nor before the
-- line before
abbrev pub with_answer : Heard → Answer → Option ℕ → Result Heard Flaw
with_answer h a None = Err Subject
with_answer h a (Some called) =
    if nat_lt a.event called || nat_lt (length h.schedule.events) a.event || nat_lt a.event h.latest then Err Time
    else Ok (record h { lines = h.lines + 1; answers = h.answers ++ a ∷ []; latest = a.event })

-- a change line of that peer
abbrev pub with_change : Heard → ℕ → ℕ → Option ℕ → Result Heard Flaw
with_change h event peer None = Err Subject
with_change h event peer (Some asked) =
    if asked == peer then (if nat_lt event h.latest then Err Time else Ok (record h { lines = h.lines + 1; changes = h.changes ++ event ∷ []; latest = event }))
    else Err Subject

-- the history of the next key
abbrev pub with_history : Heard → History → List (List ℕ) → Result Heard Flaw
with_history h history [] = Err Key
with_history h history (key ∷ keys) =
    if same_bytes history.key key then Ok (record h { lines = h.lines + 1; histories = h.histories ++ history ∷ []; keys = keys }) else Err Key

-- what a line adds
abbrev pub with_line : Heard → RecordLine → Result Heard Flaw
with_line h (Answered a) = with_answer h a (open_call h a.id)
with_line h (Changed event peer) = with_change h event peer (open_change h event)
with_line h (Told history) = with_history h history h.keys

-- whether a history line came
abbrev pub has_history : List History → Bool
has_history [] = false
has_history (h ∷ more) = true

-- the next line
abbrev pub next_heard : Heard → List ℕ → Result Heard Flaw
next_heard h text = line_of (has_history h.histories) text >>= λ line. with_line h line

-- a line is taken, or it is rejected
abbrev pub Hears : Result Heard Flaw → Heard → Result (Unit {0}) LineError → Type 0
Hears read new (Ok _) = read ≡ Ok new
Hears read new (Err e) = Rejects read e
