-- What the run of one ensemble tells. The worlds of a script are given: of how many peers, the opening view
-- and the events. They all have one form of ensemble, on which nothing here depends.
use Rattle.std.specs.Prelude.{◌≡◌, ℕ, ◌≤◌, Bool, false, if◌then◌else◌, List, [], ◌∷◌, length}
use Rattle.std.specs.List.{list_any}
use Rattle.ens_base.specs.Lists.{◌∈◌, same_bytes}
use Rattle.history_record.specs.Calls.{calls_from}
use Rattle.register_model.specs.Histories.{IsLegal}
use Rattle.register_model.specs.Orders.{order}
use Rattle.register_model.specs.declared.answer.Answer.{Answer}
use Rattle.register_model.specs.declared.call.Call.{Call}
use Rattle.register_model.specs.declared.note.Note.{Note}
use Rattle.register_model.specs.declared.printed.Printed.{Printed}
use Rattle.register_model.specs.declared.printed.Printed.TheVariants as printed
use Rattle.schedule_text.specs.declared.event.ScheduleEvent.{ScheduleEvent}
use Rattle.schedule_text.specs.declared.event.ScheduleEvent.TheVariants.{Call as CallLine}

-- what a run printed, and the notes of its leaders
pub record Story : Type 0 where
  pub printed : List Printed
  pub notes : List Note

-- the worlds: the run of so many peers, that open with a view, and of these events
abbrev pub Worlds : Type 0
Worlds = ℕ → List ℕ → List ScheduleEvent → Story

-- the answers among what was printed
abbrev pub answers_in : List Printed → List Answer
answers_in [] = []
answers_in (printed.Answer a ∷ more) = a ∷ answers_in more
answers_in (printed.Change event peer taken ∷ more) = answers_in more

-- whether an event is a call on the key
abbrev pub calls_on : List ℕ → ScheduleEvent → Bool
calls_on key (CallLine peer id k command) = same_bytes k key
calls_on key _ = false

-- the history of a key in the run of these events: the order that the notes give, if one of them is a call on the
-- key, and otherwise no call
abbrev pub history_in : List ScheduleEvent → Story → List ℕ → List ℕ
history_in events story key = if list_any (calls_on key) events then order story.notes key else []

-- the run of these events is legal: each key has a legal history, and each answer is to a call of them and is
-- given in one of them
pub record IsLegalStory (events : List ScheduleEvent) (story : Story) : Type 0 where
  pub legal : (key : List ℕ) → IsLegal (calls_from 1 events) (answers_in story.printed) key (history_in events story key)
  pub called : (a : Answer) → a ∈ answers_in story.printed → (c : Call) × (c ∈ calls_from 1 events) × (c.id ≡ a.id)
  pub in_events : (a : Answer) → a ∈ answers_in story.printed → a.event ≤ length events
