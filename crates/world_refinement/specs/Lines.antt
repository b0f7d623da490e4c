-- How a world agrees with the book of the abstract protocol, line by line.
use Rattle.std.specs.Prelude.{◌≡◌, ◌↔◌, ◌⊎◌, ℕ, true, false, ◌+◌, List, [], ◌∷◌, ◌++◌, length, map}
use Rattle.ens_base.specs.Lists.{◌∈◌}
use Rattle.protocol_laws.specs.Book.{Book}
use Rattle.leader_output.specs.declared.out.AnswerOut.{AnswerOut}
use Rattle.register_model.specs.Histories.{IsLegal}
use Rattle.register_model.specs.declared.answer.Answer.{Answer}
use Rattle.register_model.specs.declared.call.Call.{Call}
use Rattle.register_model.specs.declared.history.History.{History}
use Rattle.register_model.specs.declared.printed.Printed.{Printed}
use Rattle.register_model.specs.declared.printed.Printed.TheVariants as printed
use Rattle.schedule_text.specs.declared.event.ScheduleEvent.{ScheduleEvent}
use Rattle.schedule_text.specs.declared.event.ScheduleEvent.TheVariants as line
use Rattle.schedule_text.specs.Forms.{is_sealed}
use Rattle.schedule_text.specs.declared.form.Form.{Form}
use Rattle.schedule_input.specs.Premise.{is_firm, changed_views}
use Rattle.role_laws.specs.Facts.{Lines}
use Rattle.world_spec.specs.Nodes.{Taken}
use Rattle.world_spec.specs.Runs.{Run}

-- ## Calls and answers of a schedule

-- what the lines of a schedule of this form say, which opens in this view: firm are the peers that have a
-- seal by the form or that no line reverts, and the views that may vote are the opening one and those that a
-- line asks for
abbrev pub lines_of : Form → List ℕ → List ScheduleEvent → Lines
lines_of form view events = record { sealed = is_sealed form; firm = is_firm form events; voting = view ∷ changed_views events }

-- a line may revert the tree of the peer: each peer has a seal, or this one is not firm
abbrev pub MayBeReverted : Lines → ℕ → Type 0
MayBeReverted lines p = (lines.sealed ≡ true) ⊎ (lines.firm p ≡ false)

-- the call of a line with this number, in front of the rest
abbrev pub call_at : ScheduleEvent → ℕ → List Call → List Call
call_at (line.Call peer id key command) number rest = record { id = id; key = key; command = command; event = number } ∷ rest
call_at other number rest = rest

-- the calls of the lines, the first of which has this number
abbrev pub calls_from : ℕ → List ScheduleEvent → List Call
calls_from number [] = []
calls_from number (event ∷ more) = call_at event number (calls_from (number + 1) more)

-- the answers among what was printed
abbrev pub answers_in : List Printed → List Answer
answers_in [] = []
answers_in (printed.Answer a ∷ more) = a ∷ answers_in more
answers_in (printed.Change event peer taken ∷ more) = answers_in more

-- every history is legal for its key, for the calls of the schedule and the answers printed
abbrev pub AreLegal : List ScheduleEvent → List Printed → List History → Type 0
AreLegal events lines histories = (h : History) → h ∈ histories → IsLegal (calls_from 1 events) (answers_in lines) h.key h.calls

-- ## The book

-- the two lists have the same items
abbrev pub AreSame : {A : Type 0} → List A → List A → Type 0
AreSame {A} xs ys = (x : A) → x ∈ xs ↔ x ∈ ys

-- the book has the events, the calls, the notes and the answers of a world after these lines, of which
-- the world has counted all but so many
pub record Agrees (uncounted : ℕ) (events : List ScheduleEvent) (w : Run) (b : Book) : Type 0 where
  pub counted : uncounted + w.events ≡ length events
  pub now : b.now ≡ length events
  pub notes : b.notes ≡ w.notes
  pub calls : AreSame b.calls (calls_from 1 events)
  pub answers : AreSame b.answers (answers_in w.printed)
  pub many : length b.answers ≡ length (answers_in w.printed)

-- after a line
abbrev pub BookAgrees : List ScheduleEvent → Run → Book → Type 0
BookAgrees = Agrees 0

-- in the middle of the last line, which the book has begun
abbrev pub Within : List ScheduleEvent → Run → Book → Type 0
Within = Agrees 1

-- the next event begins, with these calls
pub record Opens (calls : List Call) (b next : Book) : Type 0 where
  pub now : next.now ≡ b.now + 1
  pub called : next.calls ≡ calls ++ b.calls
  pub notes : next.notes ≡ b.notes
  pub answers : next.answers ≡ b.answers

-- the answer, given at this event
abbrev pub given_at : ℕ → AnswerOut → Answer
given_at event a = record { id = a.id; event = event; reply = a.reply }

-- the step of a peer with this outcome makes its notes, and gives its answers at the current event
pub record StepAgrees (t : Taken) (b next : Book) : Type 0 where
  pub now : next.now ≡ b.now
  pub calls : next.calls ≡ b.calls
  pub notes : next.notes ≡ b.notes ++ t.notes
  pub answers : AreSame next.answers (map (given_at b.now) t.out.answers ++ b.answers)
  pub many : length next.answers ≡ length t.out.answers + length b.answers

-- the book stays as it is, but for entries that no history is made of
pub record IsQuiet (b next : Book) : Type 0 where
  pub now : next.now ≡ b.now
  pub calls : next.calls ≡ b.calls
  pub notes : next.notes ≡ b.notes
  pub answers : next.answers ≡ b.answers
