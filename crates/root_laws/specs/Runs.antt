-- The run of a script: which slots open, and what each ensemble prints.
use Rattle.std.specs.Prelude.{ℕ, ◌+◌, Bool, true, false, ◌==◌, nat_lt, List, [], ◌∷◌, ◌++◌, map, filter, Option, Some, None}
use Rattle.ens_base.specs.declared.reply.Reply.{Reply}
use Rattle.register_model.specs.declared.answer.Answer.{Answer}
use Rattle.register_model.specs.declared.printed.Printed.{Printed}
use Rattle.register_model.specs.declared.printed.Printed.TheVariants as printed
use Rattle.register_model.specs.Parts.{numbered_answer}
use Rattle.scripts.specs.declared.slots.Ensemble.{Ensemble}
use Rattle.scripts.specs.declared.slots.Ensemble.TheVariants.{Root, Slot}
use Rattle.scripts.specs.declared.event.RootEvent.{RootEvent}
use Rattle.scripts.specs.declared.event.RootEvent.TheVariants.{Route}
use Rattle.scripts.specs.declared.script.RootScript.{RootScript}
use Rattle.root_laws.specs.Lines.{Line, ensemble_of, events_of, lines_behind, number_of}
use Rattle.root_laws.specs.Openings.{Opening, opening_in}
use Rattle.root_laws.specs.Slots.{slot_key, slot_of}
use Rattle.root_laws.specs.Worlds.{Story, Worlds, answers_in, history_in}

-- a printed line, with the number of its event in the script
abbrev pub numbered : (ℕ → ℕ) → Printed → Printed
numbered number (printed.Answer a) = printed.Answer (numbered_answer number a)
numbered number (printed.Change event peer taken) = printed.Change (number event) peer taken

-- the run of an ensemble that opens with a view: that of its lines alone
abbrev pub story_of : Worlds → ℕ → List ℕ → List Line → Story
story_of worlds peers view lines = worlds peers view (events_of lines)

-- what it prints, with the numbers of the events in the script
abbrev pub told_of : List Line → Story → List Printed
told_of lines story = map (numbered (number_of lines)) story.printed

-- the root opens before the first event, with the view of the script
abbrev pub root_opening : RootScript → Opening
root_opening s = record { event = 0; view = s.view }

abbrev pub root_lines : RootScript → List Line
root_lines s = lines_behind 0 Root s.events

abbrev pub root_story : Worlds → RootScript → Story
root_story worlds s = story_of worlds s.peers s.view (root_lines s)

-- the answers of the root, with the numbers of the events in the script
abbrev pub root_answers : Worlds → RootScript → List Answer
root_answers worlds s = map (numbered_answer (number_of (root_lines s))) (answers_in (root_story worlds s).printed)

-- the opening of an ensemble, if it opens
abbrev pub opening_of : Worlds → RootScript → Ensemble → Option Opening
opening_of worlds s Root = Some (root_opening s)
opening_of worlds s (Slot slot) = opening_in s.events slot (root_answers worlds s)

-- the lines of an ensemble with this opening, if it has one: those of the script behind it
abbrev pub lines_with : RootScript → Ensemble → Option Opening → List Line
lines_with s ensemble None = []
lines_with s ensemble (Some opening) = lines_behind opening.event ensemble s.events

abbrev pub lines_of : Worlds → RootScript → Ensemble → List Line
lines_of worlds s ensemble = lines_with s ensemble (opening_of worlds s ensemble)

-- an ensemble that does not open tells nothing
abbrev pub silence : Story
silence = record { printed = []; notes = [] }

abbrev pub story_with : Worlds → RootScript → Ensemble → Option Opening → Story
story_with worlds s ensemble None = silence
story_with worlds s ensemble (Some opening) = story_of worlds s.peers opening.view (lines_behind opening.event ensemble s.events)

abbrev pub ensemble_story : Worlds → RootScript → Ensemble → Story
ensemble_story worlds s ensemble = story_with worlds s ensemble (opening_of worlds s ensemble)

-- what an ensemble prints
abbrev pub ensemble_printed : Worlds → RootScript → Ensemble → List Printed
ensemble_printed worlds s ensemble = told_of (lines_of worlds s ensemble) (ensemble_story worlds s ensemble)

-- whether an ensemble with this opening is open before the event of this number
abbrev pub opens_before : ℕ → Option Opening → Bool
opens_before number None = false
opens_before number (Some opening) = nat_lt opening.event number

-- a call that is routed to a slot that is not open is answered at once
abbrev pub unrouted : ℕ → ℕ → Bool → List Printed
unrouted number id true = []
unrouted number id false = printed.Answer (record { id = id; event = number; reply = Reply.Unavailable }) ∷ []

abbrev pub outside : Worlds → RootScript → ℕ → RootEvent → List Printed
outside worlds s number (Route peer id key command) = unrouted number id (opens_before number (opening_of worlds s (Slot (slot_of key))))
outside worlds s number _ = []

-- whether a line was printed in the event of this number
abbrev pub is_at : ℕ → Printed → Bool
is_at number (printed.Answer a) = a.event == number
is_at number (printed.Change event peer taken) = event == number

-- what is printed in an event, and by which ensemble
pub record RootPrinted : Type 0 where
  pub ensemble : Ensemble
  pub line : Printed

abbrev pub by : Ensemble → Printed → RootPrinted
by ensemble line = record { ensemble = ensemble; line = line }

abbrev pub printed_at : Worlds → RootScript → ℕ → RootEvent → List RootPrinted
printed_at worlds s number event =
    map (by (ensemble_of event)) (filter (is_at number) (ensemble_printed worlds s (ensemble_of event)) ++ outside worlds s number event)

abbrev pub printed_from : Worlds → RootScript → ℕ → List RootEvent → List RootPrinted
printed_from worlds s number [] = []
printed_from worlds s number (event ∷ more) = printed_at worlds s number event ++ printed_from worlds s (number + 1) more

-- what the run of a script prints, in order
abbrev pub printed_of : Worlds → RootScript → List RootPrinted
printed_of worlds s = printed_from worlds s 1 s.events

-- the history of a slot, which is that of its key in the root, and that of a routed key in the ensemble of its slot
abbrev pub slot_history : Worlds → RootScript → ℕ → List ℕ
slot_history worlds s slot = history_in (events_of (root_lines s)) (root_story worlds s) (slot_key slot)

abbrev pub key_history : Worlds → RootScript → List ℕ → List ℕ
key_history worlds s key = history_in (events_of (lines_of worlds s (Slot (slot_of key)))) (ensemble_story worlds s (Slot (slot_of key))) key
