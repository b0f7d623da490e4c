-- When the run of a script is legal.
use Rattle.std.specs.Prelude.{◌≡◌, ℕ, ◌+◌, List, [], ◌∷◌, map, Some}
use Rattle.ens_base.specs.Lists.{◌∈◌}
use Rattle.ens_base.specs.declared.command.Command.TheVariants.{Get, PutOnce}
use Rattle.fields.specs.Views.{view_spelling}
use Rattle.register_model.specs.Histories.{IsLegal}
use Rattle.register_model.specs.declared.answer.Answer.{Answer}
use Rattle.register_model.specs.declared.call.Call.{Call}
use Rattle.scripts.specs.declared.slots.Ensemble.{Ensemble}
use Rattle.scripts.specs.declared.slots.Ensemble.TheVariants.{Slot}
use Rattle.scripts.specs.declared.event.RootEvent.{RootEvent}
use Rattle.scripts.specs.declared.event.RootEvent.TheVariants.{Open, Look, Route}
use Rattle.scripts.specs.declared.script.RootScript.{RootScript}
use Rattle.root_laws.specs.Lines.{events_of}
use Rattle.root_laws.specs.Openings.{Opening, view_in}
use Rattle.root_laws.specs.Runs.{RootPrinted, ensemble_story, key_history, lines_of, opening_of, printed_of, slot_history}
use Rattle.root_laws.specs.Slots.{slot_key}
use Rattle.root_laws.specs.Worlds.{IsLegalStory, Worlds, answers_in}

-- the openings and looks among events, the first of which has this number: calls on the keys of slots
abbrev pub slot_calls_from : ℕ → List RootEvent → List Call
slot_calls_from number [] = []
slot_calls_from number (Open peer id slot view ∷ more) = record { id = id; key = slot_key slot; command = PutOnce (view_spelling view); event = number } ∷ slot_calls_from (number + 1) more
slot_calls_from number (Look peer id slot ∷ more) = record { id = id; key = slot_key slot; command = Get; event = number } ∷ slot_calls_from (number + 1) more
slot_calls_from number (_ ∷ more) = slot_calls_from (number + 1) more

-- the routed calls
abbrev pub routed_calls_from : ℕ → List RootEvent → List Call
routed_calls_from number [] = []
routed_calls_from number (Route peer id key command ∷ more) = record { id = id; key = key; command = command; event = number } ∷ routed_calls_from (number + 1) more
routed_calls_from number (_ ∷ more) = routed_calls_from (number + 1) more

-- the answers printed
abbrev pub answers_of : Worlds → RootScript → List Answer
answers_of worlds s = answers_in (map (λ (p : RootPrinted). p.line) (printed_of worlds s))

-- The run of a script is legal: each history of a slot and of a routed key is, over the calls and the
-- printed answers with the numbers of the script; and every answer that says with which view a slot is
-- open says it of its one opening.
pub record IsLegalRun (worlds : Worlds) (s : RootScript) : Type 0 where
  pub slots : (slot : ℕ) → IsLegal (slot_calls_from 1 s.events) (answers_of worlds s) (slot_key slot) (slot_history worlds s slot)
  pub keys : (key : List ℕ) → IsLegal (routed_calls_from 1 s.events) (answers_of worlds s) key (key_history worlds s key)
  pub one_view : (slot : ℕ) (a : Answer) (view : List ℕ) → a ∈ answers_of worlds s → view_in s.events slot a ≡ Some view
      → (opening : Opening) × (opening_of worlds s (Slot slot) ≡ Some opening) × (opening.view ≡ view)

-- the run of each ensemble is legal
abbrev pub HaveLegalStories : Worlds → RootScript → Type 0
HaveLegalStories worlds s = (ensemble : Ensemble) → IsLegalStory (events_of (lines_of worlds s ensemble)) (ensemble_story worlds s ensemble)
