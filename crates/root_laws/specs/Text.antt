-- The text that the run of a script prints.
use Rattle.std.specs.Prelude.{◌≡◌, ◌↔◌, ℕ, List, [], ◌∷◌, ◌++◌, codes, Contains}
use Rattle.std.specs.Fmt.{decimal}
use Rattle.std.specs.List.{flat_map}
use Rattle.std.specs.List.Sorted.{IsStrictlyIncreasing}
use Rattle.history_scribe.specs.Histories.{AreSorted}
use Rattle.history_scribe.specs.Text.{answer_line, history_line, next_id, taken_word}
use Rattle.register_model.specs.declared.printed.Printed.TheVariants as printed
use Rattle.scripts.specs.Spelling.{ensemble_word}
use Rattle.scripts.specs.declared.event.RootEvent.{RootEvent}
use Rattle.scripts.specs.declared.event.RootEvent.TheVariants.{Open, Look, Route}
use Rattle.scripts.specs.declared.slots.Ensemble.{Ensemble}
use Rattle.scripts.specs.declared.script.RootScript.{RootScript}
use Rattle.register_model.specs.declared.printed.Printed.{Printed}
use Rattle.root_laws.specs.Runs.{RootPrinted, key_history, printed_of, slot_history}
use Rattle.root_laws.specs.Worlds.{Worlds}

-- change S EVENT PEER taken, or change S EVENT PEER refused; an answer as in a schedule
abbrev pub line_by : Ensemble → Printed → List ℕ
line_by ensemble (printed.Answer a) = answer_line a
line_by ensemble (printed.Change event peer taken) =
    codes "change " ++ ensemble_word ensemble ++ codes " " ++ decimal event ++ codes " " ++ decimal peer ++ codes " " ++ taken_word taken ++ 10 ∷ []

abbrev pub printed_line : RootPrinted → List ℕ
printed_line p = line_by p.ensemble p.line

-- slot S ID ID ..
abbrev pub slot_line : Worlds → RootScript → ℕ → List ℕ
slot_line worlds s slot = codes "slot " ++ decimal slot ++ flat_map next_id (slot_history worlds s slot) ++ 10 ∷ []

-- history KEY ID ID ..
abbrev pub key_line : Worlds → RootScript → List ℕ → List ℕ
key_line worlds s key = history_line (record { key = key; calls = key_history worlds s key })

-- the slots of the openings and looks, and the keys of the routed calls
abbrev pub slots_in : List RootEvent → List ℕ
slots_in [] = []
slots_in (Open peer id slot view ∷ more) = slot ∷ slots_in more
slots_in (Look peer id slot ∷ more) = slot ∷ slots_in more
slots_in (_ ∷ more) = slots_in more

abbrev pub keys_in : List RootEvent → List (List ℕ)
keys_in [] = []
keys_in (Route peer id key command ∷ more) = key ∷ keys_in more
keys_in (_ ∷ more) = keys_in more

-- these slots, each once, ascending
pub record AreSlots (named slots : List ℕ) : Type 0 where
  pub same : (slot : ℕ) → Contains slots slot ↔ Contains named slot
  pub ascending : IsStrictlyIncreasing slots

-- the text of a run: what it printed, a line for each slot of an opening or a look, and a line for each
-- routed key
pub record IsTextOf (worlds : Worlds) (s : RootScript) (text : List ℕ) : Type 0 where
  pub slots : List ℕ
  pub are_slots : AreSlots (slots_in s.events) slots
  pub keys : List (List ℕ)
  pub are_keys : AreSorted (keys_in s.events) keys
  pub is : text ≡ flat_map printed_line (printed_of worlds s) ++ flat_map (slot_line worlds s) slots ++ flat_map (key_line worlds s) keys
