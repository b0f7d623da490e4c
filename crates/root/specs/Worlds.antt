-- The worlds in which the ensembles of a script run. All have one form, which stands here alone.
use Rattle.std.specs.Prelude.{◌≡◌, ℕ, List, [], ◌∷◌, ◌++◌, Option, Some}
use Rattle.root_laws.specs.Steps.{Branch, Roots}
use Rattle.root_laws.specs.Worlds.{Worlds}
use Rattle.scripts.specs.declared.script.RootScript.{RootScript}
use Rattle.scripts.specs.declared.slots.Ensemble.{Ensemble}
use Rattle.scripts.specs.declared.slots.Ensemble.TheVariants.{Root, Slot}
use Rattle.schedule_text.specs.declared.event.ScheduleEvent.{ScheduleEvent}
use Rattle.schedule_text.specs.declared.form.Form.{Form}
use Rattle.schedule_text.specs.declared.form.Form.TheVariants.{Three}
use Rattle.world_spec.specs.Lines.{run_of_schedule}
use Rattle.world_spec.specs.Messages.{IsWithinMessages}
use Rattle.world_spec.specs.Runs.{Run}

-- the form of the root and of each ensemble that opens: the newest one
abbrev pub newest : Form
newest = Three

-- the run of an ensemble of so many peers, that opens with a view, and of these events
abbrev pub world : ℕ → List ℕ → List ScheduleEvent → Run
world peers view events = run_of_schedule newest peers view events

-- what the runs tell
abbrev pub worlds : Worlds
worlds peers view events = record { printed = (world peers view events).printed; notes = (world peers view events).notes }

-- an ensemble and its events, if it is open
abbrev pub events_in : RootScript → Roots → Ensemble → Option Branch
events_in s r Root = Some (record { opening = record { event = 0; view = s.view }; events = r.root })
events_in s r (Slot slot) = r.slots slot

-- its run
abbrev pub branch_run : RootScript → Branch → Run
branch_run s b = world s.peers b.opening.view b.events

-- the same with one event more
abbrev pub branch_next : RootScript → Branch → ScheduleEvent → Run
branch_next s b event = world s.peers b.opening.view (b.events ++ event ∷ [])

-- the run of each ensemble that is open stays within the limit on messages
abbrev pub AreWithin : RootScript → Roots → Type 0
AreWithin s r = (ensemble : Ensemble) (b : Branch) → events_in s r ensemble ≡ Some b → IsWithinMessages (branch_run s b)
