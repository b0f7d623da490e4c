-- The ensemble on which each line of a script acts, and the lines of one ensemble.
use Rattle.std.specs.Prelude.{ℕ, ◌+◌, ◌-◌, Bool, true, false, ◌==◌, if◌then◌else◌, List, [], ◌∷◌, map, drop, slice_index}
use Rattle.ens_base.specs.declared.command.Command.TheVariants.{Get, PutOnce}
use Rattle.fields.specs.Views.{view_spelling}
use Rattle.schedule_text.specs.declared.event.ScheduleEvent.{ScheduleEvent}
use Rattle.schedule_text.specs.declared.event.ScheduleEvent.TheVariants.{Call}
use Rattle.scripts.specs.declared.slots.Ensemble.{Ensemble}
use Rattle.scripts.specs.declared.slots.Ensemble.TheVariants.{Root, Slot}
use Rattle.scripts.specs.declared.event.RootEvent.{RootEvent}
use Rattle.scripts.specs.declared.event.RootEvent.TheVariants.{At, Open, Look, Route}
use Rattle.root_laws.specs.Slots.{slot_key, slot_of}

-- the ensemble of an event: an opening and a look are calls of the root, and a routed call is one of the
-- ensemble of the slot of its key
abbrev pub ensemble_of : RootEvent → Ensemble
ensemble_of (At ensemble event) = ensemble
ensemble_of (Open peer id slot view) = Root
ensemble_of (Look peer id slot) = Root
ensemble_of (Route peer id key command) = Slot (slot_of key)

-- what the event is in its ensemble: an opening puts the spelled view under the key of the slot, if nothing
-- is there yet, and a look gets it
abbrev pub own_event : RootEvent → ScheduleEvent
own_event (At ensemble event) = event
own_event (Open peer id slot view) = Call peer id (slot_key slot) (PutOnce (view_spelling view))
own_event (Look peer id slot) = Call peer id (slot_key slot) Get
own_event (Route peer id key command) = Call peer id key command

abbrev pub same_ensemble : Ensemble → Ensemble → Bool
same_ensemble Root Root = true
same_ensemble (Slot s) (Slot t) = s == t
same_ensemble _ _ = false

-- an event of one ensemble, with its number in the script
pub record Line : Type 0 where
  pub number : ℕ
  pub event : ScheduleEvent

-- the lines of an ensemble among events, the first of which has this number
abbrev pub lines_from : ℕ → Ensemble → List RootEvent → List Line
lines_from number ensemble [] = []
lines_from number ensemble (event ∷ more) =
    if same_ensemble (ensemble_of event) ensemble then record { number = number; event = own_event event } ∷ lines_from (number + 1) ensemble more
    else lines_from (number + 1) ensemble more

-- the lines of an ensemble that opens in the event of this number, or before the first for the number 0
abbrev pub lines_behind : ℕ → Ensemble → List RootEvent → List Line
lines_behind opened ensemble events = lines_from (opened + 1) ensemble (drop opened events)

-- the events of these lines
abbrev pub events_of : List Line → List ScheduleEvent
events_of lines = map (λ line. line.event) lines

-- the number in the script of the nth of these lines, the first of which is the line 1
abbrev pub number_of : List Line → ℕ → ℕ
number_of lines n = slice_index (map (λ line. line.number) lines) (n - 1)
