-- The run of a script, line by line.
use Rattle.std.specs.Prelude.{◌≡◌, ℕ, ◌+◌, ◌<◌, ◌≤◌, ◌^◌, ◌==◌, if◌then◌else◌, List, [], ◌∷◌, ◌++◌, length, drop, map, Option, Some, None, All}
use Rattle.ens_base.specs.Lists.{◌∈◌, AreDistinct}
use Rattle.ens_base.specs.declared.reply.Reply.{Reply}
use Rattle.register_model.specs.declared.printed.Printed.{Printed}
use Rattle.register_model.specs.declared.printed.Printed.TheVariants as printed
use Rattle.schedule_text.specs.declared.event.ScheduleEvent.{ScheduleEvent}
use Rattle.schedule_text.specs.declared.event.ScheduleEvent.TheVariants.{Call}
use Rattle.scripts.specs.declared.event.RootEvent.{RootEvent}
use Rattle.scripts.specs.declared.script.RootScript.{RootScript}
use Rattle.scripts.specs.declared.slots.Ensemble.{Ensemble}
use Rattle.scripts.specs.declared.slots.Ensemble.TheVariants.{Root, Slot}
use Rattle.root_laws.specs.Lines.{ensemble_of, own_event}
use Rattle.root_laws.specs.Openings.{Opening, told_by}
use Rattle.root_laws.specs.Runs.{RootPrinted, by, numbered, opening_of}
use Rattle.root_laws.specs.Worlds.{Worlds}

-- a slot that is open, and the events of its ensemble since then
pub record Branch : Type 0 where
  pub opening : Opening
  pub events : List ScheduleEvent

-- how far the run of a script has come: the events of the root, the slots that are open, these slots in the
-- order in which they opened, and what was printed
pub record Roots : Type 0 where
  pub root : List ScheduleEvent
  pub slots : ℕ → Option Branch
  pub opened : List (ℕ × Opening)
  pub printed : List RootPrinted

-- the opening of a slot, if it is open
abbrev pub opened_at : Option Branch → Option Opening
opened_at None = None
opened_at (Some branch) = Some branch.opening

-- no line was read
abbrev pub at_first : Roots
at_first = record { root = []; slots = λ slot. None; opened = []; printed = [] }

abbrev pub put : ℕ → Branch → (ℕ → Option Branch) → ℕ → Option Branch
put slot branch slots other = if slot == other then Some branch else slots other

-- what one event more makes an ensemble print
abbrev pub printed_next : Worlds → ℕ → List ℕ → List ScheduleEvent → ScheduleEvent → List Printed
printed_next worlds peers view events event = drop (length (worlds peers view events).printed) (worlds peers view (events ++ event ∷ [])).printed

-- what an ensemble prints in the event of this number in the script
abbrev pub said : ℕ → Ensemble → List Printed → List RootPrinted
said number ensemble lines = map (by ensemble) (map (numbered (λ n. number)) lines)

-- a slot opens, unless it is open
abbrev pub open_slot : ℕ → ℕ → List ℕ → Option Branch → Roots → Roots
open_slot number slot view (Some branch) w = w
open_slot number slot view None w =
    let opening : Opening = record { event = number; view = view } in
    record w { slots = put slot (record { opening = opening; events = [] }) w.slots; opened = w.opened ++ (slot, opening) ∷ [] }

abbrev pub open_told : ℕ → Option (ℕ × List ℕ) → Roots → Roots
open_told number None w = w
open_told number (Some (slot, view)) w = open_slot number slot view (w.slots slot) w

-- the slots open that the answers of the root say are open
abbrev pub open_lines : List RootEvent → ℕ → List Printed → Roots → Roots
open_lines events number [] w = w
open_lines events number (printed.Answer a ∷ more) w = open_lines events number more (open_told number (told_by events a) w)
open_lines events number (printed.Change event peer taken ∷ more) w = open_lines events number more w

-- a call of a slot that is not open is answered at once
abbrev pub refusal : ℕ → ScheduleEvent → List Printed
refusal number (Call peer id key command) = printed.Answer (record { id = id; event = number; reply = Reply.Unavailable }) ∷ []
refusal number _ = []

module _ (worlds : Worlds) (s : RootScript) where
  -- an event of the root
  abbrev pub in_root : ℕ → ScheduleEvent → Roots → Roots
  in_root number event w =
      let lines : List Printed = printed_next worlds s.peers s.view w.root event in
      open_lines s.events number lines (record w { root = w.root ++ event ∷ []; printed = w.printed ++ said number Root lines })

  -- an event of the ensemble of a slot
  abbrev pub in_slot : ℕ → ℕ → ScheduleEvent → Option Branch → Roots → Roots
  in_slot number slot event None w = record w { printed = w.printed ++ map (by (Slot slot)) (refusal number event) }
  in_slot number slot event (Some branch) w = record w {
    slots = put slot (record branch { events = branch.events ++ event ∷ [] }) w.slots;
    printed = w.printed ++ said number (Slot slot) (printed_next worlds s.peers branch.opening.view branch.events event);
  }

  abbrev pub in_ensemble : ℕ → ScheduleEvent → Ensemble → Roots → Roots
  in_ensemble number event Root w = in_root number event w
  in_ensemble number event (Slot slot) w = in_slot number slot event (w.slots slot) w

  -- the line of this number
  abbrev pub step : ℕ → RootEvent → Roots → Roots
  step number event w = in_ensemble number (own_event event) (ensemble_of event) w

  abbrev pub steps : ℕ → List RootEvent → Roots → Roots
  steps number [] w = w
  steps number (event ∷ more) w = steps (number + 1) more (step number event w)

  -- all lines
  abbrev pub roots_after : Roots
  roots_after = steps 1 s.events at_first

-- a line was printed in the event of this number
abbrev pub IsAt : ℕ → Printed → Type 0
IsAt number (printed.Answer a) = a.event ≡ number
IsAt number (printed.Change event peer taken) = event ≡ number

-- Worlds print line by line: nothing before the first event, and with each event more only lines of that event, as
-- far as events have numbers.
pub record GrowByLine (worlds : Worlds) : Type 0 where
  pub silent : (peers : ℕ) (view : List ℕ) → (worlds peers view []).printed ≡ []
  pub grow : (peers : ℕ) (view : List ℕ) (events : List ScheduleEvent) (event : ScheduleEvent) → (worlds peers view (events ++ event ∷ [])).printed ≡ (worlds peers view events).printed ++ printed_next worlds peers view events event
  pub at : (peers : ℕ) (view : List ℕ) (events : List ScheduleEvent) (event : ScheduleEvent) → length events < 2 ^ 32 → All (IsAt (length events + 1)) (printed_next worlds peers view events event)

-- the events of these openings never fall, and the first is no less than this
abbrev pub AreInOrder : ℕ → List (ℕ × Opening) → Type 0
AreInOrder low [] = Unit {0}
AreInOrder low (x ∷ more) = (low ≤ x.1.event) × AreInOrder x.1.event more

-- the slots that open in the run of a script, each once, in the order in which they open
pub record AreOpened (worlds : Worlds) (s : RootScript) (opened : List (ℕ × Opening)) : Type 0 where
  pub each : (slot : ℕ) (o : Opening) → (slot, o) ∈ opened → opening_of worlds s (Slot slot) ≡ Some o
  pub all : (slot : ℕ) (o : Opening) → opening_of worlds s (Slot slot) ≡ Some o → (slot, o) ∈ opened
  pub once : AreDistinct (map (λ x. x.0) opened)
  pub in_order : AreInOrder 0 opened
