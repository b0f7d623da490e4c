-- How the worlds of a run stand for how far it has come, and what a call does that leads it further.
use Rattle.std.specs.Prelude.{◌≡◌, ℕ, List, map, slice_get, find, Option, None, Some, Result, Ok, Err, string_bytes}
use Rattle.std.specs.BTreeMap.{BTreeMap, get}
use Rattle.std.specs.List.{flat_map}
use Rattle.std.specs.Ordering.{nat_cmp}
use Rattle.world_spec.specs.Held.{Account, HasHashed}
use Rattle.register_model.specs.declared.printed.Printed.{Printed}
use Rattle.register_model.specs.declared.printed.Printed.TheVariants as printed
use Rattle.root_laws.specs.Openings.{told_by}
use Rattle.root_laws.specs.Runs.{numbered}
use Rattle.root_laws.specs.Steps.{Branch, Roots, open_told}
use Rattle.root_laws.specs.Text.{line_by, printed_line}
use Rattle.scripts.specs.Progress.{has_id}
use Rattle.scripts.specs.declared.event.RootEvent.{RootEvent}
use Rattle.scripts.specs.declared.script.RootScript.{RootScript}
use Rattle.scripts.specs.declared.slots.Ensemble.{Ensemble}
use Rattle.replay.specs.WorldModel.{IsCutOff, run_of, WorldError, MessageLimit, World}
use Rattle.world_spec.specs.Messages.{IsWithinMessages}
use Rattle.world_spec.specs.Runs.{unhashed}
use Rattle.root.specs.Ends.{as_opening}
use Rattle.root.specs.Worlds.{branch_run, world}
use Rattle.root.specs.declared.worlds.RootWorlds.{RootWorlds}

-- a slot is shut and has no world, or it is open, its world has run its events, and stays within the limit on
-- messages
abbrev pub RunsSlot : RootScript → Option Branch → Option World → Type 0
RunsSlot s None None = Unit {0}
RunsSlot s (Some b) (Some w) = (run_of w ≡ unhashed (branch_run s b)) × IsWithinMessages (branch_run s b)
RunsSlot s _ _ = ⊥

-- the worlds have run the events of their ensembles, and the text is what was printed
pub record Stands (s : RootScript) (r : Roots) (w : RootWorlds) : Type 0 where
  pub root : run_of w.root ≡ unhashed (world s.peers s.view r.root)
  pub within : IsWithinMessages (world s.peers s.view r.root)
  pub slots : (slot : ℕ) → RunsSlot s (r.slots slot) (get nat_cmp w.slots slot)
  pub opened : map as_opening w.opened.items ≡ r.opened
  pub text : string_bytes w.text ≡ flat_map printed_line r.printed

-- the run has come somewhere
abbrev pub Stood : RootScript → RootWorlds → Type 0
Stood s w = (r : Roots) × Stands s r w

-- A call that leads the run to `next` did so, and the hasher took these strings. Or it was refused: at the limit on
-- messages only if a world passes it so, and otherwise since it was cut off.
abbrev pub Goes : {T : Type 0} → RootScript → Roots → List (List ℕ) → Type 0 → Account → Account → RootWorlds → Result T WorldError → Type 0
Goes s next strings Passes first now w (Ok x) = Stands s next w × HasHashed strings first now
Goes s next strings Passes first now w (Err MessageLimit) = Passes
Goes s next strings Passes first now w (Err e) = IsCutOff strings first now e

-- a line that an ensemble printed, with the number of its event in the script
abbrev pub line_at : ℕ → Ensemble → Printed → List ℕ
line_at number ensemble p = line_by ensemble (numbered (λ n. number) p)

-- the event at a place, if there is one
abbrev pub at_place : List RootEvent → Option ℕ → Option RootEvent
at_place events None = None
at_place events (Some place) = slice_get events place

-- these are the places of the calls, by their ids
abbrev pub ArePlaces : List RootEvent → BTreeMap ℕ ℕ → Type 0
ArePlaces events places = (id : ℕ) → at_place events (get nat_cmp places id) ≡ find (has_id id) events

-- what a line that the root printed says is open
abbrev pub told_in : List RootEvent → Printed → Option (ℕ × List ℕ)
told_in events (printed.Answer a) = told_by events a
told_in events (printed.Change event peer taken) = None

-- the slot opens that a line of the root says is open
abbrev pub open_line : List RootEvent → ℕ → Printed → Roots → Roots
open_line events number line w = open_told number (told_in events line) w
