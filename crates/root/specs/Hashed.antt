-- The strings that the run of a script hashes, in order.
use Rattle.std.specs.Prelude.{ℕ, ◌+◌, List, [], ◌∷◌, ◌++◌, length, drop, Option, None, Some}
use Rattle.std.specs.List.{flat_map}
use Rattle.root_laws.specs.Lines.{ensemble_of, own_event}
use Rattle.root_laws.specs.Openings.{Opening}
use Rattle.root_laws.specs.Steps.{Branch, Roots, at_first, step}
use Rattle.scripts.specs.declared.event.RootEvent.{RootEvent}
use Rattle.scripts.specs.declared.event.RootEvent.TheVariants.{Route}
use Rattle.scripts.specs.declared.script.RootScript.{RootScript}
use Rattle.schedule_text.specs.declared.event.ScheduleEvent.{ScheduleEvent}
use Rattle.world_spec.specs.Lines.{applied}
use Rattle.world_spec.specs.Runs.{opening_run, unhashed}
use Rattle.root.specs.Worlds.{branch_run, events_in, newest, worlds}

-- the key of a routed call, which says to which slot it goes
abbrev pub routed_hashed : RootEvent → List (List ℕ)
routed_hashed (Route peer id key command) = key ∷ []
routed_hashed _ = []

-- the strings of an event in its ensemble, if that is open
abbrev pub own_hashed : RootScript → ScheduleEvent → Option Branch → List (List ℕ)
own_hashed s event None = []
own_hashed s event (Some b) = (applied event (unhashed (branch_run s b))).hashed

-- those that the peers of the slots hash which open
abbrev pub opened_hashed : RootScript → List (ℕ × Opening) → List (List ℕ)
opened_hashed s opened = flat_map (λ x. (opening_run newest s.peers x.1.view).hashed) opened

-- the slots that opened from one moment of the run to another
abbrev pub opened_since : Roots → Roots → List (ℕ × Opening)
opened_since r next = drop (length r.opened) next.opened

-- those of the line of this number
abbrev pub line_hashed : RootScript → ℕ → RootEvent → Roots → List (List ℕ)
line_hashed s number event r =
    routed_hashed event ++ (own_hashed s (own_event event) (events_in s r (ensemble_of event)) ++ opened_hashed s (opened_since r (step worlds s number event r)))

-- those of some lines, the first of which has this number
abbrev pub lines_hashed : RootScript → ℕ → List RootEvent → Roots → List (List ℕ)
lines_hashed s number [] r = []
lines_hashed s number (event ∷ more) r = line_hashed s number event r ++ lines_hashed s (number + 1) more (step worlds s number event r)

-- those of the run after these lines: those of the opening of the root come first
abbrev pub hashed_until : RootScript → List RootEvent → List (List ℕ)
hashed_until s lines = (opening_run newest s.peers s.view).hashed ++ lines_hashed s 1 lines at_first

-- those of the whole run
abbrev pub hashed_by : RootScript → List (List ℕ)
hashed_by s = hashed_until s s.events
