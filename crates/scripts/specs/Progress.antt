-- How far the reading of a script has come.
use Rattle.std.specs.Prelude.{◌≡◌, ℕ, ◌+◌, ◌≤◌, Bool, true, false, ◌==◌, ◌||◌, List, [], ◌∷◌, ◌++◌, length, Option, Some, None, Result, Ok, Err}
use Rattle.std.specs.List.{list_any}
use Rattle.lexemes.specs.declared.cause.Cause.TheVariants.{Repeated}
use Rattle.lexemes.specs.declared.cause.WordError.{WordError}
use Rattle.lexemes.specs.declared.cause.WordError.TheVariants.{Bad, Memory}
use Rattle.schedule_text.specs.Progress.{Progress}
use Rattle.schedule_text.specs.Progress as heading
use Rattle.scripts.specs.declared.event.RootEvent.{RootEvent}
use Rattle.scripts.specs.declared.event.RootEvent.TheVariants.{At, Open, Look, Route}
use Rattle.scripts.specs.declared.stage.Stage.{Stage}
use Rattle.scripts.specs.declared.stage.Stage.TheVariants as stage

-- what the lines so far said
pub data RootProgress : Type 0 where
  Blank : RootProgress
  Titled : RootProgress
  Counted : (peers : ℕ) → RootProgress
  Running : (peers : ℕ) (view : List ℕ) (events : List RootEvent) → RootProgress

-- how many lines there were
abbrev pub lines_so_far : RootProgress → ℕ
lines_so_far Blank = 0
lines_so_far Titled = 1
lines_so_far (Counted peers) = 2
lines_so_far (Running peers view events) = 3 + length events

-- what the heading of a schedule says of a script: but for the first line, the headings of both are the same
abbrev pub begun : Progress → RootProgress
begun heading.Blank = Blank
begun (heading.Titled form) = Titled
begun (heading.Counted form peers) = Counted peers
begun (heading.Running form peers view events) = Running peers view []

-- the id of the call that an event is, if it is one
abbrev pub id_of : RootEvent → Option ℕ
id_of (At ensemble event) = None
id_of (Open peer id slot view) = Some id
id_of (Look peer id slot) = Some id
id_of (Route peer id key command) = Some id

-- whether an id is this one
abbrev pub is_id : ℕ → Option ℕ → Bool
is_id id None = false
is_id id (Some i) = i == id

-- whether an event is the call with this id
abbrev pub has_id : ℕ → RootEvent → Bool
has_id id event = is_id id (id_of event)

-- whether an id came before
abbrev pub came_before : List RootEvent → Option ℕ → Bool
came_before events None = false
came_before events (Some id) = list_any (has_id id) events

-- whether an id is among others
abbrev pub is_among : (ℕ → Bool) → Option ℕ → Bool
is_among ids None = false
is_among ids (Some id) = ids id

-- ids to which one more id came, unless it was among them
abbrev pub Admits : (ℕ → Bool) → Option ℕ → (ℕ → Bool) → Result (Unit {0}) WordError → Type 0
Admits old id new (Ok _) = (is_among old id ≡ false) × ((i : ℕ) → new i ≡ (is_id i id || old i))
Admits old id new (Err (Bad cause)) = (cause ≡ Repeated) × (is_among old id ≡ true) × ((i : ℕ) → new i ≡ old i)
Admits old id new (Err Memory) = (i : ℕ) → new i ≡ old i

-- whether an event is a call whose id came before
abbrev pub is_repeated : List RootEvent → RootEvent → Bool
is_repeated events event = came_before events (id_of event)

-- a list of events with one more behind it, unless it is a call whose id came before
abbrev pub Logs : List RootEvent → RootEvent → List RootEvent → Result (Unit {0}) WordError → Type 0
Logs old event new (Ok _) = (is_repeated old event ≡ false) × (new ≡ old ++ event ∷ [])
Logs old event new (Err (Bad cause)) = (cause ≡ Repeated) × (is_repeated old event ≡ true) × (new ≡ old)
Logs old event new (Err Memory) = new ≡ old

-- the progress that a stage, the heading and the events behind it stand for
abbrev pub progress_of : Stage → Progress → List RootEvent → RootProgress
progress_of stage.Blank lines events = Blank
progress_of stage.Titled lines events = begun lines
progress_of stage.Counted lines events = begun lines
progress_of (stage.Running peers view) lines events = Running peers view events

-- the heading has so many lines
abbrev pub IsTitled : Progress → Type 0
IsTitled (heading.Titled form) = Unit {0}
IsTitled _ = ⊥

abbrev pub IsCounted : Progress → Type 0
IsCounted (heading.Counted form peers) = Unit {0}
IsCounted _ = ⊥

abbrev pub IsWhole : Progress → Type 0
IsWhole (heading.Running form peers view events) = Unit {0}
IsWhole _ = ⊥

-- the heading has the lines of the stage, and no event comes before it is whole
abbrev pub HasHeading : Stage → Progress → List RootEvent → Type 0
HasHeading stage.Blank lines events = events ≡ []
HasHeading stage.Titled lines events = IsTitled lines × (events ≡ [])
HasHeading stage.Counted lines events = IsCounted lines × (events ≡ [])
HasHeading (stage.Running peers view) lines events = Unit {0}

-- the stage, the heading and the events of a reading that may go on
pub record IsUnderWay (stage : Stage) (lines : Progress) (events : List RootEvent) : Type 0 where
  pub begins : HasHeading stage lines events
  pub few : lines_so_far (progress_of stage lines events) ≤ 200000

-- a heading of which one line was read, or two
abbrev pub IsHeading : Progress → Type 0
IsHeading (heading.Titled form) = Unit {0}
IsHeading (heading.Counted form peers) = Unit {0}
IsHeading _ = ⊥
