-- Why the run of a script ends early.
use Rattle.std.specs.Prelude.{◌≡◌, ◌⊎◌, ◌+◌, ℕ, List, [], ◌∷◌, ◌++◌, Some, length}
use Rattle.world_spec.specs.Held.{Account, HasHashed}
use Rattle.root_laws.specs.Lines.{ensemble_of, own_event}
use Rattle.root_laws.specs.Openings.{Opening}
use Rattle.root_laws.specs.Steps.{Branch, Roots, at_first, step, steps}
use Rattle.scripts.specs.declared.event.RootEvent.{RootEvent}
use Rattle.scripts.specs.declared.script.RootScript.{RootScript}
use Rattle.scripts.specs.declared.slots.Ensemble.{Ensemble}
use Rattle.schedule_text.specs.declared.event.ScheduleEvent.{ScheduleEvent}
use Rattle.replay.specs.WorldModel.{IsCutOff, WorldError, MessageLimit}
use Rattle.world_model.specs.Turns.{StopsAmong, turn, turns_of}
use Rattle.world_spec.specs.Messages.{IsPastMessages, IsWithinMessages}
use Rattle.world_spec.specs.Runs.{unhashed}
use Rattle.root.specs.Hashed.{hashed_until, line_hashed, opened_hashed, opened_since, own_hashed, routed_hashed}
use Rattle.root.specs.Worlds.{AreWithin, branch_next, branch_run, events_in, worlds}

-- with this event the run of an ensemble exceeds the limit on messages
pub record PassesWith (s : RootScript) (r : Roots) (ensemble : Ensemble) (event : ScheduleEvent) : Type 0 where
  pub branch : Branch
  pub runs : events_in s r ensemble ≡ Some branch
  pub past : IsPastMessages (branch_next s branch event)

-- a line of the script with which the run of its ensemble exceeds the limit on messages
pub record PassesLimit (s : RootScript) : Type 0 where
  pub done : List RootEvent
  pub line : RootEvent
  pub rest : List RootEvent
  pub are : s.events ≡ done ++ line ∷ rest
  pub passes : PassesWith s (steps worlds s 1 done at_first) (ensemble_of line) (own_event line)

-- The run came to this line of the script: these are the lines before it. Until then the run of each ensemble stays
-- within the limit on messages, and a hasher took every string of them.
pub record CameTo (s : RootScript) (done : List RootEvent) (line : RootEvent) (first mid : Account) : Type 0 where
  pub rest : List RootEvent
  pub are : s.events ≡ done ++ line ∷ rest
  pub within : AreWithin s (steps worlds s 1 done at_first)
  pub has : HasHashed (hashed_until s done) first mid

-- the run came to a line with which the run of its ensemble exceeds the limit on messages
pub record PassesIn (s : RootScript) (first : Account) : Type 0 where
  pub done : List RootEvent
  pub line : RootEvent
  pub mid : Account
  pub came : CameTo s done line first mid
  pub passes : PassesWith s (steps worlds s 1 done at_first) (ensemble_of line) (own_event line)

-- A hasher rejected, in this way, one of the strings that the peers of the root hash before the first line; or the
-- run came to a line, and the hasher rejected one of the strings of this line.
abbrev pub RejectsIn : RootScript → Account → (List (List ℕ) → Account → Type 0) → Type 0
RejectsIn s first rejects =
    rejects (hashed_until s []) first
    ⊎ ((done : List RootEvent) × (line : RootEvent) × (mid : Account) × CameTo s done line first mid × rejects (line_hashed s (1 + length done) line (steps worlds s 1 done at_first)) mid)

-- An error stopped an event in one of its turns in the run of its ensemble. Until then this run stays within the limit on
-- messages, and the hasher took its strings.
pub record StopsTurn (s : RootScript) (r : Roots) (ensemble : Ensemble) (event : ScheduleEvent) (first now : Account) (e : WorldError) : Type 0 where
  pub branch : Branch
  pub runs : events_in s r ensemble ≡ Some branch
  pub stops : StopsAmong (turns_of event) (turn event) (unhashed (branch_run s branch)) first now e

-- The event came to its end, within the limit on messages, and the hasher took its strings. It rejected one of those of
-- a slot that was to open then.
pub record StopsOpening (s : RootScript) (r next : Roots) (ensemble : Ensemble) (event : ScheduleEvent) (first now : Account) (e : WorldError) : Type 0 where
  pub within : (b : Branch) → events_in s r ensemble ≡ Some b → IsWithinMessages (branch_next s b event)
  pub mid : Account
  pub has : HasHashed (own_hashed s event (events_in s r ensemble)) first mid
  pub cut : IsCutOff (opened_hashed s (opened_since r next)) mid now e

-- an error stopped the event, or the opening of a slot behind it
abbrev pub StopsEvent : RootScript → (r next : Roots) → Ensemble → ScheduleEvent → Account → Account → WorldError → Type 0
StopsEvent s r next ensemble event first now e = StopsTurn s r ensemble event first now e ⊎ StopsOpening s r next ensemble event first now e

-- an error stopped the line of this number: the hasher rejected the key of a routed call, or it took that key, and the
-- error stopped the event of the line
abbrev pub StopsLine : RootScript → ℕ → RootEvent → Roots → Account → Account → WorldError → Type 0
StopsLine s number line r first now e =
    IsCutOff (routed_hashed line) first now e ⊎ ((mid : Account) × HasHashed (routed_hashed line) first mid × StopsEvent s r (step worlds s number line r) (ensemble_of line) (own_event line) mid now e)

-- an error stopped the run in the opening of the root, or when it came to a line, in this line
abbrev pub StopsIn : RootScript → Account → Account → WorldError → Type 0
StopsIn s first now e =
    IsCutOff (hashed_until s []) first now e
    ⊎ ((done : List RootEvent) × (line : RootEvent) × (mid : Account) × CameTo s done line first mid × StopsLine s (1 + length done) line (steps worlds s 1 done at_first) mid now e)

-- an error ended the run: a world passed the limit on messages, the hasher rejected the next of the strings of the
-- run, or memory ran out; and before it no other error came, within its line either
abbrev pub IsStopped : RootScript → Account → Account → WorldError → Type 0
IsStopped s first now MessageLimit = PassesIn s first × StopsIn s first now MessageLimit
IsStopped s first now e = RejectsIn s first (λ strings mid. IsCutOff strings mid now e) × StopsIn s first now e

-- a slot with its view and the number of its event, as an opening
abbrev pub as_opening : (ℕ × List ℕ × ℕ) → ℕ × Opening
as_opening x = (x.0, record { event = x.2; view = x.1 })
