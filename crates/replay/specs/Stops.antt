-- In which turn of a line of a schedule its run ended early.
use Rattle.std.specs.Prelude.{◌≡◌, ◌⊎◌, ◌<◌, ℕ, List, [], ◌∷◌, ◌++◌}
use Rattle.world_model.specs.WorldSpec.{Account, HasHashed, run_of_schedule, IsPastMessages, IsWithinMessages, Run, unhashed}
use Rattle.schedule_text.specs.declared.event.ScheduleEvent.{ScheduleEvent}
use Rattle.schedule_text.specs.declared.schedule.Schedule.{Schedule}
use Rattle.world_model.specs.Refusals.{IsCutOff}
use Rattle.world_model.specs.Turns.{after_turns, turn, turns_of}
use Rattle.world_model.specs.declared.error.WorldError.{WorldError}
use Rattle.world_model.specs.declared.error.WorldError.TheVariants.{MessageLimit}

-- the run of a schedule after these lines of it
abbrev pub run_after : Schedule → List ScheduleEvent → Run
run_after s lines = run_of_schedule s.form s.peers s.view lines

-- the run after these lines, and so many turns of the next one
abbrev pub run_until : Schedule → List ScheduleEvent → ScheduleEvent → ℕ → Run
run_until s done line turns = after_turns turns (turn line) (run_after s done)

-- the run after one more turn, with the strings that this turn hashes
abbrev pub next_turn : Schedule → List ScheduleEvent → ScheduleEvent → ℕ → Run
next_turn s done line turns = turn line (unhashed (run_until s done line turns))

-- The run came to a turn of a line of the schedule, after these lines and so many turns. Until then it stays
-- within the limit on messages, and a hasher took every string of it.
pub record CameTo (s : Schedule) (done : List ScheduleEvent) (line : ScheduleEvent) (turns : ℕ) (first mid : Account) : Type 0 where
  pub rest : List ScheduleEvent
  pub are : s.events ≡ done ++ line ∷ rest
  pub few : turns < turns_of line
  pub within : IsWithinMessages (run_until s done line turns)
  pub has : HasHashed (run_until s done line turns).hashed first mid

-- the run came to a turn with which it exceeds the limit on messages, and the hasher took every string of this
-- turn, too
pub record PassesLimit (s : Schedule) (first : Account) : Type 0 where
  pub done : List ScheduleEvent
  pub line : ScheduleEvent
  pub turns : ℕ
  pub mid : Account
  pub now : Account
  pub came : CameTo s done line turns first mid
  pub past : IsPastMessages (next_turn s done line turns)
  pub has : HasHashed (next_turn s done line turns).hashed mid now

-- A hasher rejected, in this way, one of the strings that the peers hash before the first line; or the
-- run came to a turn of a line, and the hasher rejected one of the strings of this turn.
abbrev pub RejectsIn : Schedule → Account → (List (List ℕ) → Account → Type 0) → Type 0
RejectsIn s first rejects =
    rejects (run_after s []).hashed first
    ⊎ ((done : List ScheduleEvent) × (line : ScheduleEvent) × (turns : ℕ) × (mid : Account) × CameTo s done line turns first mid × rejects (next_turn s done line turns).hashed mid)

-- where an error ended the run
abbrev pub StopsIn : Schedule → Account → Account → WorldError → Type 0
StopsIn s first now MessageLimit = PassesLimit s first
StopsIn s first now e = RejectsIn s first (λ strings mid. IsCutOff strings mid now e)
