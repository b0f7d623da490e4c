-- Calm schedules.
use Rattle.std.specs.Prelude.{◌≡◌, ℕ, List, [], ◌∷◌}
use Rattle.ens_base.specs.Lists.{◌∈◌}
use Rattle.calm_step_laws.specs.WorldSpec.{HasNoClash}
use Rattle.schedule_text.specs.Spelling.{IsSchedule}
use Rattle.schedule_text.specs.declared.event.ScheduleEvent.{ScheduleEvent}
use Rattle.schedule_text.specs.declared.event.ScheduleEvent.TheVariants.{Call, Tick, Calm}
use Rattle.schedule_text.specs.declared.schedule.Schedule.{Schedule}
use Rattle.world_refinement.specs.WorldSpec.{run_of_schedule, IsWithinMessages, Run}

-- only pairs of a call at this peer and a calm
abbrev pub ArePairs : ℕ → List ScheduleEvent → Type 0
ArePairs p [] = Unit {0}
ArePairs p (Call q id key command ∷ Calm ∷ more) = (q ≡ p) × ArePairs p more
ArePairs p other = ⊥

-- Six ticks of a member of the view, and a calm; and then only calls at this member, each followed by
-- a calm.
abbrev pub IsCalmAt : ℕ → List ScheduleEvent → Type 0
IsCalmAt p (Tick q n ∷ Calm ∷ more) = (q ≡ p) × (n ≡ 6) × ArePairs p more
IsCalmAt p other = ⊥

-- nothing in the schedule keeps a call from being completed
pub record IsUndisturbed (s : Schedule) : Type 0 where
  pub peer : ℕ
  pub member : peer ∈ s.view
  pub calm : IsCalmAt peer s.events

-- the run of the schedule
abbrev pub run_of : Schedule → Run
run_of s = run_of_schedule s.form s.peers s.view s.events

-- The run is that of an undisturbed schedule, it stays within the limit on messages, and no two different
-- strings that it hashed have the same MD5.
pub record RunsUndisturbed (s : Schedule) : Type 0 where
  pub schedule : IsSchedule s
  pub undisturbed : IsUndisturbed s
  pub within : IsWithinMessages (run_of s)
  pub apart : HasNoClash (run_of s).hashed
