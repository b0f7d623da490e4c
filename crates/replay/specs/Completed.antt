-- Runs that complete each call of their schedule.
use Rattle.std.specs.Prelude.{◌≡◌}
use Rattle.register_model.specs.Histories.{is_done, is_refused}
use Rattle.replay.specs.Summary.{call_count, reply_count, unknown_count}
use Rattle.replay.specs.Worlds.{schedule_run}
use Rattle.schedule_text.specs.declared.schedule.Schedule.{Schedule}

-- as many calls were completed as the schedule has; none was refused, and none is unknown
pub record CompletesAll (s : Schedule) : Type 0 where
  pub done : reply_count is_done (schedule_run s).printed ≡ call_count s
  pub refused : reply_count is_refused (schedule_run s).printed ≡ 0
  pub unknown : unknown_count s (schedule_run s).printed ≡ 0
