-- The run of a schedule in a world.
use Rattle.schedule_text.specs.declared.schedule.Schedule.{Schedule}
use Rattle.world_model.specs.WorldSpec.{run_of_schedule, Run}

-- the run of a schedule, in a world with all its peers
abbrev pub schedule_run : Schedule → Run
schedule_run s = run_of_schedule s.form s.peers s.view s.events
