-- A schedule that grows by the lines that are drawn.
use Rattle.std.specs.Prelude.{◌≡◌, ℕ, List, ◌++◌}
use Rattle.schedule_text.specs.declared.event.ScheduleEvent.{ScheduleEvent}
use Rattle.schedule_generator.specs.Drawing.{Drawing}
use Rattle.schedule_generator.specs.declared.generator.Generator.{Generator}

-- the peer and the lines were drawn: the peer leads, and the lines were added
pub record Grows (drawing : Drawing (ℕ × List ScheduleEvent)) (old new : Generator) : Type 0 where
  pub x : new.x ≡ (drawing old.x).0
  pub leader : new.leader ≡ (drawing old.x).1.0
  pub events : new.events.items ≡ old.events.items ++ (drawing old.x).1.1
