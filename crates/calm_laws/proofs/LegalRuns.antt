-- A run of a schedule that reverts no tree has legal histories.
use Rattle.std.specs.Prelude.{◌<◌, ◌≤◌, ◌^◌, ℕ, List, length}
use Rattle.world_refinement.proofs.ScheduleLaws.{schedules_are_legal}
use Rattle.world_refinement.specs.Lines.{AreLegal, lines_of}
use Rattle.ens_base.specs.Lists.{AreDistinct}
use Rattle.ens_base.specs.View.{IsView}
use Rattle.calm_step_laws.specs.WorldSpec.{HasNoClash}
use Rattle.history_scribe.specs.Histories.{AreHistories}
use Rattle.register_model.specs.declared.history.History.{History}
use Rattle.schedule_text.specs.Spelling.{AllMayStand, call_ids}
use Rattle.schedule_text.specs.declared.event.ScheduleEvent.{ScheduleEvent}
use Rattle.schedule_text.specs.declared.form.Form.{Form}
use Rattle.role_laws.specs.Facts.{AreFirm}
use Rattle.world_refinement.specs.WorldSpec.{run_of_schedule}

pub legal : (form : Form) (peers : ℕ) (view : List ℕ) (events : List ScheduleEvent) → peers ≤ 31 → IsView view → length events < 2 ^ 32 → AreFirm (lines_of form view events) → AllMayStand peers events → AreDistinct (call_ids events) → HasNoClash (run_of_schedule form peers view events).hashed
    → (histories : List History) → AreHistories (run_of_schedule form peers view events).notes (run_of_schedule form peers view events).called histories → AreLegal events (run_of_schedule form peers view events).printed histories
legal = schedules_are_legal
