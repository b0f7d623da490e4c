-- The lines that deliver and lose no message.
use Rattle.std.proofs.Common.{◌≡◌, ℕ, List, refl}
use Rattle.schedule_text.specs.declared.event.ScheduleEvent.{ScheduleEvent}
use Rattle.schedule_text.specs.declared.event.ScheduleEvent.TheVariants.{Deliver, Pass, Lose, Calm, CalmAmong}
use Rattle.world_spec.specs.Lines.{applied}
use Rattle.world_spec.specs.Runs.{Run}
use Rattle.chart.specs.Lines.{effect_lines, stepped_by, step_lines_if}

-- such a line shows the step of its peer, if one takes a step
pub plain_lines : (event : ScheduleEvent) (w : Run)
    → ((message : ℕ) → event ≡ Deliver message → ⊥)
    → ((sender receiver : ℕ) → event ≡ Pass sender receiver → ⊥)
    → ((sender receiver : ℕ) → event ≡ Lose sender receiver → ⊥)
    → (event ≡ Calm → ⊥)
    → ((members : List ℕ) → event ≡ CalmAmong members → ⊥)
    → step_lines_if (stepped_by event) w (applied event w) ≡ effect_lines event w
plain_lines (Deliver message) w deliver pass lose calm among = absurd (deliver message refl)
plain_lines (Pass sender receiver) w deliver pass lose calm among = absurd (pass sender receiver refl)
plain_lines (Lose sender receiver) w deliver pass lose calm among = absurd (lose sender receiver refl)
plain_lines Calm w deliver pass lose calm among = absurd (calm refl)
plain_lines (CalmAmong members) w deliver pass lose calm among = absurd (among members refl)
plain_lines other w deliver pass lose calm among = refl
