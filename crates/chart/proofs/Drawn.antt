-- The lines of a run, one event after another.
use Rattle.std.proofs.Common.{◌≡◌, ◌≤◌, ◌+◌, ◌++◌, ℕ, Some, List, [], length, slice_get, refl, sym, ap, ◌∙◌}
use Rattle.std.specs.Prelude.{drop}
use Rattle.std.proofs.lemmas.List.{append_assoc}
use Rattle.schedule_text.specs.declared.event.ScheduleEvent.{ScheduleEvent}
use Rattle.world_model.proofs.Events.{drop_one, drop_past}
use Rattle.world_spec.specs.Lines.{applied}
use Rattle.world_spec.specs.Runs.{Run, unhashed}
use Rattle.chart.specs.declared.fate.Fate.{Fate}
use Rattle.chart.specs.declared.fate.Which.{Which}
use Rattle.chart.specs.Lines.{arrows, effect_lines, lines_from}
use Rattle.chart.specs.Notes.{event_note}

-- some events have been drawn, and the lines so far and those of the rest are all lines
abbrev pub IsDrawn : List ScheduleEvent → ℕ → List (List ℕ) → Run → List (List ℕ) → Type 0
IsDrawn all place lines now whole = lines ++ lines_from (place + 1) (drop place all) now ≡ whole

pub drawn_first : (all : List ScheduleEvent) (w now : Run) → now ≡ w → IsDrawn all 0 [] now (lines_from 1 all w)
drawn_first all w now is = rw is refl

pub drawn_next : (all : List ScheduleEvent) (place : ℕ) (event : ScheduleEvent) (lines noted more whole : List (List ℕ)) (now next : Run) → slice_get all place ≡ Some event → IsDrawn all place lines now whole
    → noted ≡ lines ++ event_note (place + 1) event → more ≡ noted ++ effect_lines event now → next ≡ unhashed (applied event now) → IsDrawn all (place + 1) more next whole
drawn_next all place event lines noted more whole now next here drawn note effect did =
    let later = lines_from (place + 1 + 1) (drop (place + 1) all) (unhashed (applied event now)) in
    let due = event_note (place + 1) event ++ effect_lines event now ++ later in
    let unfolded : lines_from (place + 1) (drop place all) now ≡ due = ap (λ es. lines_from (place + 1) es now) (drop_one all place event here) in
    rw effect (rw note (rw did (ap (λ l. l ++ later) (append_assoc lines (event_note (place + 1) event) (effect_lines event now))
    ∙ (append_assoc lines (event_note (place + 1) event ++ effect_lines event now) later ∙ (ap (λ l. lines ++ l) (sym unfolded) ∙ drawn)))))

pub drawn_last : (all : List ScheduleEvent) (place : ℕ) (lines final whole : List (List ℕ)) (now : Run) → length all ≤ place → IsDrawn all place lines now whole
    → final ≡ lines ++ arrows Fate.Waiting Which.Every now.mail → final ≡ whole
drawn_last all place lines final whole now le drawn left = left ∙ (ap (λ es. lines ++ lines_from (place + 1) es now) (sym (drop_past all place le)) ∙ drawn)
