-- What a step shows.
use Rattle.std.proofs.Common.{◌≡◌, ◌++◌, ◌∷◌, ℕ, Bool, List, [], None, Some, Result, Ok, Err, length, map, slice_get, refl, sym}
use Rattle.std.specs.Prelude.{drop, OnOk}
use Rattle.std.proofs.lemmas.List.{append_assoc, append-nil}
use Rattle.schedule_text.specs.declared.event.ScheduleEvent.{ScheduleEvent}
use Rattle.wire_frames.specs.declared.frame.Frame.{Frame}
use Rattle.world_model.specs.Activities.{activity_at, is_stale}
use Rattle.world_model.specs.declared.watching.Activity.{Activity}
use Rattle.world_spec.specs.Lines.{applied}
use Rattle.world_spec.specs.Runs.{Run, delivered, unhashed}
use Rattle.chart.specs.declared.fate.Fate.{Fate}
use Rattle.chart.specs.Lines.{delivery_lines, fate_at, step_lines_if, stepped_by}
use Rattle.chart.specs.Notes.{arrow_line, change_note, note_line, printed_words}

-- the lines of a step, from what was known before it
abbrev pub shown_since : ℕ → ℕ → Activity → Run → List (List ℕ)
shown_since peer printed activity next = map (λ p. note_line peer (printed_words p)) (drop printed next.printed) ++ change_note peer activity (activity_at peer next)

pub delivery_drawn : (old arrowed final : List (List ℕ)) (n : ℕ) (f : Frame) (w next : Run) (fate : Fate) (stale : Bool) (peer printed : ℕ) (activity : Activity) → slice_get w.mail.sent n ≡ Some f → peer ≡ f.to → printed ≡ length w.printed
    → activity ≡ activity_at f.to w → stale ≡ is_stale n w → fate ≡ fate_at stale activity → arrowed ≡ old ++ arrow_line fate f ∷ [] → next ≡ unhashed (delivered n w) → final ≡ arrowed ++ shown_since peer printed activity next → final ≡ old ++ delivery_lines n w
delivery_drawn old arrowed final n f w next fate stale peer printed activity here is were did old_one fated arrow led last =
    rw last (rw arrow (rw fated (rw old_one (rw did (rw were (rw is (rw led (rw here (append_assoc old _ _)))))))))

pub no_delivery : (old : List (List ℕ)) (n : ℕ) (w : Run) → slice_get w.mail.sent n ≡ None → old ≡ old ++ delivery_lines n w
no_delivery old n w none = rw none (sym (append-nil old))

pub step_drawn : (old final : List (List ℕ)) (event : ScheduleEvent) (w next : Run) (peer printed : ℕ) (activity : Activity) (who : ℕ) → Some who ≡ stepped_by event → peer ≡ who → printed ≡ length w.printed → activity ≡ activity_at who w
    → next ≡ unhashed (applied event w) → final ≡ old ++ shown_since peer printed activity next → final ≡ old ++ step_lines_if (stepped_by event) w (applied event w)
step_drawn old final event w next peer printed activity who steps is were did led last = rw last (rw did (rw were (rw is (rw led (rw (← steps) refl)))))

-- what was printed, and then the change of what the peer is doing
pub step_shown : (old printed final shown : List (List ℕ)) (peer : ℕ) (before after : Activity) (w : Run) → printed ≡ old ++ shown → after ≡ activity_at peer w → final ≡ printed ++ change_note peer before after
    → final ≡ old ++ (shown ++ change_note peer before (activity_at peer w))
step_shown old printed final shown peer before after w first is last = rw last (rw first (rw is (append_assoc old shown _)))

pub on_any : {T E : Type 0} (P : Type 0) (r : Result T E) → P → OnOk r P
on_any P (Ok x) holds = holds
on_any P (Err e) holds = tt
