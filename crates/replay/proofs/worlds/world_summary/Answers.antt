use Rattle.std.proofs.Common.{List, ap, subst, ◌∙◌, string_bytes}
use Rattle.register_model.specs.declared.printed.Printed.{Printed}
use Rattle.world_model.specs.WorldSpec.{Run}
use Rattle.replay.specs.Summary.{summary_text}
use Rattle.replay.specs.Text.{IsTextOfRun}
use Rattle.replay.specs.Worlds.{schedule_run}
use Rattle.replay.proofs.worlds.world_summary.Goals as goal

pub returns-in-Ok : goal.returns-in-Ok
returns-in-Ok g c =
    let s = c.args.schedule.now in
    let text = string_bytes c.in_ok-text-in-Ok.text in
    let is = c.in-Ok.ensures.reaches in (
      is.1,
      (
        text,
        subst (λ (w : Run). IsTextOfRun w text) is.0 c.in_ok-text-in-Ok.ensures,
        c.in_ok-write_summary-in-Ok.ensures ∙ ap (λ (ps : List Printed). summary_text s ps c.as_str.result.now) (c.printed.ensures ∙ ap (λ (w : Run). w.printed) is.0) ∙ ap (summary_text s (schedule_run s).printed) c.as_str.ensures.value,
      ),
    )
