-- A replay of the text of a generated schedule.
use Rattle.std.proofs.Common.{◌≡◌, ◌≤◌, ℕ, List, Some, ap, ◌∙◌}
use Rattle.ens_base.specs.declared.status.Status.{Status}
use Rattle.root.proofs.ReplayJob.{forward_sound, one_text, text_replayed}
use Rattle.root.specs.ReplayJob.{EndsInRun, Prints, summary_text, schedule_run}
use Rattle.schedule_generator.proofs.Calls.{generated_forward, generated_valid}
use Rattle.schedule_generator.specs.Generated.{generate}
use Rattle.schedule_text.specs.Spelling.{schedule_text}
use Rattle.ensemble.specs.Top.{PrintsSummary}

pub generated_replayed : (number calls : ℕ) (status : Status) (text : List ℕ) → calls ≤ 20000 → Prints (Some (schedule_text (generate number calls))) status text → EndsInRun (generate number calls) status text
generated_replayed number calls status text few h =
    text_replayed (generate number calls) status text (generated_valid number calls few)
    (forward_sound (generate number calls) (generated_valid number calls few) (generated_forward number calls)) h

pub generated_summed : (number calls : ℕ) (summary text : List ℕ) → calls ≤ 20000 → PrintsSummary number calls Status.Done summary → Prints (Some (schedule_text (generate number calls))) Status.Done text → summary ≡ summary_text (generate number calls) (schedule_run (generate number calls)).printed text
generated_summed number calls summary text few h p =
    let run = schedule_run (generate number calls) in
    let ran = generated_replayed number calls Status.Done text few p in
    h.0.1.2 ∙ ap (summary_text (generate number calls) run.printed) (one_text run h.0.1.0 text h.0.1.1 ran.0.1)
