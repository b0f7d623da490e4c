use Rattle.std.specs.Prelude.{string_bytes}
use Rattle.backup_job.specs.Printed.{PrintsCheck, Stops}
use Rattle.backup_job.specs.declared.ending.Ending.{Ending}
use Rattle.backup_job.proofs.Reading.{ok_weaker, stopped_prints, stopped_whole}
use Rattle.backup_job.proofs.checking.check_ending.Goals as goal

pub returns-in-Err-clause-printed : goal.returns-in-Err-clause-printed
returns-in-Err-clause-printed g c = ok_weaker c.stopped.result (λ (e : Ending). Stops c.in-Err.error e.status (string_bytes e.text)) (λ (e : Ending). PrintsCheck (g.S.Source.left c.args.input.now) e.status (string_bytes e.text))
    (λ e h. stopped_prints (g.S.Source.left c.args.input.now) c.in-Err.error e.status (string_bytes e.text) c.in-Err.ensures.reads h) c.stopped.ensures

pub returns-in-Err-clause-end : goal.returns-in-Err-clause-end
returns-in-Err-clause-end g c = stopped_whole c.stopped.result _ c.in-Err.error c.stopped.ensures c.in-Err.ensures.whole
