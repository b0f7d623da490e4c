use Rattle.std.proofs.Common.{◌∙◌}
use Rattle.cluster.proofs.Stepping.{opened_schedule, opening_refused, opening_step}
use Rattle.cluster.proofs.recorder.Recorder.open.Goals as goal

pub returns-in_err-world-clause-refused : goal.returns-in_err-world-clause-refused
returns-in_err-world-clause-refused g c = opening_refused c.args.words.now _ _ c.from_residual.result _ c.in_err-world.field-0.0 c.from_residual.ensures.1 (λ d same. same) c.in_err-world.ensures.error

pub returns-clause-opened : goal.returns-clause-opened
returns-clause-opened g c =
    let same = opened_schedule c.args.words.now c.new-events.result (c.new-events.ensures ∙ c.new.ensures.items) in
    record { step = opening_step c.args.words.now _ same c.in_ok-world.ensures.ok c.new-2.ensures; schedule = same; took = c.in_ok-world.ensures.hashed }
