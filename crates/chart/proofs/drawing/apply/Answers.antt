use Rattle.std.proofs.Common.{sym, ◌∙◌}
use Rattle.world_model.specs.Worlds.{run_of}
use Rattle.chart.proofs.Steps.{step_drawn}
use Rattle.chart.proofs.drawing.apply.Goals as goal

pub returns-clause-lines : goal.returns-clause-lines
returns-clause-lines g c =
    step_drawn c.args.lines.now c.add_step.new.lines c.args.event.now (run_of c.args.world.now) (run_of c.apply-2.new.self) c.of-before.result.peer c.of-before.result.printed c.of-before.result.activity c.in-Some.peer (sym c.in-Some.is ∙ c.stepped_by.ensures)
    c.of-before.ensures.peer c.of-before.ensures.printed c.of-before.ensures.activity c.in_ok-apply.ensures.reaches.0 c.in_ok-add_step.ensures
