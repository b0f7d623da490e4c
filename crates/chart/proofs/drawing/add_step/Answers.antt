use Rattle.world_model.specs.Worlds.{run_of}
use Rattle.chart.proofs.Steps.{step_shown}
use Rattle.chart.proofs.drawing.add_step.Goals as goal

pub returns : goal.returns
returns c = step_shown c.args.lines.now c.add_printed.new.lines c.change.new.self _ c.args.before.now.peer c.args.before.now.activity c.activity.result (run_of c.args.world.now) c.in_ok-add_printed.ensures c.activity.ensures c.in_ok-change.ensures
