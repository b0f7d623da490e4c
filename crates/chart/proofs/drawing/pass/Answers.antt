use Rattle.world_model.proofs.Begins.{begins_same}
use Rattle.chart.proofs.drawing.pass.Goals as goal

pub returns-in-None-clause-begins : goal.returns-in-None-clause-begins
returns-in-None-clause-begins g c = begins_same c.args.world.now
