use Rattle.std.proofs.Common.{refl}
use Rattle.world_model.proofs.Begins.{begins_by}
use Rattle.world_model.proofs.world.World.pass.Goals as goal

pub returns-in-None-clause-begins : goal.returns-in-None-clause-begins
returns-in-None-clause-begins g c = begins_by c.args.self.now c.args.self.now refl refl
