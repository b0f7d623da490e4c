use Rattle.std.proofs.Common.{refl}
use Rattle.world_model.proofs.Begins.{begins_by}
use Rattle.world_model.proofs.world.World.call.Goals as goal

pub returns-in_err-copy-clause-begins : goal.returns-in_err-copy-clause-begins
returns-in_err-copy-clause-begins g c = begins_by c.args.self.now c.args.self.now refl refl

pub returns-in_err-copy-2-clause-begins : goal.returns-in_err-copy-2-clause-begins
returns-in_err-copy-2-clause-begins g c = begins_by c.args.self.now c.args.self.now refl refl
