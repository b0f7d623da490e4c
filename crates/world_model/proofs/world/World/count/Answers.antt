use Rattle.std.proofs.Common.{refl}
use Rattle.world_model.proofs.Begins.{begins_by}
use Rattle.world_model.proofs.world.World.count.Goals as goal

pub returns-in_err-key-clause-begins : goal.returns-in_err-key-clause-begins
returns-in_err-key-clause-begins c = begins_by c.args.self.now _ refl refl

pub returns-in_err-push-clause-begins : goal.returns-in_err-push-clause-begins
returns-in_err-push-clause-begins c = begins_by c.args.self.now _ refl refl

pub returns-clause-begins : goal.returns-clause-begins
returns-clause-begins c = begins_by c.args.self.now _ refl refl
