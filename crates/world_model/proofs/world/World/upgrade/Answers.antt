use Rattle.std.proofs.Common.{arith}
use Rattle.world_model.proofs.world.World.upgrade.Goals as goal

pub insert-requires : goal.insert-requires
insert-requires c = (c.requires.0, omega (arith, c.requires.1, c.args.self.now.few))
