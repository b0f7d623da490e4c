use Rattle.std.proofs.Common.{arith}
use Rattle.synctree.proofs.Spreading.{mask_room, byte_small}
use Rattle.synctree.proofs.shape.mask.Goals as goal

pub overflow_mul-mask : goal.overflow_mul-mask
overflow_mul-mask c = let room = mask_room c.args.children.now c.loop-c.c c.loop-c-test.true c.loop-c.invariant.bound c.requires in omega (arith, room, c.loop-c.invariant.so_far)

pub overflow_add-mask : goal.overflow_add-mask
overflow_add-mask c = let room = mask_room c.args.children.now c.loop-c.c c.loop-c-test.true c.loop-c.invariant.bound c.requires in omega (arith, room, c.loop-c.invariant.so_far, c.from.ensures, byte_small c.is_some.result)
