use Rattle.std.proofs.Common.{drop}
use Rattle.tree_repair.specs.Hashers.{hasher_does, hasher_refuses}
use Rattle.tree_repair.proofs.Loops.{HashesOn}
use Rattle.tree_repair.proofs.admitting.admit_level.Given as goal

abbrev pub invariant-loop-i : goal.invariant-loop-i
invariant-loop-i g l = HashesOn (hasher_does g.H.Hasher16.kept g.H.Hasher16.clashes g.H.Hasher16.fulls) (hasher_refuses g.H.Hasher16.kept g.H.Hasher16.clashes g.H.Hasher16.fulls) l.reads (drop l.i l.reads) l.fn.hasher l.hasher
