use Rattle.std.proofs.Common.{◌≡◌, ◌++◌, map, take, drop}
use Rattle.tree_repair.specs.Hashers.{digest_if}
use Rattle.tree_repair.proofs.hashing.hash_whole.Given as goal

abbrev pub invariant-loop-i : goal.invariant-loop-i
invariant-loop-i l = l.found ≡ map digest_if (take l.i l.nodes) ++ drop l.i l.fn.found
