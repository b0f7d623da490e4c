use Rattle.std.proofs.Common.{◌≡◌, ◌++◌, drop}
use Rattle.synctree.specs.Sixteen.{digests_of}
use Rattle.synctree.proofs.shape.digests.Given as goal

abbrev pub invariant-loop-child : goal.invariant-loop-child
invariant-loop-child l = digests_of l.fn.children ≡ l.all.items ++ digests_of (drop l.child-index l.children)
