use Rattle.std.proofs.Common.{◌≡◌, ◌≤◌, length, drop}
use Rattle.synctree.specs.Sixteen.{mask_of}
use Rattle.synctree.proofs.shape.mask.Given as goal

abbrev pub invariant-loop-c : goal.invariant-loop-c
invariant-loop-c l = record {
  bound : l.c ≤ length l.children;
  so_far : l.mask ≡ mask_of (drop l.c l.children);
}

abbrev pub decreases-loop-c : goal.decreases-loop-c
decreases-loop-c l = l.c
