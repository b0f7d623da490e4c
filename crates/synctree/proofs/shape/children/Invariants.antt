use Rattle.std.proofs.Common.{◌≡◌, ◌≤◌, ◌+◌, ◌++◌, ℕ, drop}
use Rattle.synctree.specs.Sixteen.{spread, children_of}
use Rattle.synctree.proofs.shape.children.Given as goal

abbrev pub invariant-loop : goal.invariant-loop
invariant-loop l = record {
  split : (k : ℕ) → k + l.counter ≡ 16 → children_of l.node.mask l.node.digests ≡ l.all.items ++ spread k l.mask (drop l.next l.digests);
  few : l.next ≤ l.counter;
}
