use Rattle.std.proofs.Common.{◌≡◌, ◌≤◌, ◌+◌, ℕ, None, drop, get_or}
use Rattle.synctree.specs.Sixteen.{spread, children_of}
use Rattle.synctree.proofs.shape.child_in.Given as goal

abbrev pub invariant-loop : goal.invariant-loop
invariant-loop l = record {
  left : (k j : ℕ) → k + l.counter ≡ 16 → j + l.counter ≡ l.digit → get_or (children_of l.node.mask l.node.digests) l.digit None ≡ get_or (spread k l.mask (drop l.next l.digests)) j None;
  few : l.next ≤ l.counter;
}
