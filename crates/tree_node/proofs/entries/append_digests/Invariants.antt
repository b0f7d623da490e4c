use Rattle.std.proofs.Common.{◌≡◌, ◌++◌, take}
use Rattle.tree_node.specs.Entries.{digests_spelling, AreDigests}
use Rattle.tree_node.proofs.entries.append_digests.Given as goal

abbrev pub invariant-loop-digest : goal.invariant-loop-digest
invariant-loop-digest l = record {
  written : l.out.items ≡ l.initial.out.items ++ digests_spelling (take l.digest-index l.digests);
  valid : AreDigests (take l.digest-index l.digests);
}
