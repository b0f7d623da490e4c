use Rattle.std.proofs.Common.{◌≡◌, ◌++◌, length, drop, map}
use Rattle.tree_repair.specs.Builds.{somes, stored}
use Rattle.tree_repair.proofs.Admissions.{TriesOn}
use Rattle.tree_repair.proofs.building.keep_all.Given as goal

abbrev pub invariant-loop-i : goal.invariant-loop-i
invariant-loop-i g l = record {
  rest : drop l.i l.texts.items ≡ drop l.i l.fn.texts.items;
  count : length l.texts.items ≡ length l.fn.texts.items;
  nodes : l.nodes.items ++ map stored (somes (drop l.i l.fn.texts.items)) ≡ l.fn.nodes.items ++ map stored (somes l.fn.texts.items);
  admits : TriesOn g.H.Hasher16.kept g.H.Hasher16.clashes g.H.Hasher16.fulls l.fn.texts.items (drop l.i l.fn.texts.items) l.fn.hasher l.hasher;
}
