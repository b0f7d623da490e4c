use Rattle.std.proofs.Common.{◌≡◌, None, length, drop, replicate}
use Rattle.tree_repair.specs.Inner.{filled}
use Rattle.tree_repair.proofs.inner.inner_text.Given as goal

abbrev pub invariant-loop-i : goal.invariant-loop-i
invariant-loop-i l = record {
  long : length l.children ≡ 16;
  rest : filled 16 l.children (drop l.i l.indexes) (drop l.i l.names) ≡ filled 16 (replicate 16 None) l.indexes l.names;
}
